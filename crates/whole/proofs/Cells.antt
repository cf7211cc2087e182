-- Cells of a memory: what is set or written is there, and nothing else changes.
use Rattle.std.proofs.Common.{◌≡◌, ◌⊎◌, inl, inr, ℕ, refl, sym, ap, subst, Bool, true, false, cond, ◌&&◌, eqb, ltb, leb, ◌+◌, ◌-◌, ◌<◌, ◌≤◌, List, [], ◌∷◌, ◌++◌, length, get_or, set, take, drop, ◌∙◌, ⊎_elim, arith}
use Rattle.std.proofs.lemmas.Bool.{and_parts, ltb-true, leb-true, eqb-true, eq-eqb, both_ways, cases_Bool}
use Rattle.sums.specs.Sums.{or}
use Rattle.std.proofs.lemmas.List.{length-set, get_or-set_same, get_or-set_other, get_or_append_left, get_or-append_right, get_or-take, get_or-drop, length-take-le}
use Rattle.sums.specs.Written.{written}
use Rattle.gauge.specs.Memory.{at}

pub here : (m : List ℕ) (i x : ℕ) → i < length m → at (set m i x) i ≡ x
here m i x lt = get_or-set_same m i x 0 lt

pub before : (m : List ℕ) (i x c : ℕ) → c < i → at (set m i x) c ≡ at m c
before m i x c lt = get_or-set_other m i c x 0 (λ e. omega (arith, e))

pub behind : (m : List ℕ) (i x c : ℕ) → i < c → at (set m i x) c ≡ at m c
behind m i x c lt = get_or-set_other m i c x 0 (λ e. omega (arith, e))

module _ (m ys : List ℕ) (a : ℕ) (le : a + length ys ≤ length m) where
  front_long : length (take a m) ≡ a
  front_long = length-take-le a m (omega arith)

  pub written_before : (c : ℕ) → c < a → at (written m a ys) c ≡ at m c
  written_before c lt = get_or_append_left (take a m) (ys ++ drop (a + length ys) m) 0 c (omega (arith, front_long)) ∙ get_or-take a m c 0 lt

  pub written_in : (c : ℕ) → c < length ys → at (written m a ys) (a + c) ≡ get_or ys c 0
  written_in c lt =
      let e : a + c - a ≡ c = omega arith in
      get_or-append_right (take a m) (ys ++ drop (a + length ys) m) a (a + c) 0 front_long (omega arith) ∙ simp e (get_or_append_left ys (drop (a + length ys) m) 0 c lt)

  pub written_behind : (c : ℕ) → a + length ys ≤ c → at (written m a ys) c ≡ at m c
  written_behind c ge =
      let e : a + length ys + (c - a - length ys) ≡ c = omega arith in
      get_or-append_right (take a m) (ys ++ drop (a + length ys) m) a c 0 front_long (omega arith)
      ∙ get_or-append_right ys (drop (a + length ys) m) (length ys) (c - a) 0 refl (omega arith)
      ∙ get_or-drop (a + length ys) m (c - a - length ys) 0 ∙ ap (at m) e

-- SOME CELLS SET, the last first
unfoldable pub sets : List (ℕ × ℕ) → List ℕ → List ℕ
sets [] m = m
sets (x ∷ xs) m = set (sets xs m) x.0 x.1

unfoldable pub found : List (ℕ × ℕ) → (cell otherwise : ℕ) → ℕ
found [] c v = v
found (x ∷ xs) c v = cond (eqb x.0 c) x.1 (found xs c v)

unfoldable pub all_in : (ℕ → Bool) → List (ℕ × ℕ) → Bool
all_in f [] = true
all_in f (x ∷ xs) = f x.0 && all_in f xs

pub length_sets : (xs : List (ℕ × ℕ)) (m : List ℕ) → length (sets xs m) ≡ length m
unfolding sets
length_sets [] m = refl
length_sets (x ∷ xs) m = length-set (sets xs m) x.0 x.1 ∙ length_sets xs m

-- the cells are within the memory
pub at_sets : (xs : List (ℕ × ℕ)) (m : List ℕ) (c : ℕ) → all_in (λ i. ltb i (length m)) xs ≡ true → at (sets xs m) c ≡ found xs c (at m c)
unfolding sets found all_in
at_sets [] m c h = refl
at_sets (x ∷ xs) m c h =
    let p = and_parts (ltb x.0 (length m)) _ h in
    let rest = at_sets xs m c p.1 in
    let lt = ltb-true _ _ p.0 in
    ⊎_elim
    (λ (e : eqb x.0 c ≡ true). subst (λ (b : Bool). at (set (sets xs m) x.0 x.1) c ≡ cond b x.1 (found xs c (at m c))) (sym e)
    (subst (λ j. at (set (sets xs m) x.0 x.1) j ≡ x.1) (eqb-true x.0 c e) (here (sets xs m) x.0 x.1 (omega (arith, lt, length_sets xs m)))))
    (λ (e : eqb x.0 c ≡ false). subst (λ (b : Bool). at (set (sets xs m) x.0 x.1) c ≡ cond b x.1 (found xs c (at m c))) (sym e)
    (get_or-set_other (sets xs m) x.0 c x.1 0 (λ q. both_ways _ e (eq-eqb x.0 c (sym q))) ∙ rest))
    (cases_Bool (eqb x.0 c))

-- cells from a on, up to b, if none of them is set
pub not_set : (xs : List (ℕ × ℕ)) (m : List ℕ) (a b c : ℕ) → all_in (λ i. or (ltb i a) (leb b i)) xs ≡ true → a ≤ c → c < b → at (sets xs m) c ≡ at m c
unfolding sets all_in
not_set [] m a b c h le lt = refl
not_set (x ∷ xs) m a b c h le lt =
    let p = and_parts (or (ltb x.0 a) (leb b x.0)) _ h in
    get_or-set_other (sets xs m) x.0 c x.1 0 (λ q. apart (cases_Bool (ltb x.0 a)) p.0 q) ∙ not_set xs m a b c p.1 le lt
  where
    apart : (ltb x.0 a ≡ true) ⊎ (ltb x.0 a ≡ false) → or (ltb x.0 a) (leb b x.0) ≡ true → c ≡ x.0 → ⊥
    apart (inl t) h q = omega (arith, ltb-true _ _ t, q)
    apart (inr f) h q = omega (arith, leb-true _ _ (subst (λ (b' : Bool). or b' (leb b x.0) ≡ true) f h), q)
