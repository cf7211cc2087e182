-- Letters found and cut out of a list.
use Rattle.std.proofs.Common.{◌≡◌, ℕ, suc, ◌<◌, ◌≤◌, Bool, true, false, not, List, [], ◌∷◌, length, get_or, cond, Some, None, sym, ◌+◌, one-add, refl, ap, arith}
use Rattle.std.specs.List.{position, position_or_len, remove}
use Rattle.std.proofs.lemmas.Option.{cond_some}
use Rattle.std.proofs.lemmas.Bool.{ltb-true, ltb-false}
use Rattle.sums.specs.Sums.{each, pick}
use Rattle.machine.specs.Run as run
use Rattle.machine.specs.Run.{is_between, touches, first_between, without_first}
use Rattle.world.specs.Posts.{as_letter}
use Rattle.world.specs.declared.post.Letter.{Letter}

-- without the first there is none: nothing is taken out
pub none_rest : (i j : ℕ) (ls : List run.Letter) → first_between i j ls ≡ [] → without_first i j ls ≡ ls
unfolding first_between without_first
none_rest i j [] none = refl
none_rest i j (l ∷ ls) none = go (is_between i j l) none (none_rest i j ls)
  where
    go : (b : Bool) → pick b (l ∷ []) (first_between i j ls) ≡ [] → (first_between i j ls ≡ [] → without_first i j ls ≡ ls) → pick b ls (l ∷ without_first i j ls) ≡ l ∷ ls
    go true h k = cc
    go false h k = ap (λ xs. l ∷ xs) (k h)

no_place : (b : Bool) (p : ℕ) → None ≡ cond b (Some p) None → b ≡ false
no_place true p e = cc
no_place false p e = refl

module _ (i j : ℕ) where
  abbrev pub here : Letter → Bool
  here l = is_between i j (as_letter l)

  taken_rest : (ws : List Letter) → each as_letter (remove ws (position_or_len here ws)) ≡ without_first i j (each as_letter ws)
  unfolding each without_first
  taken_rest [] = refl
  taken_rest (x ∷ ws) = go (here x) (position_or_len here ws) (taken_rest ws)
    where
      go : (b : Bool) (k : ℕ) → each as_letter (remove ws k) ≡ without_first i j (each as_letter ws) →
          each as_letter (remove (x ∷ ws) (cond (not b) (1 + k) 0)) ≡ pick b (each as_letter ws) (as_letter x ∷ without_first i j (each as_letter ws))
      go true k e = refl
      go false k e = rw one-add (ap (λ l. as_letter x ∷ l) e)

  taken_first : (ws : List Letter) (y : Letter) → position_or_len here ws < length ws → y ≡ get_or ws (position_or_len here ws) y →
      first_between i j (each as_letter ws) ≡ as_letter y ∷ []
  unfolding each first_between
  taken_first [] y lt is = absurd (omega arith)
  taken_first (x ∷ ws) y lt is = go (here x) (position_or_len here ws) (taken_first ws y) lt is
    where
      go : (b : Bool) (k : ℕ) → (k < length ws → y ≡ get_or ws k y → first_between i j (each as_letter ws) ≡ as_letter y ∷ []) →
          cond (not b) (1 + k) 0 < suc (length ws) → y ≡ get_or (x ∷ ws) (cond (not b) (1 + k) 0) y →
          pick b (as_letter x ∷ []) (first_between i j (each as_letter ws)) ≡ as_letter y ∷ []
      go true k f lt is = ap (λ l. as_letter l ∷ []) (sym is)
      go false k f lt is = f (omega arith) (rw one-add at is)

  none_first : (ws : List Letter) → length ws ≤ position_or_len here ws → first_between i j (each as_letter ws) ≡ []
  unfolding each first_between
  none_first [] le = refl
  none_first (x ∷ ws) le = go (here x) (position_or_len here ws) (none_first ws) le
    where
      go : (b : Bool) (k : ℕ) → (length ws ≤ k → first_between i j (each as_letter ws) ≡ []) → suc (length ws) ≤ cond (not b) (1 + k) 0 →
          pick b (as_letter x ∷ []) (first_between i j (each as_letter ws)) ≡ []
      go true k f le = absurd (omega arith)
      go false k f le = f (omega arith)

  -- what is at the place that was looked for
  module _ (ws xs : List Letter) (is : xs ≡ ws) where
    pub none_there : None ≡ position here xs → first_between i j (each as_letter ws) ≡ []
    none_there e = none_first ws (ltb-false _ _ (no_place _ _ (rw is at e)))

    pub found_there : (k : ℕ) (y : Letter) → Some k ≡ position here xs → y ≡ get_or ws k y →
        (first_between i j (each as_letter ws) ≡ as_letter y ∷ []) × (each as_letter (remove ws k) ≡ without_first i j (each as_letter ws))
    found_there k y e at =
        let place = cond_some _ _ _ (sym (rw is at e)) in
        (taken_first ws y (ltb-true _ _ place.0) (rw (← place.1) at at), rw (← place.1) (taken_rest ws))
