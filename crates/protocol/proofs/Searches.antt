-- Searches below a number: what the least place found says, and what it says that none is found; tests of all below.
use Rattle.std.proofs.Common.{◌≡◌, ℕ, zero, suc, ◌<◌, Bool, true, false, ◌⊎◌, Some, None, Option, sym, refl, ap, ap₂, ◌∙◌, inl, inr, ⊎_elim, arith}
use Rattle.std.proofs.lemmas.Bool.{cases_eq, and_parts, and_from}
use Rattle.sums.specs.Sums.{pick, or}
use Rattle.sums.proofs.Anys.{or_false, or_left, or_right}
use Rattle.protocol.specs.Searches.{find, all_below, any_below}

module _ (f : ℕ → Bool) where
  pub record Found (n k : ℕ) : Type 0 where
    pub below : k < n
    pub holds : f k ≡ true
    pub first : (j : ℕ) → j < k → f j ≡ false

  abbrev pub NoneBelow : ℕ → Type 0
  NoneBelow n = (j : ℕ) → j < n → f j ≡ false

  -- by cases, with P of what is found
  abbrev FindSays : ℕ → Option ℕ → Type 0
  FindSays n None = NoneBelow n
  FindSays n (Some k) = Found n k

  pub find_says : (n : ℕ) → FindSays n (find f n)
  unfolding find
  find_says zero = λ j lt. absurd (omega arith)
  find_says (suc n) = go (find f n) (find_says n)
    where
      here : (b : Bool) → f n ≡ b → NoneBelow n → FindSays (suc n) (pick b (Some n) None)
      here true e h = record { below = omega arith; holds = e; first = h }
      here false e h = λ j lt. ⊎_elim (λ q. ap f q ∙ e) (λ ne. h j (omega arith)) (cases_eq j n)

      go : (o : Option ℕ) → FindSays n o → FindSays (suc n) (elim o [ Some k ↦ Some k | None ↦ pick (f n) (Some n) None ])
      go (Some k) h = record { below = omega (arith, h.below); holds = h.holds; first = h.first }
      go None h = here (f n) refl h

  -- P of what comes of a search, by its two outcomes
  pub on_find : (n : ℕ) (P : Option ℕ → Type 0) → ((k : ℕ) → Found n k → P (Some k)) → (NoneBelow n → P None) → P (find f n)
  on_find n P some none = go (find f n) (find_says n)
    where
      go : (o : Option ℕ) → FindSays n o → P o
      go (Some k) h = some k h
      go None h = none h

  pub all_at : (n : ℕ) → all_below f n ≡ true → (j : ℕ) → j < n → f j ≡ true
  unfolding all_below
  all_at zero e j lt = absurd (omega arith)
  all_at (suc n) e j lt =
      let p = and_parts (all_below f n) (f n) e in ⊎_elim (λ q. ap f q ∙ p.1) (λ ne. all_at n p.0 j (omega arith)) (cases_eq j n)

  pub all_from : (n : ℕ) → ((j : ℕ) → j < n → f j ≡ true) → all_below f n ≡ true
  unfolding all_below
  all_from zero h = refl
  all_from (suc n) h = and_from (all_below f n) (f n) (all_from n (λ j lt. h j (omega arith))) (h n (omega arith))

  pub any_here : (n j : ℕ) → j < n → f j ≡ true → any_below f n ≡ true
  unfolding any_below
  any_here zero j lt e = absurd (omega arith)
  any_here (suc n) j lt e = ⊎_elim
      (λ q. or_right (any_below f n) (f n) (ap f (sym q) ∙ e)) (λ ne. or_left (any_below f n) (f n) (any_here n j (omega arith) e)) (cases_eq j n)

pub or_split : (a b : Bool) → or a b ≡ true → (a ≡ true) ⊎ (b ≡ true)
or_split true b e = inl refl
or_split false b e = inr e

pub any_found : (f : ℕ → Bool) (n : ℕ) → any_below f n ≡ true → (j : ℕ) × (j < n) × (f j ≡ true)
unfolding any_below
any_found f zero e = cc
any_found f (suc n) e = ⊎_elim
    (λ q. let r = any_found f n q in (r.0, omega (arith, r.1), r.2)) (λ q. (n, omega arith, q)) (or_split (any_below f n) (f n) e)

-- two functions that are the same below n
pub any_alike : (f g : ℕ → Bool) (n : ℕ) → ((j : ℕ) → j < n → f j ≡ g j) → any_below f n ≡ any_below g n
unfolding any_below
any_alike f g zero h = refl
any_alike f g (suc n) h = ap₂ or (any_alike f g n (λ j lt. h j (omega arith))) (h n (omega arith))

-- the first by itself
pub any_front : (f : ℕ → Bool) (n : ℕ) → any_below f (suc n) ≡ or (f 0) (any_below (λ j. f (suc j)) n)
unfolding any_below
any_front f zero = sym (or_false (f 0))
any_front f (suc n) = ap (λ b. or b (f (suc n))) (any_front f n) ∙ or_assoc (f 0) _ _
  where
    or_assoc : (a b c : Bool) → or (or a b) c ≡ or a (or b c)
    or_assoc true b c = refl
    or_assoc false b c = refl
