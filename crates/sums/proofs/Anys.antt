-- What holds of some element of a list: of two lists, and of one at a place.
use Rattle.std.proofs.Common.{◌≡◌, ℕ, zero, suc, ◌<◌, Bool, true, false, ◌⊎◌, List, [], ◌∷◌, ◌++◌, length, get_or, sym, refl, ap, ◌∙◌, inl, inr, arith}
use Rattle.sums.specs.Sums.{any, or}

pub or_true : (b : Bool) → or b true ≡ true
or_true true = refl
or_true false = refl

pub or_false : (b : Bool) → or b false ≡ b
or_false true = refl
or_false false = refl

pub or_left : (a b : Bool) → a ≡ true → or a b ≡ true
or_left a b e = ap (λ c. or c b) e

pub or_right : (a b : Bool) → b ≡ true → or a b ≡ true
or_right a b e = ap (or a) e ∙ or_true a

module _ {A : Type 0} (f : A → Bool) where
  pub any_append : (xs ys : List A) → any f (xs ++ ys) ≡ or (any f xs) (any f ys)
  unfolding any
  any_append [] ys = refl
  any_append (x ∷ xs) ys = go (f x) (any_append xs ys)
    where
      go : (b : Bool) → any f (xs ++ ys) ≡ or (any f xs) (any f ys) → or b (any f (xs ++ ys)) ≡ or (or b (any f xs)) (any f ys)
      go true h = refl
      go false h = h

  pub any_front : (xs ys : List A) → any f xs ≡ true → any f (xs ++ ys) ≡ true
  any_front xs ys h = any_append xs ys ∙ or_left (any f xs) (any f ys) h

  pub any_last : (xs : List A) (x : A) → f x ≡ true → any f (xs ++ x ∷ []) ≡ true
  unfolding any
  any_last xs x h = any_append xs (x ∷ []) ∙ or_right (any f xs) (or (f x) false) (or_left (f x) false h)

  pub any_at : (xs : List A) (i : ℕ) (d : A) → i < length xs → f (get_or xs i d) ≡ true → any f xs ≡ true
  unfolding any
  any_at [] i d lt h = absurd (omega arith)
  any_at (x ∷ xs) zero d lt h = or_left (f x) (any f xs) h
  any_at (x ∷ xs) (suc i) d lt h = or_right (f x) (any f xs) (any_at xs i d (omega arith) h)

  -- where one is found, there is its place
  pub any_place : (xs : List A) (d : A) → any f xs ≡ true → (i : ℕ) × (i < length xs) × (f (get_or xs i d) ≡ true)
  unfolding any
  any_place [] d h = cc
  any_place (x ∷ xs) d h = go (f x) refl h (any_place xs d)
    where
      go : (b : Bool) → f x ≡ b → or b (any f xs) ≡ true → (any f xs ≡ true → (i : ℕ) × (i < length xs) × (f (get_or xs i d) ≡ true)) →
          (i : ℕ) × (i < length (x ∷ xs)) × (f (get_or (x ∷ xs) i d) ≡ true)
      go true e q k = (0, omega arith, e)
      go false e q k = let r = k q in (suc r.0, omega (arith, r.1), r.2)

  -- in front, or the last
  pub any_split : (xs : List A) (x : A) → any f (xs ++ x ∷ []) ≡ true → (any f xs ≡ true) ⊎ (f x ≡ true)
  unfolding any
  any_split xs x h = go (any f xs) (f x) (sym (any_append xs (x ∷ [])) ∙ h)
    where
      go : (a b : Bool) → or a (or b false) ≡ true → (a ≡ true) ⊎ (b ≡ true)
      go true b q = inl refl
      go false true q = inr refl
      go false false q = inl q
