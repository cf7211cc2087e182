-- What holds of every element of a list: of two lists, of one element more or one set, by its places, of something weaker, and taken over element by element.
use Rattle.std.proofs.Common.{◌≡◌, ℕ, zero, suc, ◌<◌, Bool, true, ◌&&◌, List, [], ◌∷◌, ◌++◌, length, get_or, set, refl, ap, arith}
use Rattle.std.proofs.lemmas.Bool.{and_from, and_parts}
use Rattle.sums.specs.Sums.{every, each}

module _ {A : Type 0} (f : A → Bool) where
  pub every_append : (xs ys : List A) → every f xs ≡ true → every f ys ≡ true → every f (xs ++ ys) ≡ true
  unfolding every
  every_append [] ys p q = q
  every_append (x ∷ xs) ys p q = and_from _ _ (and_parts _ _ p).0 (every_append xs ys (and_parts (f x) _ p).1 q)

  pub every_last : (xs : List A) (x : A) → every f xs ≡ true → f x ≡ true → every f (xs ++ x ∷ []) ≡ true
  unfolding every
  every_last xs x h q = every_append xs (x ∷ []) h (and_from _ _ q refl)

  pub every_set : (xs : List A) (i : ℕ) (x : A) → every f xs ≡ true → f x ≡ true → every f (set xs i x) ≡ true
  unfolding every
  every_set [] i x h e = refl
  every_set (y ∷ xs) zero x h e = and_from _ _ e (and_parts (f y) _ h).1
  every_set (y ∷ xs) (suc i) x h e = let p = and_parts (f y) _ h in and_from _ _ p.0 (every_set xs i x p.1 e)

  pub every_at : (xs : List A) (i : ℕ) (d : A) → i < length xs → every f xs ≡ true → f (get_or xs i d) ≡ true
  unfolding every
  every_at [] i d lt h = absurd (omega arith)
  every_at (x ∷ xs) zero d lt h = (and_parts _ _ h).0
  every_at (x ∷ xs) (suc i) d lt h = every_at xs i d (omega arith) (and_parts (f x) _ h).1

  pub every_places : (xs : List A) (d : A) → ((i : ℕ) → i < length xs → f (get_or xs i d) ≡ true) → every f xs ≡ true
  unfolding every
  every_places [] d h = refl
  every_places (x ∷ xs) d h = and_from (f x) (every f xs) (h zero (omega arith)) (every_places xs d (λ i l. h (suc i) (omega arith)))

  -- by its places, each with what lies before and behind it
  pub every_in : (xs : List A) → ((ys zs : List A) (x : A) → xs ≡ ys ++ x ∷ zs → f x ≡ true) → every f xs ≡ true
  unfolding every
  every_in [] h = refl
  every_in (x ∷ xs) h = and_from (f x) (every f xs) (h [] xs x refl) (every_in xs (λ ys zs y e. h (x ∷ ys) zs y (ap (λ l. x ∷ l) e)))

  pub every_weaker : (g : A → Bool) → ((x : A) → f x ≡ true → g x ≡ true) → (xs : List A) → every f xs ≡ true → every g xs ≡ true
  unfolding every
  every_weaker g k [] h = refl
  every_weaker g k (x ∷ xs) h = let p = and_parts (f x) _ h in and_from _ _ (k x p.0) (every_weaker g k xs p.1)

pub every_each : {A B : Type 0} (f : B → Bool) (g : A → B) (xs : List A) → every f (each g xs) ≡ every (λ x. f (g x)) xs
unfolding every each
every_each f g [] = refl
every_each f g (x ∷ xs) = ap (λ b. f (g x) && b) (every_each f g xs)
