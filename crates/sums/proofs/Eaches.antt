-- Lists taken over element by element: their lengths, their elements, more of them, one set, and their beginnings.
use Rattle.std.proofs.Common.{◌≡◌, ℕ, zero, suc, ◌+◌, ◌<◌, List, [], ◌∷◌, ◌++◌, length, get_or, take, drop, set, sym, refl, ap, ◌∙◌, arith}
use Rattle.std.proofs.lemmas.List.{take_more, take-append-drop}
use Rattle.sums.specs.Sums.{each}

module _ {A B : Type 0} (f : A → B) where
  pub length_each : (xs : List A) → length (each f xs) ≡ length xs
  unfolding each
  length_each [] = refl
  length_each (x ∷ xs) = ap suc (length_each xs)

  pub each_append : (xs ys : List A) → each f (xs ++ ys) ≡ each f xs ++ each f ys
  unfolding each
  each_append [] ys = refl
  each_append (x ∷ xs) ys = ap (λ l. f x ∷ l) (each_append xs ys)

  pub each_push : (xs : List A) (x : A) → each f (xs ++ x ∷ []) ≡ each f xs ++ f x ∷ []
  unfolding each
  each_push xs x = each_append xs (x ∷ [])

  pub each_at : (xs : List A) (i : ℕ) (d : A) (e : B) → i < length xs → get_or (each f xs) i e ≡ f (get_or xs i d)
  unfolding each
  each_at [] i d e lt = absurd (omega arith)
  each_at (x ∷ xs) zero d e lt = refl
  each_at (x ∷ xs) (suc i) d e lt = each_at xs i d e (omega arith)

  pub each_set : (xs : List A) (i : ℕ) (x : A) → each f (set xs i x) ≡ set (each f xs) i (f x)
  unfolding each
  each_set [] i x = refl
  each_set (y ∷ xs) zero x = refl
  each_set (y ∷ xs) (suc i) x = ap (λ l. f y ∷ l) (each_set xs i x)

-- a beginning, one longer by the item x
module _ {A B : Type 0} (f : A → B) (xs : List A) (i : ℕ) (x : A) (is : x ≡ get_or xs i x) (h : i < length xs) where
  pub each_take : each f (take (i + 1) xs) ≡ each f (take i xs) ++ f x ∷ []
  unfolding each
  each_take = ap (each f) (take_more xs i x h) ∙ each_append f (take i xs) (get_or xs i x ∷ []) ∙ ap (λ y. each f (take i xs) ++ f y ∷ []) (sym is)

  pub each_split : each f xs ≡ (each f (take i xs) ++ f x ∷ []) ++ each f (drop (i + 1) xs)
  each_split =
      ap (each f) (sym (take-append-drop (i + 1) xs)) ∙ each_append f (take (i + 1) xs) (drop (i + 1) xs) ∙ ap (λ l. l ++ each f (drop (i + 1) xs)) each_take
