-- Lists taken over element by element, by the definitions' own ways to look into a list and to set an element.
use Rattle.std.proofs.Common.{◌≡◌, ℕ, zero, suc, ◌<◌, ◌≤◌, List, [], ◌∷◌, ◌++◌, length, get_or, drop, set, refl, ap, arith}
use Rattle.sums.specs.Sums.{each}
use Rattle.sums.specs.Readings.{as_row}
use Rattle.sums.specs.declared.reading.Reading.{Reading}
use Rattle.machine.specs.Run.{comes, first_reading, set_nth, nth_row, so_many_of}

pub each_set_nth : {A B : Type 0} (f : A → B) (xs : List A) (i : ℕ) (x : A) → each f (set xs i x) ≡ set_nth (each f xs) i (f x)
unfolding each set_nth
each_set_nth f [] i x = refl
each_set_nth f (y ∷ xs) zero x = refl
each_set_nth f (y ∷ xs) (suc i) x = ap (λ l. f y ∷ l) (each_set_nth f xs i x)

pub row_at : {A B : Type 0} (f : A → List B) (xs : List A) (i : ℕ) (d : A) → i < length xs → nth_row (each f xs) i ≡ f (get_or xs i d)
unfolding each nth_row
row_at f [] i d lt = absurd (omega arith)
row_at f (x ∷ xs) zero d lt = refl
row_at f (x ∷ xs) (suc i) d lt = row_at f xs i d (omega arith)

pub reading_at : (rs : List Reading) (i : ℕ) (d : Reading) → i < length rs →
    first_reading (drop i (as_row rs)) ≡ comes (get_or rs i d).time (get_or rs i d).place (get_or rs i d).value
unfolding each first_reading
reading_at [] i d lt = absurd (omega arith)
reading_at (r ∷ rs) zero d lt = refl
reading_at (r ∷ rs) (suc i) d lt = reading_at rs i d (omega arith)

-- past the end
pub row_past : {A : Type 0} (xs : List (List A)) (i : ℕ) → length xs ≤ i → nth_row xs i ≡ []
unfolding nth_row
row_past [] i h = refl
row_past (x ∷ xs) zero h = absurd (omega arith)
row_past (x ∷ xs) (suc i) h = row_past xs i (omega arith)

pub so_many_push : {A : Type 0} (n : ℕ) (x : A) → so_many_of (suc n) x ≡ so_many_of n x ++ x ∷ []
unfolding so_many_of
so_many_push zero x = refl
so_many_push (suc n) x = ap (λ l. x ∷ l) (so_many_push n x)
