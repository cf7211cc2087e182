-- What fine gauges say of each row, what comes of a place in a row, and that where the others are empty one row is all there is.
use Rattle.std.proofs.Common.{◌≡◌, ℕ, zero, suc, ◌<◌, ◌≤◌, true, ◌&&◌, eqb, ltb, leb, List, [], ◌∷◌, ◌++◌, length, get_or, drop, refl, ap, ◌∙◌, append-nil, arith}
use Rattle.std.proofs.lemmas.Bool.{ltb-true, leb-true, and_parts}
use Rattle.sums.specs.Parts.{no_reading}
use Rattle.sums.specs.Sums.{every, none_of, all_of, Gauges, Reading, rising, a_reading, gauges_fine}
use Rattle.sums.proofs.Everys.{every_at}
use Rattle.machine.specs.Run.{Event, comes, first_reading, nth_row}
use Rattle.promise.specs.Promise.{others_empty}

pub none_nil : {A : Type 0} (xs : List A) → none_of xs ≡ true → xs ≡ []
unfolding none_of
none_nil [] h = refl
none_nil (x ∷ xs) h = cc

-- what fine gauges say of a row
pub record Fine (row : List Reading) : Type 0 where
  pub rises : rising row ≡ true
  pub readings : every a_reading row ≡ true
  pub few : length row ≤ 268435456

rows_fine : (gs : Gauges) (i : ℕ) → every (λ rs. rising rs && (every a_reading rs && leb (length rs) 268435456)) gs ≡ true → Fine (nth_row gs i)
unfolding every nth_row rising
rows_fine [] i h = record { rises = refl; readings = refl; few = omega arith }
rows_fine (rs ∷ gs) zero h =
    let row = (and_parts _ _ h).0 in
    let rest = (and_parts (rising rs) _ row).1 in
    record { rises = (and_parts _ _ row).0; readings = (and_parts _ _ rest).0; few = leb-true _ _ (and_parts (every a_reading rs) _ rest).1 }
rows_fine (rs ∷ gs) (suc i) h = rows_fine gs i (and_parts _ _ h).1

pub row_fine : (gs : Gauges) (i : ℕ) → gauges_fine gs ≡ true → Fine (nth_row gs i)
row_fine gs i h = rows_fine gs i (and_parts (eqb (length gs) 8) _ h).1

-- the event that comes of a place in the row
pub reading_at : (row : List Reading) (p : ℕ) (P : Event → Type 0) → p < length row →
    P (comes (get_or row p no_reading).time (get_or row p no_reading).key (get_or row p no_reading).value) → P (first_reading (drop p row))
unfolding first_reading
reading_at [] p P h f = absurd (omega arith)
reading_at (r ∷ rs) zero P h f = f
reading_at (r ∷ rs) (suc p) P h f = reading_at rs p P (omega arith) f

all_empty : (gs : Gauges) → every none_of gs ≡ true → all_of gs ≡ []
unfolding every all_of
all_empty [] h = refl
all_empty (rs ∷ gs) h = rw (none_nil rs (and_parts _ _ h).0) (all_empty gs (and_parts (none_of rs) _ h).1)

pub row_empty : (gs : Gauges) (j : ℕ) → every none_of gs ≡ true → nth_row gs j ≡ []
unfolding every nth_row
row_empty [] j h = refl
row_empty (rs ∷ gs) zero h = none_nil rs (and_parts _ _ h).0
row_empty (rs ∷ gs) (suc j) h = row_empty gs j (and_parts (none_of rs) _ h).1

pub first_is_all : (gs : Gauges) → others_empty gs ≡ true → all_of gs ≡ nth_row gs 0
unfolding others_empty all_of nth_row
first_is_all [] h = refl
first_is_all (rs ∷ gs) h = ap (λ l. rs ++ l) (all_empty gs h) ∙ append-nil rs

-- whichever has a reading has all of them
pub row_is_all : (gs : Gauges) (j : ℕ) → others_empty gs ≡ true → 0 < length (nth_row gs j) → all_of gs ≡ nth_row gs j
unfolding others_empty nth_row
row_is_all [] j h lt = absurd (omega arith)
row_is_all (rs ∷ gs) zero h lt = first_is_all (rs ∷ gs) h
row_is_all (rs ∷ gs) (suc j) h lt = let e : length (nth_row gs j) ≡ 0 = ap length (row_empty gs j h) in absurd (omega arith)
