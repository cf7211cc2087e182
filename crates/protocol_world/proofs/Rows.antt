-- What is known of each gauge's row, where times fall a little at most; and gauges whose times never fall are such.
use Rattle.std.proofs.Common.{◌≡◌, ℕ, zero, suc, ◌≤◌, true, ◌&&◌, eqb, leb, List, [], ◌∷◌, length, refl, arith}
use Rattle.std.proofs.lemmas.Bool.{leb-true, and_parts, and_from}
use Rattle.sums.specs.Sums.{every, Gauges, Reading, rising, a_reading, gauges_fine}
use Rattle.machine.specs.Run.{nth_row}
use Rattle.protocol_world.specs.Gauges.{hardly_falls, gauges_late}
use Rattle.protocol_world.proofs.Times.{rising_late}

pub record Fine (row : List Reading) : Type 0 where
  pub times : hardly_falls 0 row ≡ true
  pub readings : every a_reading row ≡ true
  pub few : length row ≤ 268435456

rows_fine : (gs : Gauges) (i : ℕ) → every (λ rs. hardly_falls 0 rs && (every a_reading rs && leb (length rs) 268435456)) gs ≡ true → Fine (nth_row gs i)
unfolding every nth_row hardly_falls
rows_fine [] i h = record { times = refl; readings = refl; few = omega arith }
rows_fine (rs ∷ gs) zero h =
    let row = (and_parts (hardly_falls 0 rs && (every a_reading rs && leb (length rs) 268435456)) _ h).0 in
    let rest = (and_parts (hardly_falls 0 rs) _ row).1 in
    record {
      times = (and_parts (hardly_falls 0 rs) _ row).0;
      readings = (and_parts (every a_reading rs) _ rest).0;
      few = leb-true _ _ (and_parts (every a_reading rs) _ rest).1;
    }
rows_fine (rs ∷ gs) (suc i) h = rows_fine gs i (and_parts (hardly_falls 0 rs && (every a_reading rs && leb (length rs) 268435456)) _ h).1

pub row_fine : (gs : Gauges) (i : ℕ) → gauges_late gs ≡ true → Fine (nth_row gs i)
row_fine gs i h = rows_fine gs i (and_parts (eqb (length gs) 8) _ h).1

each_late : (gs : Gauges) → every (λ rs. rising rs && (every a_reading rs && leb (length rs) 268435456)) gs ≡ true →
    every (λ rs. hardly_falls 0 rs && (every a_reading rs && leb (length rs) 268435456)) gs ≡ true
unfolding every
each_late [] h = refl
each_late (rs ∷ gs) h =
    let both = and_parts (rising rs && (every a_reading rs && leb (length rs) 268435456)) _ h in
    let row = and_parts (rising rs) _ both.0 in
    and_from (hardly_falls 0 rs && (every a_reading rs && leb (length rs) 268435456)) _
    (and_from (hardly_falls 0 rs) _ (rising_late 0 rs row.0 (λ _. omega arith)) row.1) (each_late gs both.1)

pub fine_late : (gs : Gauges) → gauges_fine gs ≡ true → gauges_late gs ≡ true
fine_late gs h = let both = and_parts (eqb (length gs) 8) _ h in and_from (eqb (length gs) 8) _ both.0 (each_late gs both.1)
