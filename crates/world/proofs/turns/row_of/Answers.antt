use Rattle.std.proofs.Common.{◌≡◌, ◌<◌, ◌≤◌, List, length, get_or, vec_items, Vec, rules, sym, ap, ◌∙◌, arith}
use Rattle.std.specs.declared.alloc.Global.{Global}
use Rattle.sums.specs.Sums.{each}
use Rattle.sums.specs.Sums as given
use Rattle.sums.specs.Readings.{as_row}
use Rattle.sums.specs.declared.reading.Reading.{Reading}
use Rattle.sums.proofs.Eaches.{length_each}
use Rattle.hut.proofs.Eaches.{row_at, row_past}
use Rattle.world.proofs.turns.row_of.Goals as goal

abbrev row : Vec Reading Global → List given.Reading
row v = as_row (vec_items v)

pub returns-in-Some : goal.returns-in-Some
returns-in-Some c =
    let gs = c.args.gauges.now in
    let v = c.in-Some.row.now in
    let lt : c.args.i < length gs = omega (arith, c.in-Some.ensures.lookup) in
    let is : v ≡ get_or gs c.args.i v = search rules in
    ap as_row c.as_slice.ensures.value ∙ ap row is ∙ sym (row_at row gs c.args.i v lt)

pub returns-in-None : goal.returns-in-None
unfolding each
returns-in-None c =
    let gs = c.args.gauges.now in
    let le : length (each row gs) ≤ c.args.i = rw (length_each row gs) (omega (arith, c.in-None.ensures.lookup)) in
    sym (row_past (each row gs) c.args.i le)
