use Rattle.std.proofs.Common.{◌≡◌, sym, ap, ◌∙◌, rules, tests, arith}
use Rattle.std.specs.List.{find}
use Rattle.std.specs.Option.{option_map}
use Rattle.std.proofs.lemmas.Bool.{ltb-true, ltb-false, eq-eqb}
use Rattle.std.proofs.lemmas.Iterator.{YieldsList-from_slice}
use Rattle.std.proofs.lemmas.Iterator.Search.{find_from_yields_List}
use Rattle.sums.proofs.Eaches.{length_each}
use Rattle.rows.specs.Walls.{as_told}
use Rattle.wall_reader.proofs.Walls.{begins_first, elsewhere, none_elsewhere, one_elsewhere}
use Rattle.wall_reader.proofs.bars.one_place.Goals as goal
use Rattle.wall_reader.proofs.bars.one_place.Goals.{After-find}

found : (c : After-find) → option_map (λ r. r.now) c.find.result ≡ find (elsewhere c.in-Some.first.now.place) c.args.rows.now
found c = find_from_yields_List (elsewhere c.in-Some.first.now.place) _ _ c.find.result c.find.ensures.ran (YieldsList-from_slice c.args.rows.now cc) (λ x b q k. search (rules, tests))

pub returns-in_default : goal.returns-in_default
returns-in_default c = length_each as_told c.args.rows.now ∙ omega (arith, ltb-false 0 _ (sym c.in_default.ensures.item.0))

pub returns-in-Some-find : goal.returns-in-Some-find
returns-in-Some-find c =
    let rows = c.args.rows.now in
    let first = c.in-Some.first.now in
    let item = c.in-Some.ensures.item in
    let other = one_elsewhere first.place rows c.in-Some-find.other.now (sym (found (goal.at.returns-in-Some-find c).After-find) ∙ ap (option_map (λ r. r.now)) c.in-Some-find.is) in
    (begins_first first.place rows first (ltb-true 0 _ (sym item.0)) (eq-eqb _ _ (ap (λ r. r.place) (sym item.1))), other.0, other.1)

pub returns-in-None : goal.returns-in-None
returns-in-None c =
    let rows = c.args.rows.now in
    let some = ltb-true 0 _ (sym c.in-Some.ensures.item.0) in (
      omega (arith, length_each as_told rows, some),
      none_elsewhere c.in-Some.first.now.place rows (sym (found (goal.at.returns-in-None c).After-find) ∙ ap (option_map (λ r. r.now)) c.in-None.is),
    )
