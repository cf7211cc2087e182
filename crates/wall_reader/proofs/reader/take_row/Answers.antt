use Rattle.std.proofs.Common.{◌≡◌, cond, Some, sym, ap, ◌∙◌, refl}
use Rattle.std.proofs.lemmas.Bool.{ne_eqb}
use Rattle.std.specs.BTreeMap.{get, is_at}
use Rattle.rows.specs.Walls.{as_told, key_of, pair_cmp}
use Rattle.wall_reader.proofs.Held.{held_again, held_more}
use Rattle.wall_reader.proofs.reader.take_row.Goals as goal
use Rattle.wall_reader.proofs.reader.take_row.Goals.{After-copied}

-- what the map has of the row's hour and place
found : (c : After-copied) → get pair_cmp c.args.sums.now (key_of c.args.row) ≡ c.copied.result
found c = ap (get pair_cmp c.args.sums.now) (sym c.key-key.ensures) ∙ sym (c.copied.ensures ∙ c.get.ensures.value)

pub returns-in_default : goal.returns-in_default
returns-in_default c ts old =
    let row = c.args.row in
    let m = c.args.sums.now in
    held_more ts (as_told row) m old c.insert.new.self (found (goal.at.returns-in_default c).After-copied ∙ c.in_default.is) c.insert.ensures.ordered
    (λ q. c.in_ok-insert.ensures.updates.0 q ∙ ap (λ k. cond (is_at (pair_cmp k) q) (Some row.sum) (get pair_cmp m q)) c.key-key.ensures)

pub returns-then-first-row : goal.returns-then-first-row
returns-then-first-row c = record {
  number = refl;
  row = refl;
  above = λ ts held. (held.right c.args.row.hour c.args.row.place c.in-Some.first).0 (found (goal.at.returns-then-first-row c).After-copied ∙ c.in-Some.is);
  other = ne_eqb _ _ c.if-first-row.true;
}

pub returns : goal.returns
returns c ts old = held_again ts (as_told c.args.row) c.args.sums.now old (found (goal.at.returns c).After-copied ∙ c.in-Some.is ∙ ap Some c.if-first-row.false)
