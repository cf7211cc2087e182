use Rattle.std.proofs.Common.{◌≡◌, ◌<◌, length, get_or, rules, arith}
use Rattle.hut.specs.Played.{as_machine}
use Rattle.hut.proofs.Acting.{did_end, did_wait, did_read}
use Rattle.hut.proofs.hut.Hut.next_reading.Goals as goal

pub returns-in_default : goal.returns-in_default
returns-in_default c = λ i m. did_end _ i (as_machine c.args.self.now) m (omega (arith, c.in_default.ensures.lookup))

pub returns-then-saturating_sub-ge-ROLL : goal.returns-then-saturating_sub-ge-ROLL
returns-then-saturating_sub-ge-ROLL c = λ i m. did_wait _ i (as_machine c.args.self.now) m (omega (arith, c.in-Some.ensures.lookup)) (omega arith)

pub returns : goal.returns
returns c =
    let r = c.in-Some.reading.now in
    let lt : c.args.self.now.reads_at < length c.args.row.now = omega (arith, c.in-Some.ensures.lookup) in
    let is : r ≡ get_or c.args.row.now c.args.self.now.reads_at r = search rules in
    λ i m. did_read _ i (as_machine c.args.self.now) m lt r is (omega arith)
