use Rattle.std.proofs.Common.{refl}
use Rattle.hut.specs.Played.{as_machine}
use Rattle.hut.proofs.Acting.{did_sends, wrong_sends}
use Rattle.hut.proofs.hut.Hut.send.Goals as goal

pub returns-then-reader-ge-MACHINES : goal.returns-then-reader-ge-MACHINES
returns-then-reader-ge-MACHINES c = λ rs. wrong_sends rs c.args.i (as_machine c.args.self.now) _ _ _ c.then-reader-ge-MACHINES.either

pub returns : goal.returns
returns c = λ rs.
    did_sends rs c.args.i (as_machine c.args.self.now) _ _ _ c.args.text _ refl c.if-reader-ge-MACHINES.false c.if-reader-i.false c.turn.ensures
