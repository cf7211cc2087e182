use Rattle.std.proofs.Common.{refl}
use Rattle.hut.specs.Played.{as_machine}
use Rattle.hut.proofs.Acting.{did_keep, wrong_keep}
use Rattle.hut.proofs.hut.Hut.keep.Goals as goal

pub returns-then-drawer-ge-DRAWERS : goal.returns-then-drawer-ge-DRAWERS
returns-then-drawer-ge-DRAWERS c = λ rs i. wrong_keep rs i (as_machine c.args.self.now) _ _ _ c.if-drawer-ge-DRAWERS.true

pub returns : goal.returns
returns c = λ rs i.
    did_keep rs i (as_machine c.args.self.now) _ _ _ c.args.text _ _ refl c.if-drawer-ge-DRAWERS.false c.put.ensures c.turn.ensures
