use Rattle.std.proofs.Common.{◌∙◌}
use Rattle.hut.specs.Played.{as_machine}
use Rattle.hut.proofs.Acting.{did_recall, wrong_recall}
use Rattle.hut.proofs.hut.Hut.recall.Goals as goal

pub returns-then-drawer-ge-DRAWERS-clause-done : goal.returns-then-drawer-ge-DRAWERS-clause-done
returns-then-drawer-ge-DRAWERS-clause-done c = λ rs i. wrong_recall rs i (as_machine c.args.self.now) _ _ c.if-drawer-ge-DRAWERS.true

pub returns-clause-done : goal.returns-clause-done
returns-clause-done c = λ rs i.
    did_recall rs i (as_machine c.args.self.now) _ _ _ _ (c.in_ok-text.ensures ∙ c.drawer.ensures.text) c.if-drawer-ge-DRAWERS.false c.turn.ensures
