use Rattle.std.proofs.Common.{[], ◌∷◌, ap, ◌∙◌}
use Rattle.machine.specs.Run.{machine, wakes}
use Rattle.machine.proofs.Stepped.{start_zeros}
use Rattle.hut.specs.Played.{as_machine}
use Rattle.hut.proofs.hut.Hut.fall.Goals as goal

pub returns : goal.returns
returns c =
    let h = c.args.self.now in
    ap (λ m. machine m (wakes c.args.i ∷ []) h.gone h.gone (as_machine h).slots) (c.fill.ensures.items (λ y e. e) ∙ start_zeros _ h.sized)
