use Rattle.hut.specs.Played.{as_machine}
use Rattle.hut.proofs.Acting.{did_tells}
use Rattle.hut.proofs.hut.Hut.tell.Goals as goal

pub returns : goal.returns
returns c = λ rs i. did_tells rs i (as_machine c.args.self.now) _ _ _ c.turn.ensures
