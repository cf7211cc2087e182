use Rattle.hut.specs.Played.{as_machine}
use Rattle.hut.proofs.Acting.{did_rest}
use Rattle.hut.proofs.hut.Hut.rest.Goals as goal

pub returns : goal.returns
returns c = λ rs i. did_rest rs i (as_machine c.args.self.now) _ _ c.turn.ensures
