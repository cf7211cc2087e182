use Rattle.std.proofs.Common.{refl}
use Rattle.hut.specs.Played.{as_machine}
use Rattle.hut.proofs.Stepping.{turned}
use Rattle.hut.proofs.hut.Hut.take_turn.Goals as goal

pub returns-clause-done : goal.returns-clause-done
returns-clause-done c = turned _ c.args.i (as_machine c.args.self.now) _ c.in-Some.act c.step.new.desk _ _ refl c.in-Some.ensures c.in_ok-act.ensures.done
