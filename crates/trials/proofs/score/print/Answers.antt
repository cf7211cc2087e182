use Rattle.trials.proofs.Ends.{score_printed}
use Rattle.trials.proofs.score.print.Goals as goal

pub returns-clause-printed : goal.returns-clause-printed
returns-clause-printed g c = score_printed _ _ c.args.score (g.D.Display.output c.args.counted.now) c.in_ok-writeln.ensures.bytes
