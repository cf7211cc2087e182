use Rattle.trials.specs.Printed.{QuietIfRight}
use Rattle.trials.proofs.lightning.Target.play_again.Given as goal

abbrev pub invariant-loop-second : goal.invariant-loop-second
invariant-loop-second g l = QuietIfRight l.score (g.W.Write.contents l.fn.out) (g.W.Write.contents l.out)
