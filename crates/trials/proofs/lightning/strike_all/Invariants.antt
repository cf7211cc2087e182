use Rattle.trials.specs.Printed.{QuietIfRight}
use Rattle.trials.proofs.lightning.strike_all.Given as goal

abbrev pub invariant-loop-stroke : goal.invariant-loop-stroke
invariant-loop-stroke g l = QuietIfRight l.score (g.W.Write.contents l.fn.out) (g.W.Write.contents l.out)
