use Rattle.std.proofs.Common.{◌≡◌}
use Rattle.trials.specs.Printed.{QuietIfRight}
use Rattle.trials.proofs.many.play_all.Given as goal

abbrev pub invariant-loop-n : goal.invariant-loop-n
invariant-loop-n g l = record {
  worlds : l.score.worlds ≡ l.n;
  quiet : QuietIfRight l.score (g.W.Write.contents l.initial.out) (g.W.Write.contents l.out);
}
