use Rattle.std.specs.Io.KnownBytes.{Keeps}
use Rattle.trials.proofs.lightning.Target.strokes.Given as goal

abbrev pub invariant-loop-first : goal.invariant-loop-first
invariant-loop-first g l = Keeps (g.W.Write.contents l.fn.out) (g.W.Write.contents l.out)

abbrev pub invariant-loop-k : goal.invariant-loop-k
invariant-loop-k g l = Keeps (g.W.Write.contents l.fn.out) (g.W.Write.contents l.out)
