use Rattle.std.proofs.KnownBytes.{Keeps-refl, Keeps-trans}
use Rattle.trials.proofs.lightning.Target.strokes.Goals as goal

pub loop-k-init : goal.loop-k-init
loop-k-init g c = Keeps-refl (g.W.Write.contents c.args.out.now)

pub loop-first-preserved : goal.loop-first-preserved
loop-first-preserved g c =
    Keeps-trans (g.W.Write.contents c.args.out.now) (g.W.Write.contents c.loop-first.out) (g.W.Write.contents c.advance.new.out) c.loop-first.invariant c.in_ok-advance.ensures
