use Rattle.trials.proofs.Quiet.{quiet_more}
use Rattle.trials.proofs.lightning.strike_all.Goals as goal

pub loop-stroke-preserved : goal.loop-stroke-preserved
loop-stroke-preserved g c =
    quiet_more (g.W.Write.contents c.args.out.now) (g.W.Write.contents c.loop-stroke.out) (g.W.Write.contents c.strike.new.out) c.loop-stroke.score c.in_ok-strike.field-0 _
    c.plus-score.ensures c.loop-stroke.invariant c.in_ok-strike.ensures
