use Rattle.std.proofs.Common.{subst}
use Rattle.std.proofs.lemmas.List.{take_all}
use Rattle.sums.specs.Readings.{as_gauges}
use Rattle.river.specs.declared.model.Item.TheVariants.{Works}
use Rattle.world.specs.Worlds.{as_world}
use Rattle.play.specs.Plays.{unrolled}
use Rattle.playback.specs.Stages.{PlaysOn}
use Rattle.playback.proofs.Told.{plays_none, plays_more}
use Rattle.playback.proofs.stage.Stage.play.Goals as goal

pub loop-item-init : goal.loop-item-init
unfolding unrolled
loop-item-init g c = plays_none (as_gauges c.args.self.now.gauges.now) c.args.self.now.rows (as_world c.args.world.now) (g.W.Write.contents c.args.out.now)

pub loop-item-preserved : goal.loop-item-preserved
loop-item-preserved g c =
    plays_more (as_gauges c.args.self.now.gauges.now) c.args.self.now.rows (as_world c.args.world.now) (as_world c.loop-item.world) (as_world c.happen.new.world) c.args.items.now c.loop-item.item-index (Works 0 0)
    _ _ _ c.loop-item-test.true c.loop-item.invariant c.in_ok-happen.ensures

pub returns : goal.returns
returns g c =
    subst (λ its. PlaysOn (as_gauges c.args.self.now.gauges.now) c.args.self.now.rows (as_world c.args.world.now) (unrolled its) (as_world c.loop-item.world) (g.W.Write.contents c.args.out.now) (g.W.Write.contents c.loop-item.out))
    (take_all c.loop-item.item-index c.args.items.now c.loop-item-test.false) c.loop-item.invariant
