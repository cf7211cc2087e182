use Rattle.std.proofs.Common.{take}
use Rattle.sums.specs.Readings.{as_gauges}
use Rattle.world.specs.Worlds.{as_world}
use Rattle.play.specs.Plays.{unrolled}
use Rattle.playback.specs.Stages.{PlaysOn}
use Rattle.playback.proofs.stage.Stage.play.Given as goal

abbrev pub invariant-loop-item : goal.invariant-loop-item
invariant-loop-item g l =
    PlaysOn (as_gauges l.self.gauges.now) l.self.rows (as_world l.initial.world) (unrolled (take l.item-index l.items)) (as_world l.world) (g.W.Write.contents l.initial.out) (g.W.Write.contents l.out)
