use Rattle.sums.specs.Readings.{as_gauges}
use Rattle.world.specs.Rounds.{all_rounds}
use Rattle.world.specs.Worlds.{as_world}
use Rattle.playback.specs.Stages.{PlaysOn}
use Rattle.playback.proofs.stage.Stage.calm.Given as goal

abbrev pub invariant-loop : goal.invariant-loop
invariant-loop g l =
    PlaysOn (as_gauges l.fn.self.gauges.now) l.fn.self.rows (as_world l.fn.world) (all_rounds l.counter l.fn.acts) (as_world l.world) (g.W.Write.contents l.fn.out) (g.W.Write.contents l.out)
