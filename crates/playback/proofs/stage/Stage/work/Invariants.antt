use Rattle.std.proofs.Common.{◌*◌, [], ◌∷◌}
use Rattle.machine.specs.Run.{works}
use Rattle.sums.specs.Readings.{as_gauges}
use Rattle.world.specs.Worlds.{as_world}
use Rattle.playback.specs.Stages.{PlaysOn}
use Rattle.playback.proofs.stage.Stage.work.Given as goal

abbrev pub invariant-loop : goal.invariant-loop
invariant-loop g l =
    PlaysOn (as_gauges l.self.gauges.now) l.self.rows (as_world l.initial.world) (works l.i (l.counter * 1048576) ∷ []) (as_world l.world) (g.W.Write.contents l.initial.out) (g.W.Write.contents l.out)
