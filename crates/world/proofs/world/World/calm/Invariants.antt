use Rattle.world.specs.Rounds.{all_rounds}
use Rattle.sums.specs.Readings.{as_gauges}
use Rattle.world.specs.Worlds.{as_world, Passed}
use Rattle.world.proofs.world.World.calm.Given as goal

abbrev pub invariant-loop : goal.invariant-loop
invariant-loop l = Passed (as_gauges l.gauges) (as_world l.initial.self) l.initial.self.tally.counts (all_rounds l.counter l.acts) (as_world l.self) l.self.tally.counts
