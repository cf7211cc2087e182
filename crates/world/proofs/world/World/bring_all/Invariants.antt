use Rattle.std.proofs.Common.{[], ◌∷◌}
use Rattle.machine.specs.Run.{up_to, brings, works}
use Rattle.world.specs.Rounds.{in_turn}
use Rattle.sums.specs.Readings.{as_gauges}
use Rattle.world.specs.Worlds.{as_world, Passed}
use Rattle.world.proofs.world.World.bring_all.Given as goal

abbrev pub invariant-loop-i : goal.invariant-loop-i
invariant-loop-i l = Passed (as_gauges l.gauges) (as_world l.initial.self) l.initial.self.tally.counts (in_turn (λ i. brings i l.j ∷ works l.j l.acts ∷ []) (up_to l.i)) (as_world l.self) l.self.tally.counts
