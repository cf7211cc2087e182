use Rattle.sums.specs.Readings.{as_gauges}
use Rattle.machine.specs.Run.{up_to}
use Rattle.world.specs.Rounds.{in_turn, letters_to}
use Rattle.world.specs.Worlds.{as_world, Passed}
use Rattle.world.proofs.world.World.round.Given as goal

-- from the world in which each was poked
abbrev pub invariant-loop-j : goal.invariant-loop-j
invariant-loop-j l =
    Passed (as_gauges l.gauges) (as_world l.initial.self) l.initial.self.tally.counts (in_turn (letters_to l.acts) (up_to l.j)) (as_world l.self) l.self.tally.counts
