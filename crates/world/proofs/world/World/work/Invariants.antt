use Rattle.std.proofs.Common.{◌≡◌, ℕ, ◌+◌}
use Rattle.sums.specs.Readings.{as_gauges}
use Rattle.machine.specs.Entry.{own}
use Rattle.machine.specs.Run.{goes}
use Rattle.world.specs.Tallies.{acts_counted}
use Rattle.world.specs.Worlds.{as_world}
use Rattle.world.proofs.world.World.work.Given as goal

-- so many acts more are as many as were done and these
abbrev pub invariant-loop : goal.invariant-loop
invariant-loop l = (more : ℕ) →
    (goes more own (as_gauges l.gauges) (as_world l.self) l.i ≡ goes (l.counter + more) own (as_gauges l.gauges) (as_world l.initial.self) l.i)
    × (acts_counted more (as_gauges l.gauges) (as_world l.self) l.i l.self.tally.counts ≡
    acts_counted (l.counter + more) (as_gauges l.gauges) (as_world l.initial.self) l.i l.initial.self.tally.counts)
