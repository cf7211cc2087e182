use Rattle.std.proofs.Common.{take}
use Rattle.sums.specs.Readings.{as_gauges}
use Rattle.machine.specs.Entry.{own}
use Rattle.machine.specs.Run.{new_world}
use Rattle.world.specs.Tallies.{none_counted}
use Rattle.world.specs.Worlds.{as_world, Passed}
use Rattle.play.specs.Plays.{unrolled}
use Rattle.play.proofs.playing.play.Given as goal

abbrev pub invariant-loop-item : goal.invariant-loop-item
invariant-loop-item l =
    Passed (as_gauges l.gauges) (new_world own) none_counted (unrolled (take l.item-index l.items)) (as_world l.world) l.world.tally.counts
