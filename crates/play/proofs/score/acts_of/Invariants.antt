use Rattle.std.proofs.Common.{◌≡◌, ◌++◌, drop, vec_items}
use Rattle.sums.specs.Readings.{as_gauges}
use Rattle.machine.specs.Entry.{own}
use Rattle.machine.specs.Run.{new_world}
use Rattle.world.specs.Tallies.{none_counted}
use Rattle.world.specs.Worlds.{as_world}
use Rattle.play.specs.Scores.{acts_of_each}
use Rattle.play.proofs.score.acts_of.Given as goal

-- with what is left of the items, it is the whole
abbrev pub invariant-loop-item : goal.invariant-loop-item
invariant-loop-item l =
    vec_items l.acts ++ acts_of_each (as_gauges l.gauges) (as_world l.world) l.world.tally.counts (drop l.item-index l.items) ≡
    acts_of_each (as_gauges l.gauges) (new_world own) none_counted l.items
