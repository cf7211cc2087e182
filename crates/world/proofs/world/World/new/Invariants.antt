use Rattle.std.proofs.Common.{◌≡◌, vec_items}
use Rattle.sums.specs.Sums.{each}
use Rattle.machine.specs.Entry.{own}
use Rattle.machine.specs.Run.{numbered}
use Rattle.hut.specs.Played.{as_machine}
use Rattle.world.proofs.world.World.new.Given as goal

abbrev pub invariant-loop-i : goal.invariant-loop-i
invariant-loop-i l = each as_machine (vec_items l.huts) ≡ numbered own l.i
