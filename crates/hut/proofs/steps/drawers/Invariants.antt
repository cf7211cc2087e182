use Rattle.std.proofs.Common.{◌≡◌, [], vec_items}
use Rattle.sums.specs.Sums.{each}
use Rattle.machine.specs.Run.{so_many_of}
use Rattle.hut.specs.Played.{as_text}
use Rattle.hut.proofs.steps.drawers.Given as goal

abbrev pub invariant-loop : goal.invariant-loop
invariant-loop l = each as_text (vec_items l.drawers) ≡ so_many_of l.counter []
