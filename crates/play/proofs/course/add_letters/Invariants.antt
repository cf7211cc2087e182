use Rattle.std.proofs.Common.{[], ◌∷◌, vec_items}
use Rattle.machine.specs.Run.{works, brings, up_to}
use Rattle.world.specs.Rounds.{in_turn}
use Rattle.play.specs.Courses.{Grown}
use Rattle.play.proofs.course.add_letters.Given as goal

abbrev pub invariant-loop-i : goal.invariant-loop-i
invariant-loop-i l = Grown (vec_items l.initial.items) (in_turn (λ i. brings i l.j ∷ works l.j l.acts ∷ []) (up_to l.i)) (vec_items l.items)
