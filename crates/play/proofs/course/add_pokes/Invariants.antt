use Rattle.std.proofs.Common.{[], ◌∷◌, vec_items}
use Rattle.machine.specs.Run.{poke, works, up_to}
use Rattle.world.specs.Rounds.{in_turn}
use Rattle.play.specs.Courses.{Grown}
use Rattle.play.proofs.course.add_pokes.Given as goal

abbrev pub invariant-loop-i : goal.invariant-loop-i
invariant-loop-i l = Grown (vec_items l.initial.items) (in_turn (λ i. poke i ∷ works i l.acts ∷ []) (up_to l.i)) (vec_items l.items)
