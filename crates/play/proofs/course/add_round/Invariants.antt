use Rattle.std.proofs.Common.{vec_items}
use Rattle.machine.specs.Run.{up_to}
use Rattle.world.specs.Rounds.{in_turn, letters_to}
use Rattle.play.specs.Courses.{Grown}
use Rattle.play.proofs.course.add_round.Given as goal

abbrev pub invariant-loop-j : goal.invariant-loop-j
invariant-loop-j l = Grown (vec_items l.initial.items) (in_turn (letters_to l.acts) (up_to l.j)) (vec_items l.items)
