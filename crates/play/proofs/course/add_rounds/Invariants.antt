use Rattle.std.proofs.Common.{vec_items}
use Rattle.world.specs.Rounds.{all_rounds}
use Rattle.play.specs.Courses.{Grown}
use Rattle.play.proofs.course.add_rounds.Given as goal

abbrev pub invariant-loop : goal.invariant-loop
invariant-loop l = Grown (vec_items l.initial.items) (all_rounds l.counter l.acts) (vec_items l.items)
