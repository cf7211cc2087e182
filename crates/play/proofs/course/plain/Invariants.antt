use Rattle.std.proofs.Common.{[], take, vec_items}
use Rattle.play.specs.Plays.{unrolled}
use Rattle.play.specs.Courses.{Grown}
use Rattle.play.proofs.course.plain.Given as goal

abbrev pub invariant-loop-item : goal.invariant-loop-item
invariant-loop-item l = Grown [] (unrolled (take l.item-index l.items)) (vec_items l.out)
