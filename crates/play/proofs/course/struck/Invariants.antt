use Rattle.std.proofs.Common.{◌≡◌, ◌++◌, take, vec_items}
use Rattle.play.specs.Courses.{strokes}
use Rattle.play.proofs.course.struck.Given as goal

abbrev pub invariant-loop-acts : goal.invariant-loop-acts
invariant-loop-acts l = vec_items l.out ≡ take l.k l.items ++ strokes l.machine (take l.acts-index l.strokes)
