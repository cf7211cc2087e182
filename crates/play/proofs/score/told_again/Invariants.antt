use Rattle.std.proofs.Common.{◌≡◌, ◌+◌, ◌≤◌, take, drop}
use Rattle.rows.specs.Walls.{Marks, as_wall}
use Rattle.sums.specs.Again.{again_after, told_again}
use Rattle.play.proofs.score.told_again.Given as goal

abbrev pub invariant-loop-row : goal.invariant-loop-row
invariant-loop-row l =
    Marks (as_wall (take l.row-index l.told)) l.seen × (l.again ≤ l.row-index)
    × (l.again + again_after (as_wall (take l.row-index l.told)) (as_wall (drop l.row-index l.told)) ≡ told_again (as_wall l.told))
