use Rattle.std.proofs.Common.{◌≡◌, ◌++◌, drop, None, vec_items}
use Rattle.rows.specs.Walls.{as_wall}
use Rattle.wall_reader.specs.Charts.{marks_of}
use Rattle.wall_reader.proofs.bars.chart.Given as goal

abbrev pub invariant-loop-row : goal.invariant-loop-row
invariant-loop-row l = vec_items l.marks ++ marks_of l.greatest l.before (as_wall (drop l.row-index l.rows)) ≡ marks_of l.greatest None (as_wall l.rows)
