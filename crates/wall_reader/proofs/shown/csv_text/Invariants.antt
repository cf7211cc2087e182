use Rattle.std.proofs.Common.{◌≡◌, ◌++◌, codes, take, string_bytes}
use Rattle.text.specs.Written.{lined, lines_of}
use Rattle.wall_reader.specs.Shown.{csv_line}
use Rattle.wall_reader.proofs.shown.csv_text.Given as goal

abbrev pub invariant-loop-row : goal.invariant-loop-row
invariant-loop-row l = string_bytes l.text ≡ lined (codes "hour,place,sum") ++ lines_of csv_line (take l.row-index l.rows)
