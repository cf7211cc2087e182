use Rattle.std.proofs.Common.{◌≡◌, take, string_bytes}
use Rattle.text.specs.Written.{lines_of}
use Rattle.rows.specs.Shown.{row_line}
use Rattle.wall_reader.proofs.shown.rows_text.Given as goal

abbrev pub invariant-loop-row : goal.invariant-loop-row
invariant-loop-row l = string_bytes l.text ≡ lines_of row_line (take l.row-index l.rows)
