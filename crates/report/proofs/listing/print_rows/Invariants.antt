use Rattle.std.proofs.Common.{take}
use Rattle.std.specs.Io.KnownBytes.{Appends}
use Rattle.rows.specs.Walls.{as_told}
use Rattle.text.specs.Written.{lines_of}
use Rattle.report.specs.Printed.{told_line}
use Rattle.report.proofs.listing.print_rows.Given as goal

abbrev pub invariant-loop-row : goal.invariant-loop-row
invariant-loop-row g l =
    Appends (g.W.Write.contents l.initial.out) (g.W.Write.contents l.out) (lines_of (λ r. told_line (as_told r)) (take l.row-index l.rows))
