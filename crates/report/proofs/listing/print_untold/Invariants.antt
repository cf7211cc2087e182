use Rattle.std.proofs.Common.{take}
use Rattle.std.specs.Io.KnownBytes.{Appends}
use Rattle.rows.specs.Walls.{as_told}
use Rattle.text.specs.Written.{lines_of}
use Rattle.report.specs.Printed.{untold_line}
use Rattle.report.proofs.listing.print_untold.Given as goal

abbrev pub invariant-loop-row : goal.invariant-loop-row
invariant-loop-row g l =
    Appends (g.W.Write.contents l.initial.out) (g.W.Write.contents l.out) (lines_of (λ r. untold_line (as_told r)) (take l.row-index l.rows))
