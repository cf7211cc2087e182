use Rattle.report.specs.Printed.{told_line}
use Rattle.report.proofs.Lines.{lines_all}
use Rattle.report.proofs.listing.print_rows.Goals as goal

pub returns : goal.returns
returns g c = lines_all _ _ told_line c.args.rows.now c.loop-row.row-index c.loop-row-test.false c.loop-row.invariant
