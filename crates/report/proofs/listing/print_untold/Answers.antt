use Rattle.report.specs.Printed.{untold_line}
use Rattle.report.proofs.Lines.{line_more, lines_all}
use Rattle.report.proofs.listing.print_untold.Goals as goal

pub loop-row-preserved : goal.loop-row-preserved
loop-row-preserved g c =
    line_more _ _ untold_line c.args.rows.now c.loop-row.row-index _ (record { hour = 0; place = 0; sum = 0 }) c.loop-row-test.true c.loop-row.invariant c.in_ok-writeln.ensures.bytes

pub returns : goal.returns
returns g c = lines_all _ _ untold_line c.args.rows.now c.loop-row.row-index c.loop-row-test.false c.loop-row.invariant
