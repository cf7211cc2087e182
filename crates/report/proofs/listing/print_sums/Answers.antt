use Rattle.std.proofs.Common.{subst}
use Rattle.sums.specs.Readings.{as_gauges}
use Rattle.river.specs.Rivers.{as_told}
use Rattle.report.specs.Printed.{ListsAll}
use Rattle.report.proofs.Oks.{on_ok}
use Rattle.report.proofs.listing.print_sums.Goals as goal

pub returns : goal.returns
returns g c =
    let old = g.W.Write.contents c.args.out.now in
    let new = g.W.Write.contents c.print_sums_of.new.out in
    on_ok c.print_sums_of.result _ _
    (λ h. (as_told c.in_ok-river.river, c.in_ok-river.ensures.told, subst (λ l. ListsAll (as_gauges l) old new) c.as_slice.ensures.value h))
    c.print_sums_of.ensures
