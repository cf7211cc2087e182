use Rattle.std.proofs.Common.{vec_items, arith}
use Rattle.std.proofs.lemmas.Grind.{common_steps}
use Rattle.sums.specs.Sums.{each}
use Rattle.river.proofs.Rows.{rows_more}
use Rattle.river.proofs.draft.Draft.new.Goals as goal

pub loop-preserved : goal.loop-preserved
loop-preserved c = grind (arith, common_steps, rows_more (vec_items c.push.new.self) (vec_items c.loop.gauges) c.new.result)

pub loop-init : goal.loop-init
unfolding each
loop-init c = grind (arith, common_steps)
