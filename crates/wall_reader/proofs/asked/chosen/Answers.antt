use Rattle.std.proofs.Common.{◌≡◌, ap, sym, vec_items, ◌∙◌, IfOk, rules}
use Rattle.std.proofs.lemmas.Iterator.{YieldsList-from_slice, items_from_collect}
use Rattle.std.proofs.lemmas.Iterator.Consumers.{YieldsList-from_copied, YieldsList-from_filter}
use Rattle.std.proofs.lemmas.Result.{IfOk-weaker}
use Rattle.sums.specs.Sums.{those}
use Rattle.rows.specs.Walls.{as_told, as_wall, in_order}
use Rattle.rows.proofs.Compared.{order_those}
use Rattle.sums.proofs.Those.{those_each}
use Rattle.wall_reader.specs.Filters.{lets_through}
use Rattle.wall_reader.proofs.asked.chosen.Goals as goal

pub returns : goal.returns
returns c =
    let rows = c.args.rows.now in
    let lets = lets_through c.args.filter.now in
    let all : IfOk c.collect.result (λ v. as_wall (vec_items v) ≡ those lets (as_wall rows)) =
    IfOk-weaker c.collect.result _ _ (λ v e. ap as_wall e ∙ sym (those_each lets as_told rows))
    (items_from_collect c.collect.result c.collect.ensures.ran
    (YieldsList-from_filter _ (λ row. lets (as_told row)) (YieldsList-from_copied (YieldsList-from_slice rows cc)) c.filter.ensures.closure (λ x b q k. search rules))) in
    record {
      those = all;
      ordered = IfOk-weaker c.collect.result _ _ (λ v e o. ap in_order e ∙ order_those lets (as_wall rows) o) all;
    }
