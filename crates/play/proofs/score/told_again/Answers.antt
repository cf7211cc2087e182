use Rattle.std.proofs.Common.{◌≡◌, ◌+◌, ◌≤◌, not, get_or, take, drop, sym, ap, ◌∙◌, subst, ap₂, add-zero, zero-add, arith}
use Rattle.std.proofs.Math.Bool.{not-not}
use Rattle.std.specs.BTreeSet.{contains}
use Rattle.std.proofs.lemmas.List.{drop_all, drop_more, get_or_default}
use Rattle.sums.specs.Again.{again_after, told_again}
use Rattle.sums.specs.Sums.{pick, each}
use Rattle.rows.specs.Walls.{as_told, as_wall, pair_cmp, Marks}
use Rattle.rows.specs.declared.Row.{Row}
use Rattle.sums.proofs.Eaches.{each_take}
use Rattle.rows.proofs.Walls.{no_marks, marked}
use Rattle.play.proofs.Counting.{again_step}
use Rattle.play.proofs.score.told_again.Goals as goal
use Rattle.play.proofs.score.told_again.Goals.{then-not-branch, else-not-branch}

pub loop-row-init : goal.loop-row-init
unfolding each
loop-row-init c =
    (no_marks c.new-seen.result c.new-seen.ensures.empty c.new-seen.ensures.ordered, omega arith, zero-add (told_again (as_wall c.args.told.now)))

pub loop-row-preserved : goal.loop-row-preserved
unfolding each
loop-row-preserved c =
    let i = c.loop-row.row-index in
    let rows = c.args.told.now in
    let none : Row = record { hour = 0; place = 0; sum = 0 } in
    let row = get_or rows i none in
    let new = c.in_ok-insert.field-0 in
    let wall = as_wall (take i rows) in
    let rest = as_wall (drop (i + 1) rows) in
    let old = c.loop-row.invariant.0 in
    let more = each_take as_told rows i row (get_or_default rows i none row c.loop-row-test.true) c.loop-row-test.true in
    let found = ap not c.in_ok-insert.ensures.added ∙ not-not _ ∙ ap (contains pair_cmp c.loop-row.seen) c.key.ensures ∙ old.right row.hour row.place in
    let counted : c.if-not-branch.again ≡ c.loop-row.again + pick (not new) 1 0 =
    elim c.if-not-branch.branch [
      | then-not-branch w ↦ w.again-is ∙ ap (λ b. c.loop-row.again + pick (not b) 1 0) (sym w.if-not-branch.true)
      | else-not-branch w ↦ w.again-is ∙ sym (add-zero c.loop-row.again) ∙ ap (λ b. c.loop-row.again + pick (not b) 1 0) (sym w.if-not-branch.false)
    ] in
    let few : c.if-not-branch.again ≤ i + 1 =
    elim c.if-not-branch.branch [
      | then-not-branch w ↦ omega (arith, w.again-is, c.loop-row.invariant.1)
      | else-not-branch w ↦ omega (arith, w.again-is, c.loop-row.invariant.1)
    ] in
    let here = ap (λ l. c.loop-row.again + again_after wall (as_wall l)) (sym (drop_more rows i none c.loop-row-test.true)) ∙ c.loop-row.invariant.2 in (
      subst (λ l. Marks l c.insert.new.self) (sym more) (marked wall row c.key.result c.loop-row.seen c.insert.new.self c.key.ensures old c.insert.ensures.ordered c.in_ok-insert.ensures.updates.0),
      few,
      ap₂ (λ n l. n + again_after l rest) counted more ∙ again_step c.loop-row.again (told_again (as_wall rows)) wall rest (as_told row) (not new) found here,
    )

pub returns : goal.returns
unfolding each again_after
returns c =
    let rows = c.args.told.now in
    sym (add-zero c.loop-row.again)
    ∙ ap (λ l. c.loop-row.again + again_after (as_wall (take c.loop-row.row-index rows)) (as_wall l)) (sym (drop_all c.loop-row.row-index rows c.loop-row-test.false))
    ∙ c.loop-row.invariant.2
