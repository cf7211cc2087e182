use Rattle.std.proofs.Common.{◌+◌, Err, vec_items, sym, subst, ap, ◌∙◌}
use Rattle.std.proofs.lemmas.Result.{err_from_is_err_and}
use Rattle.std.specs.Iterator.Adapters.{enumerate_count}
use Rattle.rows.specs.Walls.{as_wall}
use Rattle.text.specs.Text.{whole_lines}
use Rattle.wall_reader.specs.Reads.{LineTaken}
use Rattle.wall_reader.proofs.Reading.{at_first, left, one_more, stopped, all_read}
use Rattle.wall_reader.proofs.reader.read.Goals as goal

pub loop-index-init : goal.loop-index-init
loop-index-init c =
    let begun = c.enumerate-index-items.ensures in
    rw (c.into_iter-index-iterator.ensures.into_iter_gives, begun.source, begun.count)
    (sym (c.new.ensures ∙ c.whole.ensures.lines ∙ ap whole_lines c.as_bytes-bytes.ensures.value), at_first (whole_lines c.args.text.now) c.new-sums.result c.new-sums.ensures.empty c.new-sums.ensures.ordered)

pub returns-in_err-take_line : goal.returns-in_err-take_line
returns-in_err-take_line c =
    let e = err_from_is_err_and c.from_residual.result c.from_residual.ensures.1 in
    let so = c.loop-index.invariant in
    let steps = c.in-Some.ensures.steps in
    let line = c.in-Some.line.now in
    let why = c.in_err-take_line.field-0.0 in
    let taken = subst (λ n. LineTaken (n + 1) line c.loop-index.sums c.take_line.new.sums (Err why)) steps.1 c.in_err-take_line.ensures in
    stopped c.args.text.now (enumerate_count c.loop-index.index-iterator) c.loop-index.sums so.1 line _ (so.0 ∙ steps.0) c.take_line.new.sums why taken
    c.from_residual.result (e.1 ∙ ap Err e.2)

pub loop-index-preserved : goal.loop-index-preserved
loop-index-preserved c =
    let so = c.loop-index.invariant in
    let steps = c.in-Some.ensures.steps in
    let ls = whole_lines c.args.text.now in
    let n = enumerate_count c.loop-index.index-iterator in
    let cut = so.0 ∙ steps.0 in
    rw steps.2 (
      left ls n c.loop-index.sums so.1 c.in-Some.line.now _ cut,
      one_more ls n c.loop-index.sums so.1 c.in-Some.line.now _ cut c.take_line.new.sums c.in_ok-take_line.ensures,
    )

pub returns : goal.returns
returns c =
    let so = c.loop-index.invariant in
    all_read c.args.text.now (enumerate_count c.loop-index.index-iterator) c.loop-index.sums so.1 (so.0 ∙ c.in-None.ensures.steps.0.0)
    (as_wall (vec_items c.in_ok-listed.field-0)) c.in_ok-listed.ensures.rows
