use Rattle.std.proofs.Common.{◌+◌, sym, ap, ◌∙◌}
use Rattle.std.specs.Iterator.Adapters.{enumerate_count}
use Rattle.wall_reader.specs.Tails.{wrong_line}
use Rattle.wall_reader.proofs.Tailing.{right_here, wrong_here}
use Rattle.wall_reader.proofs.tail.wrong_line.Goals as goal

pub loop-index-init : goal.loop-index-init
loop-index-init c =
    let begun = c.enumerate-index-items.ensures in
    rw (c.into_iter-index-iterator.ensures.into_iter_gives, begun.source, begun.count) (ap (wrong_line 1) c.new.ensures)

pub returns-in-Err : goal.returns-in-Err
returns-in-Err c =
    let n = enumerate_count c.loop-index.index-iterator in
    let steps = c.in-Some.ensures.steps in
    rw steps.1
    (sym (sym c.loop-index.invariant ∙ wrong_here (n + 1) _ c.in-Some.line.now _ steps.0 c.in-Err.reason (sym c.read_row.ensures ∙ c.in-Err.is)))

pub loop-index-preserved : goal.loop-index-preserved
loop-index-preserved c =
    let n = enumerate_count c.loop-index.index-iterator in
    let steps = c.in-Some.ensures.steps in
    rw steps.2
    (sym (right_here (n + 1) _ c.in-Some.line.now _ steps.0 c.in_default.field-0 (sym c.read_row.ensures ∙ c.in_default.is)) ∙ c.loop-index.invariant)

pub returns : goal.returns
unfolding wrong_line
returns c =
    let n = enumerate_count c.loop-index.index-iterator in
    sym (sym c.loop-index.invariant ∙ ap (wrong_line (n + 1)) c.in-None.ensures.steps.0.0)
