use Rattle.std.proofs.Common.{◌≡◌, ◌++◌, is_ok, IfOk, sym, ap, ◌∙◌, subst}
use Rattle.wall_reader.specs.Lines.{row_on}
use Rattle.wall_reader.proofs.Tailing.{at_end, by_less, completed}
use Rattle.wall_reader.proofs.tail.+completes.Goals as goal

pub returns-then-is_ok : goal.returns-then-is_ok
returns-then-is_ok t c =
    let is = c.as_slice.ensures.value ∙ c.in_ok-extend_from_slice.ensures.items ∙ ap (λ l. l ++ c.args.end.now) c.in_ok-row.ensures.items in
    sym (completed c.args.line.now c.args.end.now (sym (ap (λ l. is_ok (row_on l)) is) ∙ ap is_ok (sym c.read_row.ensures) ∙ sym c.if-is_ok.ensures.value))

pub returns-in-empty : goal.returns-in-empty
returns-in-empty t c =
    let is = c.as_slice.ensures.value ∙ c.in_ok-extend_from_slice.ensures.items ∙ ap (λ l. l ++ c.args.end.now) c.in_ok-row.ensures.items in
    sym (at_end c.args.line.now c.args.end.now c.in-empty.len_below (sym (ap (λ l. is_ok (row_on l)) is) ∙ ap is_ok (sym c.read_row.ensures) ∙ sym c.if-is_ok.ensures.value))

pub returns : goal.returns
returns t c =
    let is = c.as_slice.ensures.value ∙ c.in_ok-extend_from_slice.ensures.items ∙ ap (λ l. l ++ c.args.end.now) c.in_ok-row.ensures.items in
    let less = by_less c.args.line.now c.args.end.now c.in-len1-up.len_at_least (sym (ap (λ l. is_ok (row_on l)) is) ∙ ap is_ok (sym c.read_row.ensures) ∙ sym c.if-is_ok.ensures.value) in
    subst (λ v. IfOk c.completes.result (λ answer. answer ≡ v)) (sym less) c.completes.ensures
