use Rattle.std.proofs.Common.{◌≡◌, [], ◌∷◌, ◌++◌, get_or, None, vec_items, sym, ap, ◌∙◌, append-nil}
use Rattle.std.proofs.lemmas.List.{drop_all}
use Rattle.sums.specs.Sums.{each}
use Rattle.rows.specs.Walls.{as_wall}
use Rattle.wall_reader.specs.declared.bars.Mark.TheVariants.{Bar}
use Rattle.wall_reader.specs.Charts.{gap_then, is_gap, marks_of}
use Rattle.wall_reader.proofs.Marks.{marks_more}
use Rattle.wall_reader.proofs.Walls.{no_row}
use Rattle.wall_reader.proofs.bars.chart.Goals as goal

pub loop-row-preserved : goal.loop-row-preserved
loop-row-preserved c =
    let rows = c.args.rows.now in
    let i = c.loop-row.row-index in
    let row = get_or rows i no_row in
    let g = c.greatest-greatest.result in
    let done = vec_items c.loop-row.marks in
    let mid : vec_items c.if-is_gap.marks ≡ done ++ gap_then (is_gap c.loop-row.before row.hour) [] =
    elim c.if-is_gap.branch [
      | goal.then-is_gap+in_ok-push w ↦ ap vec_items w.marks-is ∙ w.in_ok-push.ensures.items ∙ ap (λ b. done ++ gap_then b []) w.if-is_gap.ensures
      | goal.else-is_gap w ↦ ap vec_items w.marks-is ∙ sym (append-nil done) ∙ ap (λ b. done ++ gap_then b []) w.if-is_gap.ensures
    ] in
    marks_more g c.loop-row.before rows i c.loop-row-test.true done (vec_items c.if-is_gap.marks) (vec_items c.push-in-loop-row.new.self) (marks_of g None (as_wall rows)) c.loop-row.invariant mid
    (c.in_ok-push-2.ensures.items ∙ ap (λ n. vec_items c.if-is_gap.marks ++ Bar row.hour n row.sum ∷ []) c.bar-length.ensures.length)

pub returns : goal.returns
unfolding marks_of each
returns c =
    let rows = c.args.rows.now in
    let g = c.greatest-greatest.result in
    let marks = vec_items c.loop-row.marks in
    let all : marks ≡ marks_of g None (as_wall rows) =
    sym (append-nil marks) ∙ ap (λ l. marks ++ marks_of g c.loop-row.before (as_wall l)) (sym (drop_all c.loop-row.row-index rows c.loop-row-test.false)) ∙ c.loop-row.invariant in
    ((c.in_ok-one_place.field-0, c.in_ok-one_place.ensures), all ∙ ap (λ n. marks_of n None (as_wall rows)) c.greatest-greatest.ensures)
