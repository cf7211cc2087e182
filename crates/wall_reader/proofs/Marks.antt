-- The marks of a chart, one row after the other. Assumes nothing.
use Rattle.std.proofs.Common.{◌≡◌, ℕ, ◌+◌, ◌<◌, Bool, true, false, List, [], ◌∷◌, ◌++◌, length, get_or, drop, Some, Option, sym, refl, ap, ◌∙◌, append_assoc}
use Rattle.rows.specs.declared.Row.{Row}
use Rattle.rows.specs.Walls.{as_wall}
use Rattle.wall_reader.specs.declared.bars.Mark.{Mark}
use Rattle.wall_reader.specs.declared.bars.Mark.TheVariants.{Bar}
use Rattle.wall_reader.specs.Charts.{bar_of, is_gap, gap_then, marks_of}
use Rattle.wall_reader.proofs.Walls.{no_row, wall_drop}

after_gap : (b : Bool) (x : Mark) (ms : List Mark) → gap_then b [] ++ x ∷ ms ≡ gap_then b (x ∷ ms)
after_gap true x ms = refl
after_gap false x ms = refl

pub marks_more : (g : ℕ) (before : Option ℕ) (rows : List Row) (i : ℕ) → i < length rows → (done mid new whole : List Mark) → done ++ marks_of g before (as_wall (drop i rows)) ≡ whole →
    mid ≡ done ++ gap_then (is_gap before (get_or rows i no_row).hour) [] → new ≡ mid ++ Bar (get_or rows i no_row).hour (bar_of (get_or rows i no_row).sum g 50) (get_or rows i no_row).sum ∷ [] →
    new ++ marks_of g (Some (get_or rows i no_row).hour) (as_wall (drop (i + 1) rows)) ≡ whole
unfolding marks_of
marks_more g before rows i h done mid new whole so first second =
    let row = get_or rows i no_row in
    let b = is_gap before row.hour in
    let bar = Bar row.hour (bar_of row.sum g 50) row.sum in
    let rest = marks_of g (Some row.hour) (as_wall (drop (i + 1) rows)) in
    ap (λ l. l ++ rest) second ∙ append_assoc mid (bar ∷ []) rest ∙ ap (λ l. l ++ bar ∷ rest) first ∙ append_assoc done (gap_then b []) (bar ∷ rest)
    ∙ ap (λ l. done ++ l) (after_gap b bar rest) ∙ ap (λ l. done ++ marks_of g before l) (sym (wall_drop rows i no_row h)) ∙ so
