-- A line with its end, piece by piece.
use Rattle.std.proofs.Common.{◌≡◌, [], ◌∷◌, ◌++◌, Option, Some, None, IfSome, append_assoc, codes, decimal}
use Rattle.std.specs.Fmt.{option_append}
use Rattle.std.specs.Io.KnownBytes.{Appends}
use Rattle.text.specs.Text.{Bytes}
use Rattle.text.specs.Written.{lined}
use Rattle.play.specs.declared.trials.Score.{Score}
use Rattle.trials.specs.Printed.{score_line}

-- what stands behind what was counted
abbrev pub score_tail : Score → Bytes
score_tail s =
    codes ", " ++ (decimal s.too_often ++ (codes " too often, " ++ (decimal s.wrong ++ (codes " wrong, " ++ (decimal s.untold ++ (codes " untold, " ++ (decimal s.faults ++ (codes " faults" ++ 10 ∷ []))))))))

score_ends : (text : Bytes) (s : Score) → lined (score_line text s) ≡ text ++ score_tail s
score_ends text s = simp append_assoc

pub score_printed : (a b : Option Bytes) (s : Score) (counted : Option Bytes) → IfSome (option_append counted (Some (score_tail s))) (Appends a b) →
    IfSome counted (λ text. Appends a b (lined (score_line text s)))
score_printed a b s None h = h
score_printed a b s (Some text) h = rw score_ends h
