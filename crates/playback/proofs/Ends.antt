-- A line with its end, piece by piece.
use Rattle.std.proofs.Common.{◌≡◌, ℕ, [], ◌∷◌, ◌++◌, append_assoc, codes, decimal}
use Rattle.text.specs.Written.{lined}
use Rattle.play.specs.Verdicts.{said_of}
use Rattle.play.specs.declared.verdict.Verdict.{Verdict}
use Rattle.playback.specs.Printed.{verdict_line}

pub verdict_ends : (r t w u : ℕ) (v : Verdict) → lined (verdict_line r t w u v)
    ≡ decimal r ++ (codes " readings, " ++ (decimal t ++ (codes " rows told, " ++ (decimal w ++ (codes " wrong, " ++ (decimal u ++ (codes " untold: " ++ (said_of v ++ 10 ∷ []))))))))
verdict_ends r t w u v = simp append_assoc
