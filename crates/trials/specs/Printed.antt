-- What is printed of rivers that are struck or made at random. Assumes nothing: these are definitions.
use Rattle.std.specs.Prelude.{◌≡◌, true, ◌++◌, Option, codes, decimal}
use Rattle.std.specs.Io.KnownBytes.{Keeps, Appends}
use Rattle.text.specs.Text.{Bytes}
use Rattle.text.specs.Written.{lined}
use Rattle.play.specs.Trials.{all_right}
use Rattle.play.specs.declared.trials.Score.{Score}

-- what was counted, and what of it is not right
abbrev pub score_line : Bytes → Score → Bytes
score_line counted s =
    counted ++ (codes ", " ++ (decimal s.too_often ++ (codes " too often, " ++ (decimal s.wrong ++ (codes " wrong, " ++ (decimal s.untold ++ (codes " untold, " ++ (decimal s.faults ++ codes " faults"))))))))

abbrev pub rivers_line : Score → Bytes
rivers_line s = score_line (decimal s.worlds ++ (codes " rivers, " ++ (decimal s.readings ++ (codes " readings, " ++ (decimal s.told ++ codes " rows told"))))) s

abbrev pub walls_line : Score → Bytes
walls_line s = score_line (decimal s.worlds ++ (codes " walls, " ++ (decimal s.told ++ (codes " rows told, " ++ (decimal s.again ++ codes " told again"))))) s

-- nothing is printed where nothing is wrong
abbrev pub QuietIfRight : Score → Option Bytes → Option Bytes → Type 0
QuietIfRight s old new = all_right s ≡ true → Keeps old new

-- nothing is wrong, and just a line is printed
abbrev pub ShowsScore : (Score → Bytes) → Score → Option Bytes → Option Bytes → Type 0
ShowsScore line s old new = (all_right s ≡ true) × Appends old new (lined (line s))
