-- The end of a wall, behind which rows are put. Assumes nothing: these are definitions.
use Rattle.std.specs.Prelude.{◌≡◌, ℕ, ◌+◌, ◌≤◌, true, false, Bool, ◌||◌, List, [], ◌∷◌, ◌++◌, length, take, drop, is_ok, Some, None, Ok, Err, Option, Result, codes}
use Rattle.text.specs.Text.{Bytes, lines, whole_lines}
use Rattle.rows.specs.declared.Row.{Row}
use Rattle.wall_reader.specs.declared.mistake.Reason.{Reason}
use Rattle.wall_reader.specs.declared.tail.TailMistake.{TailMistake}
use Rattle.wall_reader.specs.declared.tail.TailMistake.TheVariants.{Line, Torn, Memory}
use Rattle.wall_reader.specs.Lines.{row_on}

-- a line with this number that is no row, or else what is found below it
abbrev pub wrong_or : ℕ → Result Row Reason → Option (ℕ × Reason) → Option (ℕ × Reason)
wrong_or n (Ok r) below = below
wrong_or n (Err e) below = Some (n, e)

-- the first line that is no row, counted from n, and why
unfoldable pub wrong_line : ℕ → List Bytes → Option (ℕ × Reason)
wrong_line n [] = None
wrong_line n (l ∷ ls) = wrong_or n (row_on l) (wrong_line (n + 1) ls)

-- a row of the fewest bytes
abbrev pub shortest : Bytes
shortest = codes "hour 0 place 0: 0"

-- the line is a row with this end, or one without some of its first bytes, behind it
unfoldable pub completes : Bytes → Bytes → Bool
completes l [] = is_ok (row_on (l ++ []))
completes l (b ∷ end) = is_ok (row_on (l ++ b ∷ end)) || completes l end

-- a row begins so
abbrev pub begins_row : Bytes → Bool
begins_row l = completes l shortest

-- the first n bytes are the lines that have their ends
pub record IsWhole (text : Bytes) (n : ℕ) : Type 0 where
  pub within : n ≤ length text
  pub lines : lines (take n text) ≡ whole_lines text
  pub rest : whole_lines (drop n text) ≡ []

-- each whole line is a row, and a row begins as the rest does; or what is wrong
abbrev pub TailSays : Bytes → Result ℕ TailMistake → Type 0
TailSays text (Ok n) = IsWhole text n × (wrong_line 1 (whole_lines text) ≡ None) × (begins_row (drop n text) ≡ true)
TailSays text (Err (Line n e)) = wrong_line 1 (whole_lines text) ≡ Some (n, e)
TailSays text (Err Torn) = (n : ℕ) × IsWhole text n × (wrong_line 1 (whole_lines text) ≡ None) × (begins_row (drop n text) ≡ false)
TailSays text (Err Memory) = Unit {0}
