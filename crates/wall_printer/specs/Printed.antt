-- What is printed of a wall. Assumes nothing: these are definitions.
use Rattle.std.specs.Prelude.{◌≡◌, ℕ, true, false, Bool, List, ◌++◌, None, Ok, Err, Option, Result, IfSome, codes}
use Rattle.std.specs.Io.KnownBytes.{Appends}
use Rattle.sums.specs.Sums.{those}
use Rattle.text.specs.Text.{Bytes, whole_lines}
use Rattle.text.specs.Written.{lined, lines_of}
use Rattle.rows.specs.declared.Row.{Row}
use Rattle.rows.specs.Walls.{as_wall}
use Rattle.wall_reader.specs.Filters.{lets_through}
use Rattle.wall_reader.specs.Reads.{TableOf}
use Rattle.rows.specs.Shown.{row_line}
use Rattle.wall_reader.specs.Shown.{csv_line}
use Rattle.wall_reader.specs.declared.mistake.WallMistake.{WallMistake}
use Rattle.wall_reader.specs.declared.mistake.WallMistake.TheVariants.{Line, Contradiction, Memory}
use Rattle.wall_reader.specs.declared.words.Form.{Form}
use Rattle.wall_reader.specs.declared.words.Form.TheVariants.{Rows, Csv, Chart}
use Rattle.wall_reader.specs.declared.words.Misuse.{Misuse}
use Rattle.wall_reader.specs.declared.words.Request.{Request}
use Rattle.wall_printer.specs.declared.program.TheConstants.{USAGE}

-- rows in a form; of a chart's text nothing is said
abbrev pub Shows : Form → List Row → (old new : Option Bytes) → Type 0
Shows Rows rs old new = Appends old new (lines_of row_line rs)
Shows Csv rs old new = Appends old new (lined (codes "hour,place,sum") ++ lines_of csv_line rs)
Shows Chart rs old new = Unit {0}

-- those rows of a wall that are asked for: each of its whole lines is a row, and no row contradicts another. The wall is the input where no file is named
abbrev pub ShowsWall : Request → (input old new : Option Bytes) → Type 0
ShowsWall q input old new =
    (text : Bytes) × (all some : List Row) × (q.file ≡ None → IfSome input (λ bs. text ≡ bs)) × TableOf (whole_lines text) (as_wall all)
    × (as_wall some ≡ those (lets_through q.filter) (as_wall all)) × Shows q.form some old new

abbrev pub Answers : (help : Bool) → Request → (input old new : Option Bytes) → Type 0
Answers true q input old new = Appends old new USAGE.now
Answers false q input old new = ShowsWall q input old new

abbrev pub Does : Result Request Misuse → (input old new : Option Bytes) → Type 0
Does (Ok q) input old new = Answers q.help q input old new
Does (Err m) input old new = ⊥

-- a line that is no row is refused, and two sums of one hour and place are wrong
abbrev pub status_by : WallMistake → ℕ
status_by (Line n e) = 2
status_by (Contradiction n h k first second) = 1
status_by Memory = 1
