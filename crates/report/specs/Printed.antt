-- What is read and printed of rivers. Assumes nothing: these are definitions.
use Rattle.std.specs.Prelude.{◌≡◌, ℕ, true, List, ◌++◌, Ok, Option, IfSome, codes}
use Rattle.std.specs.Str.{bytes_eq}
use Rattle.std.specs.Io.KnownBytes.{Appends}
use Rattle.sums.specs.Sums.{Gauges, ToldSum}
use Rattle.river.specs.Rivers.{ToldRiver, river_of}
use Rattle.river.specs.declared.mistake.Mistake.{Mistake}
use Rattle.river.specs.declared.mistake.Mistake.TheVariants.{Line, Memory}
use Rattle.rows.specs.Shown.{row_line}
use Rattle.rows.specs.Walls.{ToTell}
use Rattle.text.specs.Text.{Bytes}
use Rattle.text.specs.Written.{lines_of}

-- a row as it stands on the wall
abbrev pub told_line : ToldSum → Bytes
told_line t = row_line (record { hour = t.hour; place = t.place; sum = t.sum })

abbrev pub untold_line : ToldSum → Bytes
untold_line t = codes "untold: " ++ told_line t

-- a line for each row
abbrev pub wall_text : List ToldSum → Bytes
wall_text ts = lines_of told_line ts

abbrev pub untold_text : List ToldSum → Bytes
untold_text ts = lines_of untold_line ts

-- a text is the input's where the file is `-`, if it is known what the input has
abbrev pub IsFrom : (file : Bytes) → (input : Option Bytes) → Bytes → Type 0
IsFrom file input text = bytes_eq file (codes "-") ≡ true → IfSome input (λ bs. text ≡ bs)

-- the river that such a text tells of
abbrev pub TellsOf : (file : Bytes) → (input : Option Bytes) → ToldRiver → Type 0
TellsOf file input r = (text : Bytes) × IsFrom file input text × (river_of 268435456 text ≡ Ok r)

-- the status for a text that is no river, and for want of memory
abbrev pub status_by : Mistake → ℕ
status_by (Line n why) = 2
status_by Memory = 1

-- just the rows that are to be told are printed, in order
abbrev pub ListsAll : Gauges → Option Bytes → Option Bytes → Type 0
ListsAll gs old new = (ts : List ToldSum) × ToTell gs ts × Appends old new (wall_text ts)

-- the same of the river that the file has
abbrev pub ListsOne : (file : Bytes) → (input old new : Option Bytes) → Type 0
ListsOne file input old new = (r : ToldRiver) × TellsOf file input r × ListsAll r.gauges old new
