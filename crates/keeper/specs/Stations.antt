-- What a station finds in its files. Assumes nothing: these are definitions.
use Rattle.std.specs.Prelude.{ℕ, Bool, ◌||◌, List, [], ◌∷◌, None, Some, Ok, Err, Option, Result, codes, eqb}
use Rattle.std.specs.List.{starts_with}
use Rattle.std.specs.Str.{bytes_eq}
use Rattle.text.specs.Text.{Bytes, decimal, lines, words}
use Rattle.seal.specs.Seals.{unsealed}
use Rattle.seal.specs.declared.SealError.{SealError}
use Rattle.keeper.specs.declared.files.ReleasedError.{ReleasedError}
use Rattle.keeper.specs.declared.files.ReleasedError.TheVariants.{Seal, NotANumber}

-- a single word that writes a number
abbrev pub lone_number : List Bytes → Option ℕ
lone_number [] = None
lone_number (w ∷ []) = decimal w
lone_number (w ∷ v ∷ ws) = None

-- a single line of such a word
abbrev pub lone_line : List Bytes → Option ℕ
lone_line [] = None
lone_line (l ∷ []) = lone_number (words l)
lone_line (l ∷ m ∷ ls) = None

-- the number below a checksum that fits
abbrev pub number_or : Option ℕ → Result ℕ ReleasedError
number_or (Some n) = Ok n
number_or None = Err NotANumber

abbrev pub released_of : Result Bytes SealError → Result ℕ ReleasedError
released_of (Ok bs) = number_or (lone_line (lines bs))
released_of (Err e) = Err (Seal e)

abbrev pub released_by : Bytes → Result ℕ ReleasedError
released_by file = released_of (unsealed file)

-- a name that a station may give a file in its folder, or one that was written beside its place
abbrev pub own_name : Bytes → Bool
own_name n = starts_with eqb n (codes "drawer-") || (starts_with eqb n (codes "released") || bytes_eq n (codes "lock"))
