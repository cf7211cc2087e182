-- What readers and writers of numbers answer and leave. Assumes nothing: these are definitions.
use Rattle.std.specs.Prelude.{◌≡◌, ℕ, ◌+◌, ◌*◌, ◌≤◌, true, false, cond, ◌&&◌, List, ◌++◌, length, take, drop, is_ok, Some, None, Ok, Err, Option, Result, nat_le}
use Rattle.sums.specs.Sums.{every}
use Rattle.sums.specs.Digits.{widest, fits, value, row_bytes, row_numbers}
use Rattle.sums.specs.declared.numbers.RowError.{RowError}
use Rattle.sums.specs.declared.numbers.RowError.TheVariants.{TooWide, TooShort}

-- the number in the first bytes, and the bytes behind it; none where these are too few, or more are asked for than a number has
abbrev pub NumberSays : (width : ℕ) (bytes : List ℕ) → Option (ℕ × List ℕ) → Type 0
NumberSays w bs None = nat_le w widest && nat_le w (length bs) ≡ false
NumberSays w bs (Some p) = (w ≤ widest) × (p.0 ≡ value (take w bs)) × (p.1 ≡ drop w bs) × (length p.1 + w ≡ length bs)

-- What is written is read back, whatever stands behind it, where each number fits the width.
unfoldable pub NumbersLaw : Type 0
NumbersLaw = (w : ℕ) (ns rest : List ℕ) → every (fits w) ns ≡ true → row_numbers w (length ns) (row_bytes w ns ++ rest) ≡ ns

-- so many numbers have room in so many bytes, where there are numbers of this width
abbrev pub row_room : (width count bytes : ℕ) → Result (Unit {0}) RowError
row_room w n k = cond (nat_le w widest) (cond (nat_le (w * n) k) (Ok tt) (Err TooShort)) (Err TooWide)

-- a row of numbers is read or written where there are such numbers, and bytes enough
abbrev pub row_answer : (width : ℕ) (numbers bytes : List ℕ) → Result (Unit {0}) RowError
row_answer w ns bs = row_room w (length ns) (length bs)

-- the numbers once the row is read; as they were where it is refused
abbrev pub row_read : (width : ℕ) (bytes numbers : List ℕ) → List ℕ
row_read w bs ns = cond (is_ok (row_answer w ns bs)) (row_numbers w (length ns) bs) ns

abbrev pub row_over : (width : ℕ) (numbers out : List ℕ) → List ℕ
row_over w ns out = row_bytes w ns ++ drop (w * length ns) out

-- bytes with a row written over their front; as they were where it is refused
abbrev pub row_written : (width : ℕ) (numbers out : List ℕ) → List ℕ
row_written w ns out = cond (is_ok (row_answer w ns out)) (row_over w ns out) out
