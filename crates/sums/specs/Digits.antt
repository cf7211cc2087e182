-- Numbers as bytes, the lowest first (little-endian), and rows of numbers of one width. Assumes nothing: these are definitions.
use Rattle.std.specs.Prelude.{ℕ, zero, suc, ◌+◌, ◌*◌, ◌/◌, ◌%◌, ◌^◌, Bool, List, [], ◌∷◌, ◌++◌, take, drop, nat_lt}

-- no number has more bytes
abbrev pub widest : ℕ
widest = 8

-- a number in so many bytes; of one that does not fit, its low bytes
unfoldable pub digits : (width n : ℕ) → List ℕ
digits zero n = []
digits (suc w) n = n % 256 ∷ digits w (n / 256)

-- the number that bytes write
unfoldable pub value : List ℕ → ℕ
value [] = 0
value (b ∷ bs) = b + 256 * value bs

abbrev pub fits : (width n : ℕ) → Bool
fits w n = nat_lt n (256 ^ w)

-- numbers one after the other, each in so many bytes
unfoldable pub row_bytes : (width : ℕ) → List ℕ → List ℕ
row_bytes w [] = []
row_bytes w (n ∷ ns) = digits w n ++ row_bytes w ns

-- so many numbers, from the front of bytes
unfoldable pub row_numbers : (width count : ℕ) → List ℕ → List ℕ
row_numbers w zero bs = []
row_numbers w (suc c) bs = value (take w bs) ∷ row_numbers w c (drop w bs)
