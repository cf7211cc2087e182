-- Text as bytes: its lines, the words of a line, and the number that a word writes. Assumes nothing: these are definitions.
use Rattle.std.specs.Prelude.{◌≡◌, ℕ, ◌+◌, ◌-◌, ◌*◌, Bool, true, cond, ◌&&◌, ◌||◌, List, [], ◌∷◌, length, Some, None, Option, ◌==◌, nat_eq, nat_le, nat_lt}
use Rattle.text.specs.declared.read.Lines.{Lines}
use Rattle.text.specs.declared.read.Words.{Words}

abbrev pub Bytes : Type 0
Bytes = List ℕ

-- a space, a tab or a carriage return
abbrev pub blank : ℕ → Bool
blank b = b == 32 || (b == 9 || b == 13)

-- a closure that answers of each byte what `p` says of it
abbrev pub Computes : (ℕ → Bool → Type 0) → (ℕ → Bool) → Type 0
Computes answers p = (b : ℕ) (r : Bool) → answers b r → r ≡ p b

-- what stands before the first byte of which `stop` holds, and what stands from it on
unfoldable pub before : (ℕ → Bool) → Bytes → Bytes
before stop [] = []
before stop (b ∷ bs) = cond (stop b) [] (b ∷ before stop bs)

unfoldable pub from : (ℕ → Bool) → Bytes → Bytes
from stop [] = []
from stop (b ∷ bs) = cond (stop b) (b ∷ bs) (from stop bs)

-- a byte in front of the first of some parts
abbrev pub in_front : ℕ → List Bytes → List Bytes
in_front b [] = (b ∷ []) ∷ []
in_front b (part ∷ parts) = (b ∷ part) ∷ parts

-- the lines of a text; a line feed ends one
unfoldable pub lines : Bytes → List Bytes
lines [] = []
lines (b ∷ bs) = cond (b == 10) ([] ∷ lines bs) (in_front b (lines bs))

-- a byte in front of the first of some lines, if there is one
abbrev pub in_front_of_first : ℕ → List Bytes → List Bytes
in_front_of_first b [] = []
in_front_of_first b (l ∷ ls) = (b ∷ l) ∷ ls

-- the lines that a line feed ends; a last line without its end is none of them
unfoldable pub whole_lines : Bytes → List Bytes
whole_lines [] = []
whole_lines (b ∷ bs) = cond (b == 10) ([] ∷ whole_lines bs) (in_front_of_first b (whole_lines bs))

-- a last line has no end
abbrev pub is_torn : Bytes → Bool
is_torn text = nat_lt (length (whole_lines text)) (length (lines text))

abbrev pub lines_left : Lines → List Bytes
lines_left s = lines s.rest.now

-- a word ends before a blank and at the end
abbrev pub word_ends : Bytes → Bool
word_ends [] = true
word_ends (b ∷ bs) = blank b

-- the words of a line, which blanks keep apart
unfoldable pub words : Bytes → List Bytes
words [] = []
words (b ∷ bs) = cond (blank b) (words bs) (cond (word_ends bs) ((b ∷ []) ∷ words bs) (in_front b (words bs)))

abbrev pub words_left : Words → List Bytes
words_left s = words s.rest.now

-- the words that stand before the comment
abbrev pub said : Bytes → List Bytes
said line = words (before (λ b. nat_eq b 35) line)

abbrev pub digit : ℕ → Bool
digit b = nat_le 48 b && nat_le b 57

unfoldable pub all_digits : Bytes → Bool
all_digits [] = true
all_digits (b ∷ bs) = digit b && all_digits bs

-- what digits write, after what was read so far
unfoldable pub value : ℕ → Bytes → ℕ
value n [] = n
value n (b ∷ bs) = value (n * 10 + (b - 48)) bs

-- the number that a word of digits writes, below 2^64
unfoldable pub decimal : Bytes → Option ℕ
decimal [] = None
decimal (b ∷ bs) = cond (all_digits (b ∷ bs) && nat_lt (value 0 (b ∷ bs)) 18446744073709551616) (Some (value 0 (b ∷ bs))) None
