-- Bytes written by hexadecimal digits, and read back. Assumes nothing: these are definitions.
use Rattle.std.specs.Prelude.{◌≡◌, ℕ, ◌+◌, ◌-◌, ◌*◌, ◌/◌, ◌%◌, cond, ◌&&◌, [], ◌∷◌, Some, None, Ok, Err, vec_items, Option, Result, Vec, nat_le, nat_lt}
use Rattle.text.specs.declared.base16.HexError.{HexError}
use Rattle.text.specs.declared.base16.HexError.TheVariants.{OddLength, NotADigit, Memory}
use Rattle.text.specs.Text.{Bytes}

-- 0 to 9, then a to f
abbrev pub hex_digit : ℕ → ℕ
hex_digit n = cond (nat_lt n 10) (48 + n) (87 + n)

abbrev pub hex_value : ℕ → Option ℕ
hex_value c = cond (nat_le 48 c && nat_le c 57) (Some (c - 48)) (cond (nat_le 97 c && nat_le c 102) (Some (c - 87)) None)

-- two digits for each byte, the one that counts more first
unfoldable pub hex : Bytes → Bytes
hex [] = []
hex (b ∷ bs) = hex_digit (b / 16) ∷ hex_digit (b % 16) ∷ hex bs

abbrev pub joined : Option ℕ → Option ℕ → Option ℕ
joined None l = None
joined (Some h) None = None
joined (Some h) (Some l) = Some (h * 16 + l)

abbrev pub hex_byte : ℕ → ℕ → Option ℕ
hex_byte c d = joined (hex_value c) (hex_value d)

-- a byte in front of those that follow
abbrev pub led : Option ℕ → Result Bytes HexError → Result Bytes HexError
led None r = Err NotADigit
led (Some b) (Ok bs) = Ok (b ∷ bs)
led (Some b) (Err e) = Err e

-- two digits at a time; the first that is wrong is told
unfoldable pub unhex : Bytes → Result Bytes HexError
unhex [] = Ok []
unhex (c ∷ []) = Err OddLength
unhex (c ∷ d ∷ cs) = led (hex_byte c d) (unhex cs)

abbrev pub UnhexSays : {Z : Type 0} → Bytes → Result (Vec ℕ Z) HexError → Type 0
UnhexSays word (Ok v) = unhex word ≡ Ok (vec_items v)
UnhexSays word (Err OddLength) = unhex word ≡ Err OddLength
UnhexSays word (Err NotADigit) = unhex word ≡ Err NotADigit
UnhexSays word (Err Memory) = Unit {0}
