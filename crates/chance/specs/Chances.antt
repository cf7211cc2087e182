-- Numbers at random, by splitmix64: a state that goes on by an odd number, and is mixed. Assumes nothing: these are definitions.
use Rattle.std.specs.Prelude.{ℕ, ◌+◌, ◌*◌, ◌/◌, ◌%◌, ◌^◌, bit_xor}

abbrev pub next_state : ℕ → ℕ
next_state s = (s + 11400714819323198485) % 2 ^ 64

-- the upper bits into the lower ones, and then spread over all
abbrev pub folded : ℕ → ℕ → ℕ
folded k z = bit_xor z (z / 2 ^ k)

abbrev pub mixed : ℕ → ℕ
mixed z = folded 31 ((folded 27 ((folded 30 z * 13787848793156543929) % 2 ^ 64) * 10723151780598845931) % 2 ^ 64)
