use Rattle.std.proofs.Common.{◌≡◌, ◌++◌, drop, string_bytes}
use Rattle.text.specs.Hex.{hex}
use Rattle.text.proofs.base16.hex.Given as goal

abbrev pub invariant-loop-byte : goal.invariant-loop-byte
invariant-loop-byte l = string_bytes l.text ++ hex (drop l.byte-index l.bytes) ≡ hex l.bytes
