use Rattle.std.proofs.Common.{◌≡◌, ◌<◌, drop}
use Rattle.text.proofs.Numbers.{read_on}
use Rattle.text.proofs.read.decimal.Given as goal

abbrev pub invariant-loop-byte : goal.invariant-loop-byte
invariant-loop-byte l = (l.value < 18446744073709551616) × (read_on l.value (drop l.byte-index l.word) ≡ read_on 0 l.word)
