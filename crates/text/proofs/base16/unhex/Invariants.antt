use Rattle.std.proofs.Common.{◌≡◌, length, vec_items}
use Rattle.text.specs.Hex.{unhex}
use Rattle.text.proofs.Behind.{behind}
use Rattle.text.proofs.base16.unhex.Given as goal

abbrev pub invariant-loop-rest : goal.invariant-loop-rest
invariant-loop-rest l = behind (vec_items l.bytes) (unhex l.rest) ≡ unhex l.word

abbrev pub decreases-loop-rest : goal.decreases-loop-rest
decreases-loop-rest l = length l.rest
