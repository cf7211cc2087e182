use Rattle.std.proofs.Common.{arith}
use Rattle.hut.proofs.Texts.{bytes_fit}
use Rattle.hut.proofs.text.Text.copied.Goals as goal

pub invariant_of-result : goal.invariant_of-result
invariant_of-result c = record { fits = rw c.in_ok-text.ensures.items (bytes_fit _ c.requires (λ i. omega (arith, c.type_inv.from i))) }
