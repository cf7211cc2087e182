-- What is answered where something is taken in, or cannot be. Assumes nothing: these are definitions.
use Rattle.std.specs.Prelude.{◌≡◌, ℕ, List, Some, None, Ok, Err, Option, Result}
use Rattle.gauge.specs.declared.memory.Garbled.{Garbled}

-- the memory is then the one that is told of, or, where there is none, as it was
abbrev pub Absorbed : Option (List ℕ) → (memory : List ℕ) → Result (Unit {0}) Garbled → (memory₁ : List ℕ) → Type 0
Absorbed (Some n) m r m₁ = (r ≡ Ok tt) × (m₁ ≡ n)
Absorbed None m r m₁ = (e : Garbled) × (r ≡ Err e) × (m₁ ≡ m)
