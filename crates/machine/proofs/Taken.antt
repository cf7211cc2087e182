-- What is chosen once something is taken in.
use Rattle.std.proofs.Common.{◌≡◌, ℕ, List, Some, None, Ok, Option, sym, ap}
use Rattle.gauge.specs.Answers.{Absorbed}
use Rattle.machine.specs.Choose.{chooses}
use Rattle.machine.specs.Machine.{absorbed}

pub absorbed_is : (m m₁ : List ℕ) (o : Option (List ℕ)) (u : Unit {0}) → Absorbed o m (Ok u) m₁ → absorbed m o ≡ chooses m₁
absorbed_is m m₁ (Some n) u a = ap chooses (sym a.1)
absorbed_is m m₁ None u a = absurd (let no = a.1 in cc)
