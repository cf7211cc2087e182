-- Rows of bytes.
use Rattle.std.proofs.Common.{◌≡◌, ℕ, suc, ◌<◌, ◌≤◌, true, ltb, List, [], ◌∷◌, length, get_or, refl}
use Rattle.std.proofs.lemmas.Bool.{and_parts, and_from, le-leb, lt-ltb, leb-true}
use Rattle.sums.specs.Sums.{every}
use Rattle.machine.specs.Run.{bytes}

all_bytes : (xs : List ℕ) → ((i : ℕ) → get_or xs i 0 < 256) → every (λ b. ltb b 256) xs ≡ true
unfolding every
all_bytes [] h = refl
all_bytes (x ∷ xs) h = and_from _ _ (lt-ltb _ _ (h 0)) (all_bytes xs (λ i. h (suc i)))

pub bytes_fit : (xs : List ℕ) → length xs ≤ 4096 → ((i : ℕ) → get_or xs i 0 < 256) → bytes xs ≡ true
bytes_fit xs le h = and_from _ _ (le-leb _ _ le) (all_bytes xs h)

pub fit_few : (xs : List ℕ) → bytes xs ≡ true → length xs ≤ 4096
fit_few xs h = leb-true _ _ (and_parts _ _ h).0
