-- Searches, tests and sums of all numbers below one; and functions from numbers in which one place is set. Assumes nothing: these are definitions.
use Rattle.std.specs.Prelude.{ℕ, zero, suc, ◌+◌, Bool, true, false, ◌&&◌, Some, None, Option, ◌==◌}
use Rattle.sums.specs.Sums.{pick, or}

-- the least for which it holds
unfoldable pub find : (ℕ → Bool) → ℕ → Option ℕ
find f zero = None
find f (suc n) = elim (find f n) [ Some k ↦ Some k | None ↦ pick (f n) (Some n) None ]

-- it holds of all, or of any
unfoldable pub all_below : (ℕ → Bool) → ℕ → Bool
all_below f zero = true
all_below f (suc n) = all_below f n && f n

unfoldable pub any_below : (ℕ → Bool) → ℕ → Bool
any_below f zero = false
any_below f (suc n) = or (any_below f n) (f n)

unfoldable pub sum_below : (ℕ → ℕ) → ℕ → ℕ
sum_below f zero = 0
sum_below f (suc n) = sum_below f n + f n

-- a function with one place set, or one pair's
abbrev pub put : {A : Type 0} → (ℕ → A) → ℕ → A → ℕ → A
put f i x j = pick (j == i) x (f j)

abbrev pub put₂ : {A : Type 0} → (ℕ → ℕ → A) → ℕ → ℕ → A → ℕ → ℕ → A
put₂ f i j x a b = pick (a == i && b == j) x (f a b)
