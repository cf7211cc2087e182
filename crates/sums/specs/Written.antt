-- What is written over a part of a list. Assumes nothing: these are definitions.
use Rattle.std.specs.Prelude.{ℕ, ◌+◌, List, ◌++◌, length, take, drop}

-- `ys` over the elements from `at` on
abbrev pub written : {A : Type 0} → List A → (at : ℕ) → List A → List A
written xs at ys = take at xs ++ (ys ++ drop (at + length ys) xs)
