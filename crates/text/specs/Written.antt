-- Text that is written in lines. Assumes nothing: these are definitions.
use Rattle.std.specs.Prelude.{List, [], ◌∷◌, ◌++◌}
use Rattle.std.specs.List.{flat_map}
use Rattle.text.specs.Text.{Bytes}

-- a line feed ends a line
abbrev pub lined : Bytes → Bytes
lined l = l ++ 10 ∷ []

-- a line for each
abbrev pub lines_of : {A : Type 0} → (A → Bytes) → List A → Bytes
lines_of f xs = flat_map (λ x. lined (f x)) xs
