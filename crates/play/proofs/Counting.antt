-- Rows that are told again, counted one by one.
use Rattle.std.proofs.Common.{◌≡◌, ℕ, ◌+◌, Bool, List, [], ◌∷◌, ◌++◌, ap, ◌∙◌, add_assoc}
use Rattle.sums.specs.Again.{again_after}
use Rattle.sums.specs.Sums.{pick, ToldSum, has_told}

-- one row more, whose hour and place stood there before or not
pub again_step : (a total : ℕ) (wall rest : List ToldSum) (t : ToldSum) (b : Bool) → b ≡ has_told wall t.hour t.place →
    a + again_after wall (t ∷ rest) ≡ total → (a + pick b 1 0) + again_after (wall ++ t ∷ []) rest ≡ total
unfolding again_after
again_step a total wall rest t b e h =
    add_assoc a (pick b 1 0) (again_after (wall ++ t ∷ []) rest) ∙ ap (λ q. a + (pick q 1 0 + again_after (wall ++ t ∷ []) rest)) e ∙ h
