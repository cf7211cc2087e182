use Rattle.std.proofs.Common.{◌≡◌, ℕ, ◌||◌, Bool, true, false, not, eqb, List, [], ◌∷◌, refl, ap, ◌∙◌, rules, tests}
use Rattle.std.specs.List.{list_any}
use Rattle.std.proofs.lemmas.Iterator.{YieldsList-from_slice}
use Rattle.std.proofs.lemmas.Iterator.Search.{any_from_yields_List}
use Rattle.sums.specs.Sums.{any, or}
use Rattle.machine.proofs.boot.has_reading.Goals as goal

or_is : (a b : Bool) → (a || b) ≡ or a b
or_is true b = refl
or_is false b = refl

any_is : (f : ℕ → Bool) (xs : List ℕ) → list_any f xs ≡ any f xs
unfolding any
any_is f [] = refl
any_is f (x ∷ xs) = ap (λ b. f x || b) (any_is f xs) ∙ or_is (f x) (any f xs)

pub returns : goal.returns
returns c =
    any_from_yields_List (λ n. not (eqb n 0)) _ _ _ c.any.ensures.ran (YieldsList-from_slice c.args.counts.now cc) (λ x b q k. search (rules, tests))
    ∙ any_is (λ n. not (eqb n 0)) c.args.counts.now
