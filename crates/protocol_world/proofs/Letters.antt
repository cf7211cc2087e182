-- What holds of each letter of a list.
use Rattle.std.proofs.Common.{◌≡◌, ℕ, List, [], ◌∷◌, ◌++◌, Option}
use Rattle.protocol.specs.Phases.{Event}
use Rattle.protocol.specs.Statements.{Letter}
use Rattle.protocol_world.proofs.Invariant.{EachIs, came}

-- LISTS OF LETTERS
module _ (P : Letter → Type 0) where
  pub each_back : (xs ys : List Letter) → EachIs P (xs ++ ys) → EachIs P ys
  unfolding EachIs
  each_back [] ys h = h
  each_back (x ∷ xs) ys h = each_back xs ys h.1

  pub each_front : (xs ys : List Letter) → EachIs P (xs ++ ys) → EachIs P xs
  unfolding EachIs
  each_front [] ys h = tt
  each_front (x ∷ xs) ys h = (h.0, each_front xs ys h.1)

  pub each_join : (xs ys : List Letter) → EachIs P xs → EachIs P ys → EachIs P (xs ++ ys)
  unfolding EachIs
  each_join [] ys h k = k
  each_join (x ∷ xs) ys h k = (h.0, each_join xs ys h.1 k)

  pub each_one : (l : Letter) → P l → EachIs P (l ∷ [])
  unfolding EachIs
  each_one l p = (p, tt)

  pub each_none : EachIs P []
  unfolding EachIs
  each_none = tt

  pub each_head : (l : Letter) (ls : List Letter) → EachIs P (l ∷ ls) → P l
  unfolding EachIs
  each_head l ls h = h.0

  pub each_map : (Q : Letter → Type 0) → ((l : Letter) → P l → Q l) → (xs : List Letter) → EachIs P xs → EachIs Q xs
  unfolding EachIs
  each_map Q f [] h = tt
  each_map Q f (x ∷ xs) h = (f x h.0, each_map Q f xs h.1)

-- what is told next is no letter
abbrev pub NoLetter : Option Event → Type 0
NoLetter o = (a : ℕ) → came a o ≡ []
