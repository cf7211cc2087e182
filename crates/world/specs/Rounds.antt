-- One thing that happens in a river, its calm written out as items of the definitions.
use Rattle.std.specs.Prelude.{ℕ, zero, suc, List, [], ◌∷◌, ◌++◌}
use Rattle.machine.specs.Run as run
use Rattle.machine.specs.Run.{works, poke, brings, falls, up_to}
use Rattle.river.specs.declared.model.Item.{Item}
use Rattle.river.specs.declared.model.Item.TheVariants.{Works, Poke, Brings, Falls, Calm}

-- what each machine of a list brings about, one after the other
unfoldable pub in_turn : (ℕ → List run.Item) → List ℕ → List run.Item
in_turn f [] = []
in_turn f (i ∷ is) = f i ++ in_turn f is

-- the two halves of a round of calm, with so many acts for each turn: each machine is poked and works; and to each a letter comes from each, and it works
abbrev pub pokes : ℕ → List run.Item
pokes n = in_turn (λ i. poke i ∷ works i n ∷ []) (up_to 8)

abbrev pub letters_to : ℕ → ℕ → List run.Item
letters_to n j = in_turn (λ i. brings i j ∷ works j n ∷ []) (up_to 8)

abbrev pub a_round : ℕ → List run.Item
a_round n = pokes n ++ in_turn (letters_to n) (up_to 8)

unfoldable pub all_rounds : ℕ → ℕ → List run.Item
all_rounds zero n = []
all_rounds (suc k) n = a_round n ++ all_rounds k n

-- one thing that happens, written out
abbrev pub written_out : Item → List run.Item
written_out (Works i n) = works i n ∷ []
written_out (Poke i) = poke i ∷ []
written_out (Brings i j) = brings i j ∷ []
written_out (Falls i) = falls i ∷ []
written_out (Calm k n) = all_rounds k n
