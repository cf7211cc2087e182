-- What happens, with more put in: calm written out, and strokes. Assumes nothing: these are definitions.
use Rattle.std.specs.Prelude.{◌≡◌, ℕ, Bool, true, List, [], ◌∷◌, ◌++◌, take, drop, Some, None, Ok, Err, vec_items, Option, Result, Vec}
use Rattle.std.specs.Option.{option_map}
use Rattle.sums.specs.Sums.{every}
use Rattle.machine.specs.Run as run
use Rattle.river.specs.declared.model.Item.{Item}
use Rattle.river.specs.declared.model.Item.TheVariants.{Works, Poke, Brings, Falls, Calm}
use Rattle.river.specs.Fine.{item_fine}
use Rattle.play.specs.Plays.{unrolled, is_plain}
use Rattle.play.specs.declared.course.StrikeError.{StrikeError}
use Rattle.play.specs.declared.course.StrikeError.TheVariants.{NotWorks, Memory}

-- more is at the end, and no calm came in with it
pub record Grown (old : List Item) (more : List run.Item) (new : List Item) : Type 0 where
  pub same : unrolled new ≡ unrolled old ++ more
  pub plain : every is_plain old ≡ true → every is_plain new ≡ true

-- a machine works so many acts and is struck, again and again
unfoldable pub strokes : ℕ → List ℕ → List Item
strokes i [] = []
strokes i (t ∷ ts) = Works i t ∷ Falls i ∷ strokes i ts

-- the strokes come before what the machine was to work at first
abbrev pub struck_first : List Item → List ℕ → Option (List Item)
struck_first [] ts = None
struck_first (Works i n ∷ its) ts = Some (strokes i ts ++ Works i n ∷ its)
struck_first (Poke i ∷ its) ts = None
struck_first (Brings i j ∷ its) ts = None
struck_first (Falls i ∷ its) ts = None
struck_first (Calm k n ∷ its) ts = None

-- the same at a place further on; nothing where no machine is to work there
abbrev pub struck_at : List Item → ℕ → List ℕ → Option (List Item)
struck_at its k ts = option_map (λ l. take k its ++ l) (struck_first (drop k its) ts)

abbrev pub StruckSays : {Z : Type 0} → List Item → ℕ → List ℕ → Result (Vec Item Z) StrikeError → Type 0
StruckSays its k ts (Ok v) = struck_at its k ts ≡ Some (vec_items v)
StruckSays its k ts (Err NotWorks) = struck_at its k ts ≡ None
StruckSays its k ts (Err Memory) = Unit {0}

-- so many acts are within the limits of an item
abbrev pub acts_fine : ℕ → Bool
acts_fine n = item_fine (Works 0 n)
