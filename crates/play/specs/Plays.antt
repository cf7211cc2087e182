-- What happens in a river, written out as items of the definitions. Assumes nothing: these are definitions.
use Rattle.std.specs.Prelude.{Bool, true, false, List, [], ◌∷◌, ◌++◌}
use Rattle.sums.specs.Sums.{Gauges}
use Rattle.machine.specs.Run as run
use Rattle.machine.specs.Run.{all_happened, new_world}
use Rattle.machine.specs.Entry.{own}
use Rattle.river.specs.declared.model.Item.{Item}
use Rattle.river.specs.declared.model.Item.TheVariants.{Works, Poke, Brings, Falls, Calm}
use Rattle.world.specs.Rounds.{written_out}

unfoldable pub unrolled : List Item → List run.Item
unrolled [] = []
unrolled (it ∷ its) = written_out it ++ unrolled its

-- anything but calm
abbrev pub is_plain : Item → Bool
is_plain (Works i n) = true
is_plain (Poke i) = true
is_plain (Brings i j) = true
is_plain (Falls i) = true
is_plain (Calm k n) = false

-- the world after all of it, from the start
abbrev pub played : Gauges → List Item → run.World
played gs its = all_happened own gs (new_world own) (unrolled its)
