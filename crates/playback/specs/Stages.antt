-- What happens while a river is played, and what is printed meanwhile. Assumes nothing: these are definitions.
use Rattle.std.specs.Prelude.{◌≡◌, Bool, true, List, ◌++◌, Option}
use Rattle.std.specs.Io.KnownBytes.{Appends}
use Rattle.sums.specs.Sums.{Gauges, ToldSum}
use Rattle.machine.specs.Run as run
use Rattle.machine.specs.Run.{all_happened}
use Rattle.machine.specs.Entry.{own}
use Rattle.text.specs.Text.{Bytes}
use Rattle.report.specs.Printed.{wall_text}

-- from a world to another by these things that happen; where rows are shown, just those that were told meanwhile are printed
pub record PlaysOn (gs : Gauges) (rows : Bool) (w : run.World) (its : List run.Item) (w₁ : run.World) (old new : Option Bytes) : Type 0 where
  pub world : w₁ ≡ all_happened own gs w its
  pub more : List ToldSum
  pub told : w₁.told ≡ w.told ++ more
  pub shown : rows ≡ true → Appends old new (wall_text more)
