-- What is counted of rivers that were played. Assumes nothing: these are definitions.
use Rattle.std.specs.Prelude.{ℕ, ◌-◌, List, [], ◌∷◌}
use Rattle.sums.specs.Sums.{Gauges}
use Rattle.machine.specs.Log.{strokes_of}
use Rattle.machine.specs.Run as run
use Rattle.protocol.specs.Limits.{crew}
use Rattle.protocol.specs.Searches.{sum_below}
use Rattle.river.specs.declared.model.Item.{Item}
use Rattle.world.specs.Rounds.{written_out}
use Rattle.world.specs.Tallies.{all_counted, total_of}
use Rattle.world.specs.Worlds.{took_place}

-- how often lightning strikes any of the machines
abbrev pub all_strokes : List run.Item → ℕ
all_strokes is = sum_below (λ m. strokes_of m is) crew

-- how many acts each item takes, from a world and its counts on: those that are counted after it, less those before it
unfoldable pub acts_of_each : Gauges → run.World → List ℕ → List Item → List ℕ
acts_of_each gs w cs [] = []
acts_of_each gs w cs (it ∷ its) =
    let after : List ℕ = all_counted gs w (written_out it) cs in
    (total_of after - total_of cs) ∷ acts_of_each gs (took_place gs w it) after its
