-- What eight of the machines that run promise, whatever their gauges have. Each is a statement, proved behind a function. Assumes nothing.
use Rattle.std.specs.Prelude.{◌≡◌, ℕ, ◌<◌, true, List, length}
use Rattle.sums.specs.Sums.{Gauges, gauges_fine, all_told}
use Rattle.machine.specs.Entry.{own}
use Rattle.machine.specs.Run.{Item, machine_at, nth_row, all_happened, calm, new_world}
use Rattle.protocol.specs.Limits.{crew}
use Rattle.promise.specs.Promise.{Safe}

-- Whatever happens and however much of it: nothing is at fault, then and in any calm after, and what is told is right; and after some calm everything is told.
unfoldable pub EverWhole : Type 0
EverWhole =
    (gs : Gauges) (is : List Item) → gauges_fine gs ≡ true →
    Safe gs (all_happened own gs (new_world own) is)
    × ((k n : ℕ) → Safe gs (calm k n own gs (all_happened own gs (new_world own) is)))
    × ((k : ℕ) × (n : ℕ) × (all_told gs (calm k n own gs (all_happened own gs (new_world own) is)).told ≡ true))

-- After some calm the whole row of each gauge is released.
unfoldable pub AllReleased : Type 0
AllReleased =
    (gs : Gauges) (is : List Item) → gauges_fine gs ≡ true →
    (k : ℕ) × (n : ℕ)
    × ((i : ℕ) → i < crew → (machine_at (calm k n own gs (all_happened own gs (new_world own) is)).machines i).gone ≡ length (nth_row gs i))
