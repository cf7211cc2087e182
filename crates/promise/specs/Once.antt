-- How often rows stand on the wall. A statement. Assumes nothing.
use Rattle.std.specs.Prelude.{◌≡◌, ℕ, ◌+◌, ◌≤◌, true, List, []}
use Rattle.sums.specs.Again.{times_told}
use Rattle.sums.specs.Sums.{Gauges, gauges_fine}
use Rattle.machine.specs.Run.{Engine, Item, all_happened, calm, new_world}
use Rattle.machine.specs.Log.{struck_telling, all_log}

-- With any engine that keeps this, nothing is told twice, unless its machine was struck between telling it and the end of the act after: whatever happens, and
-- in any calm after, a row stands on the wall once at most, and once more for each such stroke.
unfoldable pub ToldTwiceIfStruck : Engine → Type 0
ToldTwiceIfStruck e =
    (gs : Gauges) (is : List Item) (r n h k : ℕ) → gauges_fine gs ≡ true →
    times_told h k (calm r n e gs (all_happened e gs (new_world e) is)).told ≤ 1 + struck_telling h k (all_log e gs (new_world e) is [])
