-- What else any engine promises that mirrors the machine of records: each is a statement, proved behind a function. Assumes nothing.
use Rattle.store.specs.Drawers.{root_drawer}
use Rattle.sums.specs.Cells.{slots}
use Rattle.std.specs.Prelude.{◌≡◌, ℕ, ◌+◌, ◌-◌, ◌*◌, ◌/◌, ◌%◌, ◌<◌, ◌≤◌, ◌⊎◌, ◌≢◌, true, List, length, Some, slice_index_or}
use Rattle.sums.specs.Again.{told_again}
use Rattle.sums.specs.Parts.{no_reading}
use Rattle.sums.specs.Sums.{Reading, Gauges, ToldSum, hour_of, has_told, all_told, gauges_fine}
use Rattle.machine.specs.Log.{strokes_of}
use Rattle.machine.specs.Run.{Engine, Machine, World, Item, machine_at, nth_row, all_happened, calm, new_world}
use Rattle.protocol.specs.Entries.{entry_of}
use Rattle.protocol.specs.Limits.{crew, late}
use Rattle.protocol.specs.Reader.{no_set, Root}
use Rattle.protocol.specs.Searches.{sum_below}
use Rattle.protocol.specs.Tables.{Page}
use Rattle.protocol_world.specs.Drawers.{page_drawer}
use Rattle.protocol_world.specs.Enough.{enough_acts, enough_rounds}
use Rattle.promise.specs.Promise.{Safe}
use Rattle.protocol_bridge.specs.Views.{Views, Mirrors}

-- NOTHING IS WRONG, whatever happens and however much of it, and in any calm after.
abbrev pub EverSafe : Engine → Type 0
EverSafe e =
    (gs : Gauges) (is : List Item) → gauges_fine gs ≡ true →
    Safe gs (all_happened e gs (new_world e) is) × ((k n : ℕ) → Safe gs (calm k n e gs (all_happened e gs (new_world e) is)))

unfoldable pub MirrorsEverSafe : Type 0
MirrorsEverSafe = (v : Views) (e : Engine) → Mirrors v e → EverSafe e

-- Rows are told again at most as often as machines are struck, and never in calm.
abbrev pub ToldAgain : Engine → Type 0
ToldAgain e =
    (gs : Gauges) (is : List Item) (k n : ℕ) → gauges_fine gs ≡ true →
    told_again (calm k n e gs (all_happened e gs (new_world e) is)).told ≤ sum_below (λ m. strokes_of m is) crew

unfoldable pub MirrorsToldAgain : Type 0
MirrorsToldAgain = (v : Views) (e : Engine) → Mirrors v e → ToldAgain e

-- ALL IS DONE IN CALM of so many rounds, or more, with turns of so many acts, or more, whatever has happened before: all is told and released.
abbrev pub EnoughCalm : Gauges → World → (rounds acts : ℕ) → Type 0
EnoughCalm gs w k n = (enough_rounds gs (length w.wires) ≤ k) × ((i : ℕ) → i < crew → enough_acts gs i ≤ n)

abbrev pub IsDone : Gauges → World → Type 0
IsDone gs w = (all_told gs w.told ≡ true) × ((i : ℕ) → i < crew → (machine_at w.machines i).gone ≡ length (nth_row gs i))

abbrev pub DoneInCalm : Engine → Type 0
DoneInCalm e =
    (gs : Gauges) (is : List Item) (k n : ℕ) → gauges_fine gs ≡ true → EnoughCalm gs (all_happened e gs (new_world e) is) k n →
    IsDone gs (calm k n e gs (all_happened e gs (new_world e) is))

unfoldable pub MirrorsDoneInCalm : Type 0
MirrorsDoneInCalm = (v : Views) (e : Engine) → Mirrors v e → DoneInCalm e

-- NOTHING IS RELEASED TOO SOON: of what a machine has released each reading is told, or is of an hour that the root record's pages hold.
abbrev pub ToldOrKept : List ToldSum → Root → Reading → Type 0
ToldOrKept ts root r = (has_told ts (hour_of r) r.key ≡ true) ⊎ ((root.set ≢ no_set) × (root.hour ≤ hour_of r) × (hour_of r ≤ root.hour + late))

-- the page of an hour h of these, for the adder of place k, has the entry of the readings before the root record's place
abbrev pub PagesKept : Views → List Reading → Machine → Root → Type 0
PagesKept v row x root =
    (h k : ℕ) → (root.set ≢ no_set) → root.hour ≤ h → h ≤ root.hour + late → k < crew * slots →
    (p : Page) × (v.page_of (nth_row x.slots (page_drawer root.set (crew * (h - root.hour) + k % crew))) ≡ Some p)
    × (p.entries (k / crew) ≡ entry_of row root.pos h k)

abbrev pub Accounted : Views → List Reading → List ToldSum → Machine → Root → Type 0
Accounted v row ts x root =
    (x.gone ≤ root.pos)
    × (root.pos ≤ length row)
    × ((p : ℕ) → p < root.pos → ToldOrKept ts root (slice_index_or row p no_reading))
    × PagesKept v row x root

abbrev pub RollKept : Views → Gauges → World → ℕ → Type 0
RollKept v gs w i = Accounted v (nth_row gs i) w.told (machine_at w.machines i) (v.root_of (nth_row (machine_at w.machines i).slots root_drawer))

abbrev pub ReleasedKept : Views → Engine → Type 0
ReleasedKept v e =
    (gs : Gauges) (is : List Item) (k n i : ℕ) → gauges_fine gs ≡ true → i < crew →
    RollKept v gs (calm k n e gs (all_happened e gs (new_world e) is)) i

unfoldable pub MirrorsReleasedKept : Type 0
MirrorsReleasedKept = (v : Views) (e : Engine) → Mirrors v e → ReleasedKept v e
