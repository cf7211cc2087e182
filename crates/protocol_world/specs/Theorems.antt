-- What eight machines of records promise together. Each is a statement, proved behind a function of its name. Assumes nothing.
use Rattle.std.specs.Prelude.{◌≡◌, ℕ, suc, ◌+◌, ◌-◌, ◌*◌, ◌/◌, ◌%◌, ◌<◌, ◌≤◌, ◌⊎◌, ◌≢◌, true, false, List, [], length, Some, None, slice_index_or}
use Rattle.sums.specs.Again.{told_again}
use Rattle.sums.specs.Parts.{no_reading}
use Rattle.sums.specs.Sums.{every, Gauges, Reading, hour_of}
use Rattle.machine.specs.Log.{struck_telling, strokes_of}
use Rattle.machine.specs.Run.{Item, nth_row}
use Rattle.protocol.specs.Entries.{entry_of}
use Rattle.protocol.specs.Limits.{crew, late}
use Rattle.protocol.specs.Reader.{no_set}
use Rattle.protocol.specs.Searches.{sum_below}
use Rattle.protocol.specs.Tables.{Page}
use Rattle.protocol_world.specs.Enough.{letters_on, enough_acts, enough_rounds, Settled}
use Rattle.protocol_world.specs.Gauges.{gauges_late}
use Rattle.protocol_world.specs.Log.{all_log}
use Rattle.protocol_world.specs.Runs.{all_happened, calm, goes}
use Rattle.protocol_world.specs.Wall.{Told, times_told, is_right, has_told, all_told, sums_told}
use Rattle.protocol_world.specs.Worlds.{Node, World, new_world}

-- NOTHING IS WRONG, whatever happens and however much of it, and in any calm after: nothing is at fault, and every row that is told is right.
abbrev pub SafeRecords : Gauges → World → Type 0
SafeRecords gs w = (w.fault ≡ false) × (every (is_right gs) w.told ≡ true)

unfoldable pub NothingWrong : Type 0
NothingWrong =
    (gs : Gauges) (is : List Item) → gauges_late gs ≡ true →
    SafeRecords gs (all_happened gs new_world is) × ((k n : ℕ) → SafeRecords gs (calm k n gs (all_happened gs new_world is)))

-- ONCE ON THE WALL: a row stands there once at most, and once more for each time that its machine was struck between telling it and the end of the act after.
unfoldable pub ToldTwiceIfStruck : Type 0
ToldTwiceIfStruck =
    (gs : Gauges) (is : List Item) (r n h k : ℕ) → gauges_late gs ≡ true →
    times_told h k (calm r n gs (all_happened gs new_world is)).told ≤ 1 + struck_telling h k (all_log gs new_world is [])

-- So rows are told again at most as often as machines are struck, and never in calm.
unfoldable pub ToldAgain : Type 0
ToldAgain =
    (gs : Gauges) (is : List Item) (r n : ℕ) → gauges_late gs ≡ true →
    told_again (sums_told (calm r n gs (all_happened gs new_world is)).told) ≤ sum_below (λ m. strokes_of m is) crew

-- ALL IS TOLD IN CALM of so many rounds, or more, with turns of so many acts, or more, whatever has happened before.
abbrev pub EnoughCalm : Gauges → World → (rounds acts : ℕ) → Type 0
EnoughCalm gs w k n = (enough_rounds gs (letters_on w) ≤ k) × ((i : ℕ) → i < crew → enough_acts gs i ≤ n)

unfoldable pub AllToldInCalm : Type 0
AllToldInCalm =
    (gs : Gauges) (is : List Item) (k n : ℕ) → gauges_late gs ≡ true → EnoughCalm gs (all_happened gs new_world is) k n →
    all_told gs (calm k n gs (all_happened gs new_world is)).told ≡ true

-- And each machine has released its whole row then.
abbrev pub IsReleased : Gauges → World → Type 0
IsReleased gs w = (i : ℕ) → i < crew → (w.node i).gone ≡ length (nth_row gs i)

unfoldable pub AllReleased : Type 0
AllReleased =
    (gs : Gauges) (is : List Item) (k n : ℕ) → gauges_late gs ≡ true → EnoughCalm gs (all_happened gs new_world is) k n →
    IsReleased gs (calm k n gs (all_happened gs new_world is))

-- And the world is settled.
unfoldable pub SettlesInCalm : Type 0
SettlesInCalm =
    (gs : Gauges) (is : List Item) (k n : ℕ) → gauges_late gs ≡ true → EnoughCalm gs (all_happened gs new_world is) k n →
    Settled (calm k n gs (all_happened gs new_world is))

-- A turn ends: a machine that works on for so many acts, or more, rests then, whatever has happened and whatever it has been told.
unfoldable pub TurnEnds : Type 0
TurnEnds =
    (gs : Gauges) (is : List Item) (i n : ℕ) → gauges_late gs ≡ true → i < crew → enough_acts gs i ≤ n →
    ((goes n gs (all_happened gs new_world is) i).node i).pending ≡ None

-- A SETTLED WORLD IS DONE: all is told and released, so no machine waits for one that waits for it. It stays settled in any calm of at least an act a turn, in
-- which nothing more is told.
unfoldable pub SettledIsDone : Type 0
SettledIsDone =
    (gs : Gauges) (is : List Item) → gauges_late gs ≡ true → Settled (all_happened gs new_world is) →
    (all_told gs (all_happened gs new_world is).told ≡ true)
    × IsReleased gs (all_happened gs new_world is)
    × ((k n : ℕ) →
    Settled (calm k (suc n) gs (all_happened gs new_world is))
    × ((calm k (suc n) gs (all_happened gs new_world is)).told ≡ (all_happened gs new_world is).told))

-- NOTHING IS RELEASED TOO SOON: of what a machine has released each reading is told, or is of an hour that the root record's pages hold.
abbrev pub ToldOrKept : List Told → Node → Reading → Type 0
ToldOrKept ts x r =
    (has_told ts (hour_of r) r.key ≡ true) ⊎ ((x.root.set ≢ no_set) × (x.root.hour ≤ hour_of r) × (hour_of r ≤ x.root.hour + late))

-- the page of an hour h of these, for the adder of place k, has the entry of the readings before the root record's place
abbrev pub PagesKept : List Reading → Node → Type 0
PagesKept row x =
    (h k : ℕ) → (x.root.set ≢ no_set) → x.root.hour ≤ h → h ≤ x.root.hour + late →
    (pg : Page) × (x.pages x.root.set (crew * (h - x.root.hour) + k % crew) ≡ Some pg) × (pg.entries (k / crew) ≡ entry_of row x.root.pos h k)

abbrev pub RollKept : Gauges → World → ℕ → Type 0
RollKept gs w i =
    ((w.node i).gone ≤ (w.node i).root.pos)
    × ((w.node i).root.pos ≤ length (nth_row gs i))
    × ((p : ℕ) → p < (w.node i).root.pos → ToldOrKept w.told (w.node i) (slice_index_or (nth_row gs i) p no_reading))
    × PagesKept (nth_row gs i) (w.node i)

unfoldable pub ReleasedKept : Type 0
ReleasedKept =
    (gs : Gauges) (is : List Item) (k n i : ℕ) → gauges_late gs ≡ true → i < crew → RollKept gs (calm k n gs (all_happened gs new_world is)) i
