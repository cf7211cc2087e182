-- Boot: a machine that wakes recalls from its drawers the root record, the pages that it names, and the cursor. Assumes nothing: these are definitions.
use Rattle.std.specs.Prelude.{ℕ, zero, ◌+◌, ◌*◌, Bool, cond, not, ◌&&◌, List, length, replicate, Some, None, Option, ◌==◌, nat_lt, slice_set}
use Rattle.sums.specs.Cells.{pages, slots}
use Rattle.sums.specs.Pages.{page_sums, page_counts, page_length, numbers_fit}
use Rattle.sums.specs.Sums.{any}
use Rattle.sums.specs.Written.{written}
use Rattle.store.specs.Records.{root_of, cursor_of, set_number}
use Rattle.store.specs.Drawers.{root_drawer, cursor_drawer, page_drawer}
use Rattle.store.specs.declared.records.Root.{Root}
use Rattle.store.specs.declared.records.Cursor.{Cursor}
use Rattle.store.specs.declared.records.PageSet.{PageSet}
use Rattle.protocol.specs.Limits.{crew}
use Rattle.gauge.specs.Memory.{at, limit, begun, asks_root, asks_page, asks_cursor, placed, phase_at, index_at, me_at, stage_at, hour_at, pos_at, set_at, paused_at, kept_at, filled_at, woke_at, sums_at, counts_at}
use Rattle.gauge.specs.Deeds.{from, recall, rests, Done, does}
use Rattle.gauge.specs.Gauge.{set_named, counts_in, tables_cleared, due_to_all, row_placed}
use Rattle.exchange.specs.Adder.{with_cursor}

-- memory as at the start; the root record is asked for
abbrev pub woken : List ℕ → (i : ℕ) → Done
woken m i = cond (nat_lt i crew) (does (slice_set (slice_set (replicate (length m) 0) me_at i) phase_at asks_root) (recall root_drawer)) (does m rests)

-- the reader at the root record, with no tables yet
abbrev pub root_read : List ℕ → Root → List ℕ
root_read m r =
    slice_set (slice_set (slice_set (slice_set (slice_set (slice_set (tables_cleared m) stage_at begun) hour_at r.hour) pos_at r.pos) set_at (set_number r.set)) paused_at 0) kept_at r.pos

abbrev pub page_asked_in : List ℕ → (page : ℕ) → (drawer : Option ℕ) → Done
page_asked_in m p (Some d) = does (slice_set (slice_set m phase_at asks_page) index_at p) (recall d)
page_asked_in m p None = does (slice_set m phase_at asks_cursor) (recall cursor_drawer)

-- a page of the root record's set is asked for, or, behind the last, the cursor
abbrev pub page_asked : List ℕ → PageSet → (page : ℕ) → Done
page_asked m s p = page_asked_in m p (page_drawer s p)

abbrev pub root_recalled : List ℕ → List ℕ → Done
root_recalled m bs =
    cond (nat_lt (root_of bs).hour limit && nat_lt (root_of bs).pos limit) (page_asked (root_read m (root_of bs)) (root_of bs).set 0) (does m rests)

-- a page goes into its part of the tables
abbrev pub page_read : List ℕ → (page : ℕ) → List ℕ → List ℕ
page_read m p bs = written (written m (sums_at + slots * p) (page_sums bs)) (counts_at + slots * p) (page_counts bs)

-- a page that the root record names has its length; what has another is none
abbrev pub page_fits : List ℕ → Bool
page_fits bs = length bs == page_length && numbers_fit bs

abbrev pub page_recalled : List ℕ → List ℕ → Done
page_recalled m bs =
    cond (nat_lt (at m index_at) pages && page_fits bs) (page_asked (page_read m (at m index_at) bs) (set_named (at m set_at)) (at m index_at + 1)) (does m rests)

-- each machine but this one is to be told that this one woke
abbrev pub woke_to_all : List ℕ → List ℕ
woke_to_all m = slice_set (written m woke_at (replicate crew 1)) (woke_at + at m me_at) 0

-- whether the tables have a reading is found out once they are whole
abbrev pub has_reading : List ℕ → Bool
has_reading cs = any (λ c. not (c == 0)) cs

abbrev pub with_filled : List ℕ → List ℕ
with_filled m = slice_set m filled_at (cond (has_reading (counts_in m)) 1 0)

-- all is recalled: each other machine is told that this one woke, and the row is read from pos on
abbrev pub booted : List ℕ → Cursor → Done
booted m c = row_placed (woke_to_all (due_to_all (with_cursor (with_filled m) c.hour c.cell)))

abbrev pub cursor_recalled : List ℕ → List ℕ → Done
cursor_recalled m bs = cond (nat_lt (cursor_of bs).hour limit && nat_lt (cursor_of bs).cell limit) (booted m (cursor_of bs)) (does m rests)

-- what a drawer holds, by the phase
abbrev pub recalled : List ℕ → List ℕ → Done
recalled m bs =
    cond (at m phase_at == asks_root) (root_recalled m bs)
    (cond (at m phase_at == asks_page) (page_recalled m bs)
    (cond (at m phase_at == asks_cursor) (cursor_recalled m bs) (does m rests)))
