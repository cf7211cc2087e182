-- What drawers stand for by the one definition of `store`, `kept_of`, is what the machine that runs reads of them, and what it keeps in them. Each is a statement,
-- proved behind a function. Assumes nothing.
use Rattle.std.specs.Prelude.{◌≡◌, ℕ, suc, ◌+◌, ◌*◌, ◌<◌, ◌≤◌, true, List, [], length, replicate, Some, ◌≢◌, slice_index}
use Rattle.sums.specs.Cells.{pages, slots, places}
use Rattle.sums.specs.Sums.{Reading, Gauges, gauges_fine}
use Rattle.sums.specs.Tables.{zero_table, TablesOf}
use Rattle.store.specs.Drawers.{Drawers, drawers, with_drawer, root_drawer, cursor_drawer}
use Rattle.store.specs.Drawers as store
use Rattle.store.specs.Kept.{Kept, kept, kept_of, page_cut}
use Rattle.store.specs.Laws.{TablesFit, ReadBack, with_pages}
use Rattle.store.specs.Records.{shadow_of, RootFits, CursorFits, root_bytes, cursor_bytes, zero_root, zero_cursor}
use Rattle.store.specs.declared.records.Cursor.{Cursor}
use Rattle.store.specs.declared.records.PageSet.{PageSet}
use Rattle.store.specs.declared.records.PageSet.TheVariants as page_set
use Rattle.store.specs.declared.records.Root.{Root}
use Rattle.gauge.specs.Gauge.{set_named, sums_in, counts_in}
use Rattle.gauge.specs.Memory.{at, cells, limit, index_at, set_at}
use Rattle.machine.specs.Boot.{page_fits, root_recalled, page_recalled}
use Rattle.machine.specs.Entry.{own}
use Rattle.machine.specs.Run.{Machine, Item, machine_at, nth_row, set_nth, all_happened, calm, new_world}
use Rattle.protocol.specs.Entries.{Entry}
use Rattle.protocol.specs.Limits.{crew}
use Rattle.protocol.specs.Tables.{Page}
use Rattle.protocol_world.specs.Drawers.{page_drawer}
use Rattle.protocol_bridge.specs.Views.{Views}
use Rattle.whole.specs.Seen.{set_seen, as_root, as_cursor, page_of_rows, own_views}

-- the entry that tables have for a slot of a page
abbrev pub kept_entry : Kept → (page slot : ℕ) → Entry
kept_entry k p s = record { sum = slice_index k.sums (slots * p + s); count = slice_index k.counts (slots * p + s) }

-- What is read of drawers is this: the root record, the cursor, and the entries of each page that the root record names, if it is one. Where it names none, the
-- tables are zeros.
pub record ReadAs (v : Views) (ds : Drawers) (k : Kept) : Type 0 where
  pub root_read : v.root_of (nth_row ds root_drawer) ≡ as_root k.root
  pub cursor_read : v.cursor_of (nth_row ds cursor_drawer) ≡ as_cursor k.cursor
  pub page_read : (p : ℕ) (g : Page) → (k.root.set ≢ page_set.None) → p < pages → v.page_of (nth_row ds (page_drawer (set_seen k.root.set) p)) ≡ Some g →
      (s : ℕ) → s < slots → g.entries s ≡ kept_entry k p s
  pub no_pages : k.root.set ≡ page_set.None → (k.sums ≡ zero_table) × (k.counts ≡ zero_table)
  pub lengths : (length k.sums ≡ places) × (length k.counts ≡ places)

-- Of any drawers the machine reads what they stand for; and what the world keeps in a drawer is kept as `store` says.
unfoldable pub DrawersStand : Type 0
DrawersStand = ((ds : Drawers) → ReadAs own_views ds (kept_of ds)) × ((ds : Drawers) (d : ℕ) (bs : List ℕ) → set_nth ds d bs ≡ with_drawer ds d bs)

-- CHECKPOINTS, as the machine reads them: with some of the pages kept it reads what it read before; with the root record kept, that record, and from each page that
-- it names just the numbers that were kept
pub record CheckpointRead (ds : Drawers) (r : Root) (ss cs : List ℕ) : Type 0 where
  pub before : (n : ℕ) → n ≤ pages → ReadAs own_views (with_pages ds r.set ss cs n) (kept_of ds)
  pub committed : ReadAs own_views (set_nth (with_pages ds r.set ss cs pages) root_drawer (root_bytes r)) (kept r ss cs (kept_of ds).cursor)
  pub taken : (p : ℕ) → p < pages →
      own_views.page_of (nth_row (set_nth (with_pages ds r.set ss cs pages) root_drawer (root_bytes r)) (page_drawer (set_seen r.set) p)) ≡
      Some (page_of_rows (page_cut p ss) (page_cut p cs))

unfoldable pub CheckpointsStand : Type 0
CheckpointsStand =
    ((ds : Drawers) (s : PageSet) (p d : ℕ) (bs : List ℕ) → store.page_drawer s p ≡ Some d → (s ≢ (kept_of ds).root.set) →
    ReadAs own_views (set_nth ds d bs) (kept_of ds))
    × ((ds : Drawers) (r : Root) (ss cs : List ℕ) → length ds ≡ drawers → RootFits r → TablesFit ss cs → r.set ≡ shadow_of (kept_of ds).root.set →
    CheckpointRead ds r ss cs)
    × ((ds : Drawers) (c : Cursor) → length ds ≡ drawers → CursorFits c →
    ReadAs own_views (set_nth ds cursor_drawer (cursor_bytes c)) (kept (kept_of ds).root (kept_of ds).sums (kept_of ds).counts c))
    × ReadAs own_views (replicate drawers []) (kept zero_root zero_table zero_table zero_cursor)

-- BOOT: the pages of the root record's set are recalled one after the other into the tables in memory. So many stand there as they do in the tables that the
-- drawers stand for, and the next is asked for.
pub record TablesRead (ds : Drawers) (n : ℕ) (m : List ℕ) : Type 0 where
  pub long : length m ≡ cells
  pub named : set_named (at m set_at) ≡ (kept_of ds).root.set
  pub asked : n < pages → at m index_at ≡ n
  pub back : ReadBack ds n (sums_in m) (counts_in m)

-- the tables in memory are those that the drawers stand for
abbrev pub AllRead : Drawers → (memory : List ℕ) → Type 0
AllRead ds m = (sums_in m ≡ (kept_of ds).sums) × (counts_in m ≡ (kept_of ds).counts)

-- Once the root record has come, none of its pages stands there yet, or, where it names none, the tables are already those that the drawers stand for. One page
-- more stands there once it has come, if it is one; and once all have, the tables are those that the drawers stand for.
unfoldable pub BootStands : Type 0
BootStands =
    ((ds : Drawers) (m : List ℕ) → length m ≡ cells → (kept_of ds).root.hour < limit → (kept_of ds).root.pos < limit →
    (((kept_of ds).root.set ≢ page_set.None) → TablesRead ds 0 (root_recalled m (nth_row ds root_drawer)).memory)
    × ((kept_of ds).root.set ≡ page_set.None → AllRead ds (root_recalled m (nth_row ds root_drawer)).memory))
    × ((ds : Drawers) (n d : ℕ) (m : List ℕ) → TablesRead ds n m → store.page_drawer (kept_of ds).root.set n ≡ Some d → page_fits (nth_row ds d) ≡ true →
    TablesRead ds (suc n) (page_recalled m (nth_row ds d)).memory)
    × ((ds : Drawers) (m : List ℕ) → TablesRead ds pages m → AllRead ds m)

-- WHATEVER HAPPENS to eight machines, each has all its drawers; what is released of a row is before the root record's place; and where the root names pages, the
-- tables that the drawers stand for are those of the root's hour, of the readings before its place.
abbrev pub StandsForRow : List Reading → Machine → Kept → Type 0
StandsForRow row x k =
    (length x.slots ≡ drawers) × (x.gone ≤ k.root.pos) × (k.root.pos ≤ length row) × ((k.root.set ≢ page_set.None) → TablesOf row k.root.pos k.root.hour k.sums k.counts)

unfoldable pub KeptAddsUp : Type 0
KeptAddsUp =
    (gs : Gauges) (is : List Item) (k n i : ℕ) → gauges_fine gs ≡ true → i < crew →
    StandsForRow (nth_row gs i) (machine_at (calm k n own gs (all_happened own gs (new_world own) is)).machines i)
    (kept_of (machine_at (calm k n own gs (all_happened own gs (new_world own) is)).machines i).slots)
