-- What a checkpoint and a boot rest on. Each is a statement, proved behind a function. Assumes nothing.
use Rattle.std.specs.Prelude.{◌≡◌, ℕ, zero, suc, ◌*◌, ◌^◌, ◌<◌, ◌≤◌, List, [], length, take, replicate, Some, None, Option, ◌≢◌, slice_index}
use Rattle.sums.specs.Cells.{places, pages, slots}
use Rattle.sums.specs.Pages.{sum_width, count_width, page_length, page_bytes, page_sums, page_counts}
use Rattle.sums.specs.Tables.{zero_table}
use Rattle.sums.specs.Written.{written}
use Rattle.store.specs.Drawers.{Drawers, drawers, drawer_at, with_drawer, root_drawer, cursor_drawer, page_drawer}
use Rattle.store.specs.Kept.{kept, kept_of, sums_in, counts_in, page_cut}
use Rattle.store.specs.Records.{shadow_of, RootFits, CursorFits, zero_root, root_bytes, root_of, zero_cursor, cursor_bytes, cursor_of}
use Rattle.store.specs.declared.records.Cursor.{Cursor}
use Rattle.store.specs.declared.records.PageSet.{PageSet}
use Rattle.store.specs.declared.records.PageSet.TheVariants as page_set
use Rattle.store.specs.declared.records.Root.{Root}

-- tables whose numbers pages hold
pub record TablesFit (ss cs : List ℕ) : Type 0 where
  pub sums_length : length ss ≡ places
  pub counts_length : length cs ≡ places
  pub sums : (c : ℕ) → c < places → slice_index ss c < 256 ^ sum_width
  pub counts : (c : ℕ) → c < places → slice_index cs c < 256 ^ count_width

-- A checkpoint writes a set that has pages, and that is not the one at hand. To keep a page of a set that the root does not name, whatever its bytes,
-- changes nothing that the drawers stand for.
unfoldable pub ShadowLaw : Type 0
ShadowLaw =
    ((s : PageSet) → (shadow_of s ≢ page_set.None) × (shadow_of s ≢ s))
    × ((ds : Drawers) (s : PageSet) (p d : ℕ) (bs : List ℕ) → page_drawer s p ≡ Some d → (s ≢ (kept_of ds).root.set) →
    kept_of (with_drawer ds d bs) ≡ kept_of ds)

-- the bytes of a page of two tables
abbrev pub cut_bytes : (page : ℕ) (sums counts : List ℕ) → List ℕ
cut_bytes p ss cs = page_bytes (page_cut p ss) (page_cut p cs)

-- the first n pages of two tables are kept in the drawers of a set
abbrev pub PagesKept : Drawers → PageSet → (sums counts : List ℕ) → (n : ℕ) → Type 0
PagesKept ds s ss cs n = (p d : ℕ) → p < n → page_drawer s p ≡ Some d → drawer_at ds d ≡ cut_bytes p ss cs

-- Page after page of a set is kept. Once all are, to keep the root that names the set is the commit: then the drawers stand for that root and those tables,
-- and for the cursor as before.
unfoldable pub CommitLaw : Type 0
CommitLaw =
    ((ds : Drawers) (s : PageSet) (ss cs : List ℕ) → PagesKept ds s ss cs 0)
    × ((ds : Drawers) (s : PageSet) (ss cs : List ℕ) (n d : ℕ) → length ds ≡ drawers → PagesKept ds s ss cs n → page_drawer s n ≡ Some d →
    PagesKept (with_drawer ds d (cut_bytes n ss cs)) s ss cs (suc n))
    × ((ds : Drawers) (r : Root) (ss cs : List ℕ) → length ds ≡ drawers → RootFits r → TablesFit ss cs → (r.set ≢ page_set.None) →
    PagesKept ds r.set ss cs pages → kept_of (with_drawer ds root_drawer (root_bytes r)) ≡ kept r ss cs (kept_of ds).cursor)

-- the drawers once a page is kept in its drawer, if there is one
abbrev pub with_page : Drawers → Option ℕ → List ℕ → Drawers
with_page ds None bs = ds
with_page ds (Some d) bs = with_drawer ds d bs

-- the drawers once the first n pages of two tables are kept in those of a set
unfoldable pub with_pages : Drawers → PageSet → (sums counts : List ℕ) → (n : ℕ) → Drawers
with_pages ds s ss cs zero = ds
with_pages ds s ss cs (suc n) = with_page (with_pages ds s ss cs n) (page_drawer s n) (cut_bytes n ss cs)

-- A checkpoint is whole or has not been: a crash after any of its pages finds all as before, and one after its root finds the new root and tables.
unfoldable pub AtomicLaw : Type 0
AtomicLaw =
    (ds : Drawers) (r : Root) (ss cs : List ℕ) → length ds ≡ drawers → RootFits r → TablesFit ss cs → r.set ≡ shadow_of (kept_of ds).root.set →
    ((n : ℕ) → n ≤ pages → kept_of (with_pages ds r.set ss cs n) ≡ kept_of ds)
    × (kept_of (with_drawer (with_pages ds r.set ss cs pages) root_drawer (root_bytes r)) ≡ kept r ss cs (kept_of ds).cursor)

-- To keep the cursor changes the cursor alone.
unfoldable pub CursorLaw : Type 0
CursorLaw =
    (ds : Drawers) (c : Cursor) → length ds ≡ drawers → CursorFits c →
    kept_of (with_drawer ds cursor_drawer (cursor_bytes c)) ≡ kept (kept_of ds).root (kept_of ds).sums (kept_of ds).counts c

-- To keep a root that names no pages leaves the cursor, and no sums.
unfoldable pub BlankLaw : Type 0
BlankLaw =
    (ds : Drawers) (r : Root) → length ds ≡ drawers → RootFits r → r.set ≡ page_set.None →
    kept_of (with_drawer ds root_drawer (root_bytes r)) ≡ kept r zero_table zero_table (kept_of ds).cursor

-- Empty drawers stand for the zero records, and no sums.
unfoldable pub EmptyLaw : Type 0
EmptyLaw = kept_of (replicate drawers []) ≡ kept zero_root zero_table zero_table zero_cursor

pub record CheckpointLaws : Type 0 where
  pub shadow : ShadowLaw
  pub commit : CommitLaw
  pub atomic : AtomicLaw
  pub cursor : CursorLaw
  pub blank : BlankLaw
  pub empty : EmptyLaw

-- tables in memory that a boot has read the first n pages into
pub record ReadBack (ds : Drawers) (n : ℕ) (ss cs : List ℕ) : Type 0 where
  pub sums_length : length ss ≡ places
  pub counts_length : length cs ≡ places
  pub sums : take (slots * n) ss ≡ take (slots * n) (kept_of ds).sums
  pub counts : take (slots * n) cs ≡ take (slots * n) (kept_of ds).counts

-- A boot reads the root, the pages that it names, one by one, and the cursor. These are the parts of what the drawers stand for, and page after page the
-- tables become those of the root.
pub record BootLaw : Type 0 where
  pub root : (ds : Drawers) → (kept_of ds).root ≡ root_of (drawer_at ds root_drawer)
  pub cursor : (ds : Drawers) → (kept_of ds).cursor ≡ cursor_of (drawer_at ds cursor_drawer)
  pub blank : (ds : Drawers) → (kept_of ds).root.set ≡ page_set.None → ((kept_of ds).sums ≡ zero_table) × ((kept_of ds).counts ≡ zero_table)
  pub lengths : (ds : Drawers) → (length (kept_of ds).sums ≡ places) × (length (kept_of ds).counts ≡ places)
  pub cuts : (ds : Drawers) (p d : ℕ) → page_drawer (kept_of ds).root.set p ≡ Some d →
      (page_cut p (kept_of ds).sums ≡ sums_in (drawer_at ds d)) × (page_cut p (kept_of ds).counts ≡ counts_in (drawer_at ds d))
  pub pages_only : (bs : List ℕ) → length bs ≡ page_length → (sums_in bs ≡ page_sums bs) × (counts_in bs ≡ page_counts bs)
  pub begun : (ds : Drawers) (ss cs : List ℕ) → length ss ≡ places → length cs ≡ places → ReadBack ds 0 ss cs
  pub one_more : (ds : Drawers) (p d : ℕ) (ss cs : List ℕ) → page_drawer (kept_of ds).root.set p ≡ Some d → ReadBack ds p ss cs →
      ReadBack ds (suc p) (written ss (slots * p) (sums_in (drawer_at ds d))) (written cs (slots * p) (counts_in (drawer_at ds d)))
  pub done : (ds : Drawers) (ss cs : List ℕ) → ReadBack ds pages ss cs → (ss ≡ (kept_of ds).sums) × (cs ≡ (kept_of ds).counts)
