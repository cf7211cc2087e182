-- What the drawers stand for, which is all that outlives a crash. Assumes nothing: these are definitions.
use Rattle.std.specs.Prelude.{ℕ, zero, suc, ◌*◌, List, [], ◌++◌, take, drop, replicate}
use Rattle.sums.specs.Cells.{pages, slots}
use Rattle.sums.specs.Pages.{sums_read, counts_read}
use Rattle.sums.specs.Tables.{zero_table}
use Rattle.store.specs.Drawers.{Drawers, drawer_at, root_drawer, cursor_drawer, first_set, second_set}
use Rattle.store.specs.Records.{root_of, cursor_of}
use Rattle.store.specs.declared.records.Cursor.{Cursor}
use Rattle.store.specs.declared.records.PageSet.{PageSet}
use Rattle.store.specs.declared.records.PageSet.TheVariants.{First, Second}
use Rattle.store.specs.declared.records.PageSet.TheVariants as page_set
use Rattle.store.specs.declared.records.Root.{Root}

-- the tables have a number for each cell
pub record Kept : Type 0 where
  pub root : Root
  pub sums : List ℕ
  pub counts : List ℕ
  pub cursor : Cursor

abbrev pub kept : Root → (sums counts : List ℕ) → Cursor → Kept
kept r ss cs c = record { root = r; sums = ss; counts = cs; cursor = c }

-- the columns of a page that a drawer stands for: what is read of it over zeros
unfoldable pub sums_in : List ℕ → List ℕ
sums_in bs = sums_read bs (replicate slots 0) (replicate slots 0)

unfoldable pub counts_in : List ℕ → List ℕ
counts_in bs = counts_read bs (replicate slots 0) (replicate slots 0)

-- what is read of so many drawers, from the first of them on
unfoldable pub rows_from : (read : List ℕ → List ℕ) → Drawers → (first count : ℕ) → List ℕ
rows_from read ds d zero = []
rows_from read ds d (suc n) = read (drawer_at ds d) ++ rows_from read ds (suc d) n

-- the table of a set, from its pages
unfoldable pub table_in : (read : List ℕ → List ℕ) → Drawers → PageSet → List ℕ
table_in read ds page_set.None = zero_table
table_in read ds First = rows_from read ds first_set pages
table_in read ds Second = rows_from read ds second_set pages

abbrev pub root_in_drawer : Drawers → Root
root_in_drawer ds = root_of (drawer_at ds root_drawer)

-- the root, the tables in the pages that it names, and the cursor
unfoldable pub kept_of : Drawers → Kept
kept_of ds =
    kept (root_in_drawer ds) (table_in sums_in ds (root_in_drawer ds).set) (table_in counts_in ds (root_in_drawer ds).set)
    (cursor_of (drawer_at ds cursor_drawer))

-- the part of a table that a page has
abbrev pub page_cut : (page : ℕ) (table : List ℕ) → List ℕ
page_cut p xs = take slots (drop (slots * p) xs)
