-- Drawers, each with its bytes, and which holds what. Assumes nothing: these are definitions.
use Rattle.std.specs.Prelude.{◌≡◌, ℕ, ◌+◌, ◌<◌, cond, List, [], Some, None, Option, ◌≢◌, nat_lt, slice_index_or, slice_set}
use Rattle.sums.specs.Cells.{pages}
use Rattle.store.specs.declared.records.PageSet.{PageSet}
use Rattle.store.specs.declared.records.PageSet.TheVariants.{First, Second}
use Rattle.store.specs.declared.records.PageSet.TheVariants as page_set

abbrev pub Drawers : Type 0
Drawers = List (List ℕ)

-- how many a machine has
abbrev pub drawers : ℕ
drawers = 256

-- what is in a drawer
abbrev pub drawer_at : Drawers → ℕ → List ℕ
drawer_at ds d = slice_index_or ds d []

-- the drawers once bytes are kept in one
abbrev pub with_drawer : Drawers → ℕ → List ℕ → Drawers
with_drawer ds d bs = slice_set ds d bs

abbrev pub root_drawer : ℕ
root_drawer = 0

abbrev pub cursor_drawer : ℕ
cursor_drawer = 2

-- these stay free, for a second root and a second cursor
abbrev pub root_copy : ℕ
root_copy = 1

abbrev pub cursor_copy : ℕ
cursor_copy = 3

-- the pages of a set lie in drawers side by side, from these on
abbrev pub first_set : ℕ
first_set = 8

abbrev pub second_set : ℕ
second_set = 16

-- the drawer of a page of a set, if there are such a set and page
abbrev pub page_drawer : PageSet → (page : ℕ) → Option ℕ
page_drawer page_set.None p = None
page_drawer First p = cond (nat_lt p pages) (Some (first_set + p)) None
page_drawer Second p = cond (nat_lt p pages) (Some (second_set + p)) None

-- The root, its copy, the cursor and its copy have different drawers, and behind these each page of either set has one of its own.
unfoldable pub DrawersLaw : Type 0
DrawersLaw =
    (root_drawer < root_copy)
    × (root_copy < cursor_drawer)
    × (cursor_drawer < cursor_copy)
    × ((s : PageSet) (p : ℕ) → (s ≢ page_set.None) → p < pages → (d : ℕ) × (page_drawer s p ≡ Some d))
    × ((s : PageSet) (p d : ℕ) → page_drawer s p ≡ Some d → (cursor_copy < d) × (d < drawers))
    × ((s t : PageSet) (p q d : ℕ) → page_drawer s p ≡ Some d → page_drawer t q ≡ Some d → (s ≡ t) × (p ≡ q))
