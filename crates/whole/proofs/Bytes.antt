-- What is kept in drawers, and which drawer: a root record, a cursor or a page is seen as it was written, and the drawers are those of the protocol.
use Rattle.std.proofs.Common.{◌≡◌, ℕ, ◌+◌, ◌*◌, ◌<◌, ◌≤◌, Bool, true, false, cond, eqb, ltb, leb, List, [], length, get_or, drop, Some, None, Option, refl, sym, ap, ap₂, ◌∙◌, subst, arith, length-drop}
use Rattle.std.proofs.lemmas.Bool.{and_from, eq-eqb, lt-ltb, le-ltb, both_ways}
use Rattle.std.proofs.lemmas.List.{get_or-take, get_or-drop, length-take-le}
use Rattle.sums.specs.Cells.{slots, pages}
use Rattle.sums.specs.Digits.{fits}
use Rattle.sums.specs.Pages.{sum_width, count_width, page_bytes, page_sums, page_counts, page_length}
use Rattle.sums.specs.Sums.{every, or}
use Rattle.sums.proofs.Columns.{length_page, page_all_bytes, sums_back, counts_back}
use Rattle.sums.proofs.Everys.{every_places}
use Rattle.store.specs.Records.{root_of, cursor_of, root_bytes, root_bytes_long, cursor_bytes, cursor_bytes_long, RootFits, CursorFits, set_number, shadow_of}
use Rattle.store.specs.Drawers as store
use Rattle.store.specs.declared.records.Cursor.{Cursor}
use Rattle.store.specs.declared.records.PageSet.{PageSet}
use Rattle.store.specs.declared.records.PageSet.TheVariants.{First, Second}
use Rattle.store.specs.declared.records.PageSet.TheVariants as page_set
use Rattle.store.specs.declared.records.Root.{Root}
use Rattle.store.proofs.RoundTrips.{root_back, root_all_bytes, cursor_back, cursor_all_bytes}
use Rattle.protocol.specs.Memory.{no_cursor}
use Rattle.protocol.specs.Reader.{other_set, blank_root}
use Rattle.protocol.specs.Tables.{Page}
use Rattle.protocol_world.specs.Drawers.{page_drawer}
use Rattle.protocol_world.specs.Sizes.{PageSized}
use Rattle.protocol_bridge.specs.Same.{SamePage}
use Rattle.protocol_bridge.specs.Views.{PageSeen}
use Rattle.machine.specs.Boot.{page_fits}
use Rattle.machine.specs.Run.{bytes}
use Rattle.gauge.specs.Memory.{at, cells, sums_at, counts_at, row_in, page_sums_in, page_counts_in}
use Rattle.gauge.specs.Views.{set_of, table_in}
use Rattle.gauge.specs.Gauge.{set_named}
use Rattle.whole.specs.Seen.{names_set, page_of_rows, page_seen, set_seen, as_root, root_seen, as_cursor, cursor_seen, own_views}

-- RECORDS
pub root_kept : (r : Root) → RootFits r → root_seen (root_bytes r) ≡ as_root r
root_kept r small = ap as_root (root_back r small)

pub cursor_kept : (c : Cursor) → CursorFits c → cursor_seen (cursor_bytes c) ≡ as_cursor c
cursor_kept c small = ap as_cursor (cursor_back c small)

-- a drawer that has never been kept
pub root_of_none : root_seen [] ≡ blank_root 0
unfolding root_of
root_of_none = refl

pub cursor_of_none : cursor_seen [] ≡ no_cursor
unfolding cursor_of
cursor_of_none = refl

-- they are bytes, and few
few_bytes : (bs : List ℕ) (n : ℕ) → length bs ≡ n → leb n 4096 ≡ true → every (λ b. ltb b 256) bs ≡ true → bytes bs ≡ true
few_bytes bs n e few all = and_from _ _ (ap (λ k. leb k 4096) e ∙ few) all

pub root_fits_bytes : (r : Root) → bytes (root_bytes r) ≡ true
root_fits_bytes r = few_bytes (root_bytes r) 24 (root_bytes_long r) refl (root_all_bytes r)

pub cursor_fits_bytes : (c : Cursor) → bytes (cursor_bytes c) ≡ true
cursor_fits_bytes c = few_bytes (cursor_bytes c) 16 (cursor_bytes_long c) refl (cursor_all_bytes c)

-- SETS, by their numbers
pub set_by_number : (n : ℕ) → set_seen (set_named n) ≡ set_of n
set_by_number n = on (eqb n 1) (eqb n 2)
  where
    on : (a b : Bool) → set_seen (cond a First (cond b Second page_set.None)) ≡ cond a (set_seen First) (cond b (set_seen Second) (set_seen page_set.None))
    on true b = refl
    on false true = refl
    on false false = refl

pub number_of_set : (s : PageSet) → set_of (set_number s) ≡ set_seen s
number_of_set page_set.None = refl
number_of_set First = refl
number_of_set Second = refl

pub shadow_seen : (s : PageSet) → set_seen (shadow_of s) ≡ other_set (set_seen s)
shadow_seen page_set.None = refl
shadow_seen First = refl
shadow_seen Second = refl

-- THE DRAWER of a page of a set that has pages
first_drawer : (p : ℕ) → p < pages → store.page_drawer First p ≡ Some (8 + p)
first_drawer p lt = ap (λ b. cond b (Some (8 + p)) None) (lt-ltb p pages lt)

second_drawer : (p : ℕ) → p < pages → store.page_drawer Second p ≡ Some (16 + p)
second_drawer p lt = ap (λ b. cond b (Some (16 + p)) None) (lt-ltb p pages lt)

-- behind the last page there is none
pub no_drawer : (s : PageSet) (p : ℕ) → pages ≤ p → store.page_drawer s p ≡ None
no_drawer page_set.None p le = refl
no_drawer First p le = ap (λ b. cond b (Some (8 + p)) None) (le-ltb p pages le)
no_drawer Second p le = ap (λ b. cond b (Some (16 + p)) None) (le-ltb p pages le)

-- of the set with this number
pub drawer_by_number : (n p : ℕ) → names_set n ≡ true → p < pages → store.page_drawer (set_named n) p ≡ Some (page_drawer (set_of n) p)
drawer_by_number n p some lt = on (eqb n 1) (eqb n 2) some
  where
    on : (a b : Bool) → or a b ≡ true →
        store.page_drawer (cond a First (cond b Second page_set.None)) p ≡
        Some (page_drawer (cond a (set_seen First) (cond b (set_seen Second) (set_seen page_set.None))) p)
    on true b h = first_drawer p lt
    on false true h = second_drawer p lt
    on false false h = absurd (both_ways _ refl h)

-- of the set that the next checkpoint writes
pub drawer_of_shadow : (s : PageSet) (p : ℕ) → p < pages → store.page_drawer (shadow_of s) p ≡ Some (page_drawer (other_set (set_seen s)) p)
drawer_of_shadow page_set.None p lt = first_drawer p lt
drawer_of_shadow First p lt = second_drawer p lt
drawer_of_shadow Second p lt = first_drawer p lt

-- PAGES
-- two rows whose numbers have room in a page, and stand for its entries
module _ (ss cs : List ℕ) (p : Page) (ls : length ss ≡ slots) (lc : length cs ≡ slots) (same : SamePage p (page_of_rows ss cs)) (sized : PageSized p) where
  pub fit_sums : every (fits sum_width) ss ≡ true
  fit_sums = every_places (fits sum_width) ss 0 (λ i lt.
      let here : i < slots = omega (arith, lt, ls) in lt-ltb _ _ (subst (λ e. e.sum < 18446744073709551616) (same.entries i here) (sized.entries i here).0))

  pub fit_counts : every (fits count_width) cs ≡ true
  fit_counts = every_places (fits count_width) cs 0 (λ i lt.
      let here : i < slots = omega (arith, lt, lc) in lt-ltb _ _ (subst (λ e. e.count < 4294967296) (same.entries i here) (sized.entries i here).1))

  fits_page : page_fits (page_bytes ss cs) ≡ true
  fits_page =
      and_from _ _ (eq-eqb _ _ (length_page ss cs ls lc))
      (and_from _ _ (ap (every (fits sum_width)) (sums_back ss cs ls fit_sums) ∙ fit_sums)
      (ap (every (fits count_width)) (counts_back ss cs ls lc fit_counts) ∙ fit_counts))

  pub page_as_written : page_seen (page_bytes ss cs) ≡ Some (page_of_rows ss cs)
  page_as_written =
      ap (λ b. cond b (Some (page_of_rows (page_sums (page_bytes ss cs)) (page_counts (page_bytes ss cs)))) None) fits_page
      ∙ ap₂ (λ a b. Some (page_of_rows a b)) (sums_back ss cs ls fit_sums) (counts_back ss cs ls lc fit_counts)

  pub page_is_seen : PageSeen own_views (page_bytes ss cs) p
  page_is_seen = (page_of_rows ss cs, page_as_written, same)

pub page_fits_bytes : (ss cs : List ℕ) → length ss ≡ slots → length cs ≡ slots → bytes (page_bytes ss cs) ≡ true
page_fits_bytes ss cs ls lc = few_bytes (page_bytes ss cs) page_length (length_page ss cs ls lc) refl (page_all_bytes ss cs)

-- a row of the memory, by its numbers
pub at_row : (m : List ℕ) (a n i : ℕ) → i < n → get_or (row_in m a n) i 0 ≡ at m (a + i)
unfolding row_in
at_row m a n i lt = get_or-take n (drop a m) i 0 lt ∙ get_or-drop a m i 0

pub length_row : (m : List ℕ) (a n : ℕ) → a + n ≤ length m → length (row_in m a n) ≡ n
unfolding row_in
length_row m a n le = length-take-le n (drop a m) (simp length-drop (omega arith))

-- a page of the tables, as it is kept
module _ (m : List ℕ) (len : length m ≡ cells) (q : ℕ) (lt : q < pages) where
  pub table_page : SamePage ((table_in m).page q) (page_of_rows (page_sums_in m q) (page_counts_in m q))
  table_page = record {
    entries = λ s ls.
        ap₂ (λ x y. record { sum = x; count = y }) (sym (at_row m (sums_at + slots * q) slots s ls))
        (sym (at_row m (counts_at + slots * q) slots s ls));
  }

  pub long_sums : length (page_sums_in m q) ≡ slots
  long_sums = length_row m (sums_at + slots * q) slots (omega (arith, len, lt))

  pub long_counts : length (page_counts_in m q) ≡ slots
  long_counts = length_row m (counts_at + slots * q) slots (omega (arith, len, lt))

  pub table_page_seen : PageSized ((table_in m).page q) → PageSeen own_views (page_bytes (page_sums_in m q) (page_counts_in m q)) ((table_in m).page q)
  table_page_seen sized = page_is_seen (page_sums_in m q) (page_counts_in m q) ((table_in m).page q) long_sums long_counts table_page sized

  pub table_page_bytes : bytes (page_bytes (page_sums_in m q) (page_counts_in m q)) ≡ true
  table_page_bytes = page_fits_bytes (page_sums_in m q) (page_counts_in m q) long_sums long_counts

-- bytes that are seen as a page have its length, and their columns are its entries
pub seen_page : (bs : List ℕ) (p : Page) → page_seen bs ≡ Some p → (page_fits bs ≡ true) × (page_of_rows (page_sums bs) (page_counts bs) ≡ p)
seen_page bs p e = on (page_fits bs) (page_of_rows (page_sums bs) (page_counts bs)) e
  where
    page_or : (else : Page) → Option Page → Page
    page_or x (Some y) = y
    page_or x None = x

    there : Option Page → Bool
    there (Some y) = true
    there None = false

    on : (b : Bool) (x : Page) → cond b (Some x) None ≡ Some p → (b ≡ true) × (x ≡ p)
    on true x h = (refl, ap (page_or x) h)
    on false x h = absurd (both_ways _ refl (ap there h))
