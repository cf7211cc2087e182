-- Tables that are read from drawers, page by page: their lengths, their cuts, and what they depend on.
use Rattle.std.proofs.Common.{◌≡◌, ℕ, zero, suc, ◌+◌, ◌-◌, ◌*◌, ◌<◌, ◌≤◌, List, ◌++◌, length, take, drop, Some, sym, refl, ap, ◌∙◌, append_assoc, arith, length-append, length-drop, take-add}
use lib.ListN.{length-replicate}
use Rattle.std.proofs.lemmas.List.{take_at, drop_at, drop-drop, nil_from_length, take-append-drop, length-take-le}
use Rattle.std.proofs.lemmas.Grind.{common_steps}
use Rattle.sums.specs.Cells.{pages, slots, places}
use Rattle.sums.specs.Tables.{zero_table}
use Rattle.sums.specs.Written.{written}
use Rattle.sums.proofs.Overwrites.{length_written}
use Rattle.store.specs.Drawers.{Drawers, drawer_at, page_drawer, first_set, second_set}
use Rattle.store.specs.Kept.{rows_from, table_in, page_cut}
use Rattle.store.specs.declared.records.PageSet.{PageSet}
use Rattle.store.specs.declared.records.PageSet.TheVariants.{First, Second}
use Rattle.store.specs.declared.records.PageSet.TheVariants as page_set
use Rattle.store.proofs.Numbered.{lies_at, there}

-- the cut of the next page is that of the page, behind the first page
cut_behind : (p : ℕ) (xs : List ℕ) → page_cut (suc p) xs ≡ page_cut p (drop slots xs)
cut_behind p xs = grind (arith, drop-drop (slots * p) slots xs)

-- a table with one page more of another
module _ (p : ℕ) (xs ys zs : List ℕ) (len : length xs ≡ places) (lt : p < pages) (page : length ys ≡ slots) where
  pub length_next : length (written xs (slots * p) ys) ≡ places
  length_next = grind (arith, length_written {A = ℕ})

  pub table_next : page_cut p zs ≡ ys → take (slots * p) xs ≡ take (slots * p) zs →
      take (slots * suc p) (written xs (slots * p) ys) ≡ take (slots * suc p) zs
  table_next cut front =
      let at = slots * p in
      let n : length (take at xs ++ ys) ≡ slots * suc p = grind (arith, length-append {A = ℕ}, length-take-le at xs (omega arith)) in
      grind (arith, append_assoc (take at xs) ys (drop (at + length ys) xs), take_at (take at xs ++ ys) (drop (at + length ys) xs) (slots * suc p) n, take-add at slots zs)

module _ (read : List ℕ → List ℕ) where
  -- drawers with the same bytes
  rows_same : (ds es : Drawers) (d n : ℕ) → ((e : ℕ) → d ≤ e → e < d + n → drawer_at ds e ≡ drawer_at es e) → rows_from read ds d n ≡ rows_from read es d n
  unfolding rows_from
  rows_same ds es d zero same = refl
  rows_same ds es d (suc n) same =
      grind (arith, same d (omega arith) (omega arith), rows_same ds es (suc d) n (λ e le lt. same e (omega arith) (omega arith)))

  -- a row whose cuts they are
  rows_are : (ds : Drawers) (d n : ℕ) (xs : List ℕ) → length xs ≡ slots * n → ((p : ℕ) → p < n → read (drawer_at ds (d + p)) ≡ page_cut p xs) →
      rows_from read ds d n ≡ xs
  unfolding rows_from
  rows_are ds d zero xs len cuts = sym (nil_from_length xs (omega arith))
  rows_are ds d (suc n) xs len cuts =
      let behind : (p : ℕ) → p < n → read (drawer_at ds (suc d + p)) ≡ page_cut p (drop slots xs) =
      λ p lt. grind (arith, cuts (suc p) (omega arith), cut_behind p xs) in
      grind (arith, cuts 0 (omega arith), take-append-drop slots xs, rows_are ds (suc d) n (drop slots xs) (length-drop slots xs ∙ omega arith) behind)

  module _ (whole : (bs : List ℕ) → length (read bs) ≡ slots) where
    length_rows : (ds : Drawers) (d n : ℕ) → length (rows_from read ds d n) ≡ slots * n
    unfolding rows_from
    length_rows ds d zero = refl
    length_rows ds d (suc n) = grind (arith, common_steps, whole, length_rows ds (suc d) n)

    rows_cut : (ds : Drawers) (d n p : ℕ) → p < n → page_cut p (rows_from read ds d n) ≡ read (drawer_at ds (d + p))
    unfolding rows_from
    rows_cut ds d zero p lt = absurd (omega arith)
    rows_cut ds d (suc n) zero lt = grind (arith, take_at (read (drawer_at ds d)) (rows_from read ds (suc d) n) slots (whole (drawer_at ds d)))
    rows_cut ds d (suc n) (suc p) lt = grind (arith, cut_behind, drop_at (read (drawer_at ds d)) (rows_from read ds (suc d) n) slots (whole (drawer_at ds d)), rows_cut ds (suc d) n p (omega arith))

-- the drawers of a set whose pages lie from one on
behind_first : (from e : ℕ) → from ≤ e → e < from + pages → (p : ℕ) × (p < pages) × (from + p ≡ e)
behind_first from e le lt = (e - from, omega arith, omega arith)

module _ (read : List ℕ → List ℕ) where
  -- drawers with the same bytes for the pages of a set
  pub table_same : (ds es : Drawers) (s : PageSet) → ((p d : ℕ) → page_drawer s p ≡ Some d → drawer_at ds d ≡ drawer_at es d) →
      table_in read ds s ≡ table_in read es s
  unfolding table_in
  table_same ds es page_set.None same = refl
  table_same ds es First same =
      rows_same read ds es first_set pages
      (λ e le lt. let b = behind_first first_set e le lt in same b.0 e (there first_set b.0 e b.1 b.2))
  table_same ds es Second same =
      rows_same read ds es second_set pages
      (λ e le lt. let b = behind_first second_set e le lt in same b.0 e (there second_set b.0 e b.1 b.2))

  -- a table whose cuts the pages are
  pub table_is : (ds : Drawers) (s : PageSet) (xs : List ℕ) → (s ≡ page_set.None → ⊥) → length xs ≡ places →
      ((p d : ℕ) → page_drawer s p ≡ Some d → read (drawer_at ds d) ≡ page_cut p xs) → table_in read ds s ≡ xs
  unfolding table_in
  table_is ds page_set.None xs some len cuts = absurd (some refl)
  table_is ds First xs some len cuts =
      rows_are read ds first_set pages xs len (λ p lt. cuts p (first_set + p) (there first_set p (first_set + p) lt refl))
  table_is ds Second xs some len cuts =
      rows_are read ds second_set pages xs len (λ p lt. cuts p (second_set + p) (there second_set p (second_set + p) lt refl))

  module _ (whole : (bs : List ℕ) → length (read bs) ≡ slots) where
    pub length_table : (ds : Drawers) (s : PageSet) → length (table_in read ds s) ≡ places
    unfolding table_in zero_table
    length_table ds page_set.None = length-replicate {A = ℕ} places 0
    length_table ds First = length_rows read whole ds first_set pages
    length_table ds Second = length_rows read whole ds second_set pages

    pub table_cut : (ds : Drawers) (s : PageSet) (p d : ℕ) → page_drawer s p ≡ Some d → page_cut p (table_in read ds s) ≡ read (drawer_at ds d)
    unfolding table_in
    table_cut ds page_set.None p d e = absurd cc
    table_cut ds First p d e =
        let l = lies_at first_set p d e in
        rows_cut read whole ds first_set pages p l.0 ∙ ap (λ k. read (drawer_at ds k)) (sym l.1)
    table_cut ds Second p d e =
        let l = lies_at second_set p d e in
        rows_cut read whole ds second_set pages p l.0 ∙ ap (λ k. read (drawer_at ds k)) (sym l.1)
