-- What a boot reads, page by page, is what the drawers stand for.
use Rattle.std.proofs.Common.{◌≡◌, ℕ, suc, ◌*◌, List, length, take, Some, sym, refl, ap, ◌∙◌, arith}
use Rattle.std.proofs.lemmas.List.{take_all}
use Rattle.sums.specs.Cells.{places, pages, slots}
use Rattle.sums.specs.Written.{written}
use Rattle.store.specs.Drawers.{Drawers, drawer_at, page_drawer}
use Rattle.store.specs.Kept.{kept_of, sums_in, counts_in, table_in, page_cut}
use Rattle.store.specs.Laws.{ReadBack, BootLaw}
use Rattle.store.proofs.Columns.{length_sums_in, length_counts_in, sums_in_page, counts_in_page}
use Rattle.store.proofs.Numbered.{page_within}
use Rattle.store.proofs.PageRows.{length_table, table_cut, length_next, table_next}

module _ (ds : Drawers) where
  pub length_kept_sums : length (kept_of ds).sums ≡ places
  unfolding kept_of
  length_kept_sums = length_table sums_in length_sums_in ds (kept_of ds).root.set

  pub length_kept_counts : length (kept_of ds).counts ≡ places
  unfolding kept_of
  length_kept_counts = length_table counts_in length_counts_in ds (kept_of ds).root.set

  module _ (p d : ℕ) (at : page_drawer (kept_of ds).root.set p ≡ Some d) where
    pub sums_cut : page_cut p (kept_of ds).sums ≡ sums_in (drawer_at ds d)
    unfolding kept_of
    sums_cut = table_cut sums_in length_sums_in ds (kept_of ds).root.set p d at

    pub counts_cut : page_cut p (kept_of ds).counts ≡ counts_in (drawer_at ds d)
    unfolding kept_of
    counts_cut = table_cut counts_in length_counts_in ds (kept_of ds).root.set p d at

    -- one page more is read
    pub read_more : (ss cs : List ℕ) → ReadBack ds p ss cs →
        ReadBack ds (suc p) (written ss (slots * p) (sums_in (drawer_at ds d))) (written cs (slots * p) (counts_in (drawer_at ds d)))
    read_more ss cs back =
        let lt = page_within (kept_of ds).root.set p d at in
        let bs = drawer_at ds d in
        record {
          sums_length = length_next p ss (sums_in bs) (kept_of ds).sums back.sums_length lt (length_sums_in bs);
          counts_length = length_next p cs (counts_in bs) (kept_of ds).counts back.counts_length lt (length_counts_in bs);
          sums = table_next p ss (sums_in bs) (kept_of ds).sums back.sums_length lt (length_sums_in bs) sums_cut back.sums;
          counts = table_next p cs (counts_in bs) (kept_of ds).counts back.counts_length lt (length_counts_in bs) counts_cut back.counts;
        }

  pub read_all : (ss cs : List ℕ) → ReadBack ds pages ss cs → (ss ≡ (kept_of ds).sums) × (cs ≡ (kept_of ds).counts)
  read_all ss cs back = (
    whole ss (kept_of ds).sums back.sums_length length_kept_sums back.sums,
    whole cs (kept_of ds).counts back.counts_length length_kept_counts back.counts,
  )
    where
      whole : (xs ys : List ℕ) → length xs ≡ places → length ys ≡ places → take places xs ≡ take places ys → xs ≡ ys
      whole xs ys lx ly e = sym (take_all places xs (omega arith)) ∙ e ∙ take_all places ys (omega arith)

pub boot_law : BootLaw
unfolding kept_of table_in
boot_law =
    record {
      root = λ ds. refl;
      cursor = λ ds. refl;
      blank = λ ds none. (ap (table_in sums_in ds) none, ap (table_in counts_in ds) none);
      lengths = λ ds. (length_kept_sums ds, length_kept_counts ds);
      cuts = λ ds p d at. (sums_cut ds p d at, counts_cut ds p d at);
      pages_only = λ bs len. (sums_in_page bs len, counts_in_page bs len);
      begun = λ ds ss cs ls lc. record { sums_length = ls; counts_length = lc; sums = refl; counts = refl };
      one_more = λ ds p d ss cs at back. read_more ds p d at ss cs back;
      done = read_all;
    }
