-- The columns that a drawer stands for: their lengths, and those of a page.
use Rattle.std.proofs.Common.{◌≡◌, ℕ, ◌+◌, ◌*◌, ◌^◌, ◌<◌, Bool, true, cond, List, length, get_or, drop, replicate, is_ok, ap, ◌∙◌, arith, length-drop}
use lib.ListN.{length-replicate}
use Rattle.std.proofs.lemmas.List.{get_or-take, get_or-drop, length-take-le}
use Rattle.std.proofs.lemmas.Bool.{eq-eqb, lt-ltb, cond_both}
use Rattle.sums.specs.Cells.{places, pages, slots}
use Rattle.sums.specs.Digits.{fits}
use Rattle.sums.specs.Pages.{sum_width, count_width, page_length, page_bytes, page_sums, page_counts, decode_answer}
use Rattle.sums.specs.Sums.{every}
use Rattle.sums.proofs.Columns.{length_page, sums_back, counts_back, length_sums, length_counts}
use Rattle.sums.proofs.Everys.{every_places}
use Rattle.store.specs.Kept.{sums_in, counts_in, page_cut}

-- a column that is read, or zeros
length_column : (b : Bool) (xs : List ℕ) → length xs ≡ slots → length (cond b xs (replicate slots 0)) ≡ slots
length_column b xs len = cond_both b xs (replicate slots 0) (λ l. length l ≡ slots) (λ _. len) (λ _. length-replicate {A = ℕ} slots 0)

module _ (bs : List ℕ) where
  read : Bool
  read = is_ok (decode_answer bs (replicate slots 0) (replicate slots 0))

  pub length_sums_in : length (sums_in bs) ≡ slots
  unfolding sums_in read
  length_sums_in = length_column read (page_sums bs) (length_sums bs)

  pub length_counts_in : length (counts_in bs) ≡ slots
  unfolding counts_in read
  length_counts_in = length_column read (page_counts bs) (length_counts bs)

  pub sums_in_page : length bs ≡ page_length → sums_in bs ≡ page_sums bs
  unfolding sums_in
  sums_in_page e = simp (eq-eqb (length bs) page_length e)

  pub counts_in_page : length bs ≡ page_length → counts_in bs ≡ page_counts bs
  unfolding counts_in
  counts_in_page e = simp (eq-eqb (length bs) page_length e)

module _ (ss cs : List ℕ) (ls : length ss ≡ slots) (lc : length cs ≡ slots) where
  pub sums_in_back : every (fits sum_width) ss ≡ true → sums_in (page_bytes ss cs) ≡ ss
  sums_in_back all = sums_in_page (page_bytes ss cs) (length_page ss cs ls lc) ∙ sums_back ss cs ls all

  pub counts_in_back : every (fits count_width) cs ≡ true → counts_in (page_bytes ss cs) ≡ cs
  counts_in_back all = counts_in_page (page_bytes ss cs) (length_page ss cs ls lc) ∙ counts_back ss cs ls lc all

module _ (p : ℕ) (xs : List ℕ) (len : length xs ≡ places) (lt : p < pages) where
  pub length_cut : length (page_cut p xs) ≡ slots
  length_cut = length-take-le slots (drop (slots * p) xs) (simp length-drop (omega arith))

  -- numbers of a table that fit are so in each of its cuts
  pub cut_fits : (w : ℕ) → ((c : ℕ) → c < places → get_or xs c 0 < 256 ^ w) → every (fits w) (page_cut p xs) ≡ true
  cut_fits w small =
      every_places (fits w) (page_cut p xs) 0
      (λ i li.
      let here : i < slots = omega (arith, length_cut) in
      let e : get_or (page_cut p xs) i 0 ≡ get_or xs (slots * p + i) 0 = get_or-take slots (drop (slots * p) xs) i 0 here ∙ get_or-drop (slots * p) xs i 0 in
      ap (fits w) e ∙ lt-ltb _ _ (small (slots * p + i) (omega arith)))
