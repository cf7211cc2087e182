-- Parts of the memory: what a slice of the code holds, and how long the pages are.
use Rattle.std.proofs.Common.{◌≡◌, ℕ, ◌+◌, ◌-◌, ◌*◌, ◌<◌, ◌≤◌, List, length, take, drop, ap, arith, length-drop}
use Rattle.std.proofs.lemmas.List.{length-take-le}
use Rattle.sums.specs.Cells.{pages, slots}
use Rattle.gauge.specs.Memory.{sums_at, counts_at, cells, row_in, page_sums_in, page_counts_in}

-- `&memory[at..at + n]`
pub part_is : (m : List ℕ) (at n : ℕ) → take (at + n - at) (drop at m) ≡ row_in m at n
unfolding row_in
part_is m at n = let e : at + n - at ≡ n = omega arith in ap (λ k. take k (drop at m)) e

pub length_row : (m : List ℕ) (at n : ℕ) → at + n ≤ length m → length (row_in m at n) ≡ n
unfolding row_in
length_row m at n le = length-take-le n (drop at m) (simp length-drop (omega arith))

module _ (m : List ℕ) (len : length m ≡ cells) (p : ℕ) (lt : p < pages) where
  pub length_page_sums : length (page_sums_in m p) ≡ slots
  length_page_sums = length_row m (sums_at + slots * p) slots (omega arith)

  pub length_page_counts : length (page_counts_in m p) ≡ slots
  length_page_counts = length_row m (counts_at + slots * p) slots (omega arith)
