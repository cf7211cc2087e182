-- A page of the memory is kept by its bytes.
use Rattle.std.proofs.Common.{◌≡◌, ℕ, ◌<◌, List, ◌++◌, length, drop, is_ok, Ok, refl, ap, ◌∙◌}
use Rattle.sums.specs.Cells.{pages}
use Rattle.sums.specs.Pages.{page_length, page_bytes, encode_answer, page_written}
use Rattle.sums.proofs.Columns.{length_page}
use Rattle.gauge.specs.Deeds.{keep, Answered}
use Rattle.gauge.specs.Memory.{cells, page_sums_in, page_counts_in}
use Rattle.gauge.specs.declared.act.Act.TheVariants as act
use Rattle.gauge.proofs.Cells.{length_page_sums, length_page_counts}

-- ss and cs are the page's sums and counts
pub page_kept : (m : List ℕ) (p d : ℕ) (ss cs out out₁ : List ℕ) → length m ≡ cells → p < pages → ss ≡ page_sums_in m p → cs ≡ page_counts_in m p →
    encode_answer ss cs out ≡ Ok tt → out₁ ≡ page_written ss cs out →
    Answered (keep d (page_bytes (page_sums_in m p) (page_counts_in m p))) (act.Keep d page_length) out out₁
page_kept m p d ss cs out out₁ len lt es ec told wrote =
    let long = length_page (page_sums_in m p) (page_counts_in m p) (length_page_sums m len p lt) (length_page_counts m len p lt) in
    let done = ap is_ok told in
    let over : page_written ss cs out ≡ page_bytes ss cs ++ drop page_length out = simp done in
    simp long (refl, wrote ∙ over ∙ cc)
