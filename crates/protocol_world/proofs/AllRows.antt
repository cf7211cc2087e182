-- Of all rows: what comes up, and entries, are those of each row, together.
use Rattle.std.proofs.Common.{◌≡◌, ℕ, [], ◌∷◌, length, sym, refl, ap, ◌∙◌, arith}
use Rattle.sums.specs.Sums.{or, any, those, added_up, belongs, all_of, comes_up, Reading, Gauges}
use Rattle.sums.proofs.Anys.{any_append}
use Rattle.sums.proofs.Laws.{sum_those_append}
use Rattle.machine.specs.Run.{nth_row}
use Rattle.protocol.specs.Entries.{entry_of_all, join_below, row_entry}
use Rattle.protocol.specs.Limits.{crew}
use Rattle.protocol.specs.Searches.{any_below, sum_below}
use Rattle.protocol.proofs.Entries.{entries_same}
use Rattle.protocol.proofs.Searches.{any_front}
use Rattle.protocol.proofs.Sums.{sum_front}
use Rattle.protocol.proofs.Tables.{row_any}

rows_sum : (f : Reading → ℕ) (gs : Gauges) (h k : ℕ) →
    added_up f (those (belongs h k) (all_of gs)) ≡ sum_below (λ i. added_up f (those (belongs h k) (nth_row gs i))) (length gs)
unfolding all_of sum_below nth_row those added_up
rows_sum f [] h k = refl
rows_sum f (rs ∷ gs) h k =
    omega (
      arith,
      sum_those_append (belongs h k) f rs (all_of gs),
      rows_sum f gs h k,
      sum_front (λ i. added_up f (those (belongs h k) (nth_row (rs ∷ gs) i))) (length gs),
    )

rows_any : (gs : Gauges) (h k : ℕ) → comes_up gs h k ≡ any_below (λ i. row_any (nth_row gs i) h k) (length gs)
unfolding all_of any any_below nth_row
rows_any [] h k = refl
rows_any (rs ∷ gs) h k =
    any_append (belongs h k) rs (all_of gs) ∙ ap (or (row_any rs h k)) (rows_any gs h k) ∙ sym (any_front (λ i. row_any (nth_row (rs ∷ gs) i) h k) (length gs))

pub all_entry : (gs : Gauges) (h k : ℕ) → length gs ≡ crew → entry_of_all gs h k ≡ join_below (λ i. row_entry (nth_row gs i) h k) crew
all_entry gs h k e = entries_same _ _ (sums (λ r. r.value)) (sums (λ _. 1))
  where
    sums : (f : Reading → ℕ) → added_up f (those (belongs h k) (all_of gs)) ≡ sum_below (λ i. added_up f (those (belongs h k) (nth_row gs i))) crew
    sums f = rows_sum f gs h k ∙ ap (sum_below (λ i. added_up f (those (belongs h k) (nth_row gs i)))) e

pub all_any : (gs : Gauges) (h k : ℕ) → length gs ≡ crew → comes_up gs h k ≡ any_below (λ i. row_any (nth_row gs i) h k) crew
all_any gs h k e = rows_any gs h k ∙ ap (λ n. any_below (λ i. row_any (nth_row gs i) h k) n) e
