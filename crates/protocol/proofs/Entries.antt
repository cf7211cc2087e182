-- Entries of a beginning of a row: with one reading more, before an hour and after it; that one is counted just where there is a reading; how large they are.
use Rattle.std.proofs.Common.{◌≡◌, ℕ, zero, suc, ◌+◌, ◌*◌, ◌<◌, ◌≤◌, Bool, true, false, eqb, not, List, length, get_or, sym, refl, ap, ap₂, ◌∙◌, subst, ⊎_elim, arith}
use Rattle.std.proofs.lemmas.Bool.{and_parts, and_from, eq-eqb, ne_eqb, eqb-true, eqb-false, not-true, not_from_false, both_ways, cases_eq, cases_Bool}
use Rattle.sums.specs.Parts.{part_of, part, count_of, no_reading}
use Rattle.sums.specs.Sums.{pick, any, every, belongs, Reading, hour_of, a_reading}
use Rattle.sums.proofs.Parts.{part_of_more, part_of_all, part_hour_new, part_over, comes_counted, counted_comes, part_counted, count_le}
use Rattle.protocol.specs.Entries.{Entry, nothing_yet, is_counted, join, same_entry, one_entry, entry_of, row_entry}

pub entries_same : (a b : Entry) → a.sum ≡ b.sum → a.count ≡ b.count → a ≡ b
entries_same a b s c = ap₂ (λ x y. record { sum = x; count = y }) s c

pub same_self : (e : Entry) → same_entry e e ≡ true
same_self e = and_from (eqb e.sum e.sum) _ (eq-eqb e.sum e.sum refl) (eq-eqb e.count e.count refl)

pub same_is : (a b : Entry) → same_entry a b ≡ true → a ≡ b
same_is a b q = let x = and_parts (eqb a.sum b.sum) _ q in entries_same a b (eqb-true a.sum b.sum x.0) (eqb-true a.count b.count x.1)

-- OF A BEGINNING OF A ROW, at an hour and a place
pub entry_more : (row : List Reading) (p h k : ℕ) → p < length row →
    entry_of row (suc p) h k ≡ join (entry_of row p h k) (pick (belongs h k (get_or row p no_reading)) (one_entry (get_or row p no_reading)) nothing_yet)
unfolding entry_of
entry_more row p h k lt = go (get_or row p no_reading) (belongs h k (get_or row p no_reading))
    (part_of_more (λ r. r.value) row p h k lt) (part_of_more (λ _. 1) row p h k lt)
  where
    go : (r : Reading) (b : Bool) → part row (suc p) h k ≡ part row p h k + pick b r.value 0 → count_of row (suc p) h k ≡ count_of row p h k + pick b 1 0 →
        entry_of row (suc p) h k ≡ join (entry_of row p h k) (pick b (one_entry r) nothing_yet)
    go r true s c = entries_same _ _ s c
    go r false s c = entries_same _ _ s c

-- where the next reading is of another hour or place
pub entry_stays : (row : List Reading) (p h k : ℕ) → p < length row → belongs h k (get_or row p no_reading) ≡ false →
    entry_of row (suc p) h k ≡ entry_of row p h k
unfolding entry_of
entry_stays row p h k lt e = entries_same _ _ (alike (λ x. x.value)) (alike (λ _. 1))
  where
    alike : (f : Reading → ℕ) → part_of f row (suc p) h k ≡ part_of f row p h k
    alike f = omega (arith, part_of_more f row p h k lt, ap (λ b. pick b (f (get_or row p no_reading)) 0) e)

pub entry_whole : (row : List Reading) (h k : ℕ) → entry_of row (length row) h k ≡ row_entry row h k
unfolding entry_of
entry_whole row h k = entries_same _ _ (part_of_all (λ r. r.value) row h k) (part_of_all (λ _. 1) row h k)

-- before the hour, and after it
pub entry_new : (row : List Reading) (p h k : ℕ) → ((j : ℕ) → j < p → j < length row → hour_of (get_or row j no_reading) ≡ h → ⊥) →
    entry_of row p h k ≡ nothing_yet
unfolding entry_of
entry_new row p h k new = entries_same _ _ (part_hour_new (λ r. r.value) row p h k new) (part_hour_new (λ _. 1) row p h k new)

pub entry_over : (row : List Reading) (p h k : ℕ) → ((j : ℕ) → p ≤ j → j < length row → hour_of (get_or row j no_reading) ≡ h → ⊥) →
    entry_of row p h k ≡ entry_of row (length row) h k
unfolding entry_of
entry_over row p h k over = entries_same _ _ (part_over (λ r. r.value) row p h k over) (part_over (λ _. 1) row p h k over)

-- JUST WHERE THERE IS A READING
counted_if : (n : ℕ) → 0 < n → not (eqb n 0) ≡ true
counted_if n lt = not_from_false (eqb n 0) (ne_eqb n 0 (λ e. absurd (omega arith)))

counted_then : (n : ℕ) → not (eqb n 0) ≡ true → 0 < n
counted_then n e = let some : n ≡ 0 → ⊥ = eqb-false n 0 (not-true (eqb n 0) e) in omega (arith, some)

pub entry_comes : (row : List Reading) (p h k : ℕ) → is_counted (entry_of row p h k) ≡ true → any (belongs h k) row ≡ true
unfolding entry_of
entry_comes row p h k e = counted_comes row p h k (counted_then (count_of row p h k) e)

pub counted_any : (row : List Reading) (h k : ℕ) → is_counted (row_entry row h k) ≡ any (belongs h k) row
unfolding entry_of
counted_any row h k = subst (λ (e : Entry). is_counted e ≡ any (belongs h k) row) (entry_whole row h k) (⊎_elim
    (λ e. counted_if (count_of row (length row) h k) (comes_counted row h k e) ∙ sym e)
    (λ e. ⊎_elim (λ c. absurd (both_ways _ e (entry_comes row (length row) h k c))) (λ c. c ∙ sym e) (cases_Bool (is_counted (entry_of row (length row) h k))))
    (cases_Bool (any (belongs h k) row)))

-- at the hour and place of one of the first q readings
pub counted_here : (row : List Reading) (q : ℕ) → q ≤ length row → (p : ℕ) → p < q →
    is_counted (entry_of row q (hour_of (get_or row p no_reading)) (get_or row p no_reading).key) ≡ true
unfolding entry_of
counted_here row q le p lt = counted_if _ (count_here row q le p lt)
  where
    count_here : (row : List Reading) (q : ℕ) → q ≤ length row → (p : ℕ) → p < q →
        0 < count_of row q (hour_of (get_or row p no_reading)) (get_or row p no_reading).key
    count_here row zero le p lt = absurd (omega arith)
    count_here row (suc q) le p lt =
        let r : Reading = get_or row p no_reading in
        let more = part_of_more (λ _. 1) row q (hour_of r) r.key (omega arith) in
        ⊎_elim
        (λ (e : p ≡ q).
        let here : belongs (hour_of r) r.key (get_or row q no_reading) ≡ true = subst (λ n. belongs (hour_of r) r.key (get_or row n no_reading) ≡ true) e
        (and_from (eqb (hour_of r) (hour_of r)) _ (eq-eqb (hour_of r) (hour_of r) refl) (eq-eqb r.key r.key refl)) in
        omega (arith, more, ap {B = ℕ} (λ b. pick b 1 0) here))
        (λ ne. omega (arith, more, count_here row q (omega arith) p (omega arith)))
        (cases_eq p q)

-- HOW LARGE
pub entry_most : (row : List Reading) (p h k : ℕ) → every a_reading row ≡ true →
    ((entry_of row p h k).sum ≤ (entry_of row p h k).count * 4294967296) × ((entry_of row p h k).count ≤ length row)
unfolding entry_of
entry_most row p h k ok = (part_counted row p h k ok, (count_le row p h k).1)
