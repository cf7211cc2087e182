-- Whether the tables have a reading, by the row of counts; and a row of flags that are all set but one.
use Rattle.std.proofs.Common.{◌≡◌, ⊎_elim, ℕ, ◌+◌, ◌*◌, ◌/◌, ◌%◌, ◌<◌, ◌≤◌, Bool, true, false, not, eqb, List, length, get_or, replicate, refl, sym, ap, ◌∙◌, subst, arith}
use Rattle.std.specs.Prelude.{slice_set}
use Rattle.std.proofs.lemmas.Bool.{cases_eq, eq-eqb, ne_eqb}
use Rattle.std.proofs.lemmas.List.{length-set, get_or-replicate, get_or-set_other}
use Rattle.sums.specs.Cells.{slots, cell_of, place_of}
use Rattle.sums.specs.Written.{written}
use Rattle.sums.proofs.Anys.{any_at, any_place}
use Rattle.sums.proofs.Overwrites.{length_written}
use Rattle.sums.proofs.Places.{cell_back, cell_fits, place_fits}
use Rattle.protocol.specs.Limits.{crew}
use Rattle.protocol.specs.Tables.{filled, comes_at}
use Rattle.protocol.proofs.Searches.{any_here, any_found}
use Rattle.gauge.specs.Gauge.{counts_in}
use Rattle.gauge.specs.Memory.{at, cells, counts_at}
use Rattle.gauge.specs.Views.{flag_in, table_in}
use Rattle.machine.specs.Boot.{has_reading}
use Rattle.whole.proofs.Bytes.{at_row, length_row}
use Rattle.whole.proofs.Cells.{here, written_before, written_in, written_behind}
use Rattle.whole.proofs.Parts.{Kept}

-- ALL BUT ONE of eight flags are set
abbrev pub all_but : List ℕ → (from one : ℕ) → List ℕ
all_but m a i = slice_set (written m a (replicate crew 1)) (a + i) 0

module _ (m : List ℕ) (a i : ℕ) (le : a + crew ≤ length m) (lt : i < crew) where
  ones_long : length (written m a (replicate crew 1)) ≡ length m
  ones_long = length_written m a (replicate crew 1) le

  pub length_all_but : length (all_but m a i) ≡ length m
  length_all_but = length-set (written m a (replicate crew 1)) (a + i) 0 ∙ ones_long

  pub all_but_before : (c : ℕ) → c < a → at (all_but m a i) c ≡ at m c
  all_but_before c l = get_or-set_other (written m a (replicate crew 1)) (a + i) c 0 0 (λ e. omega (arith, e, l)) ∙ written_before m (replicate crew 1) a le c l

  pub all_but_behind : (c : ℕ) → a + crew ≤ c → at (all_but m a i) c ≡ at m c
  all_but_behind c ge =
      get_or-set_other (written m a (replicate crew 1)) (a + i) c 0 0 (λ e. omega (arith, e, ge, lt)) ∙ written_behind m (replicate crew 1) a le c ge

  pub all_but_one : (j : ℕ) → j < crew → flag_in (all_but m a i) (a + j) ≡ not (eqb j i)
  all_but_one j lj = ⊎_elim
      (λ (e : j ≡ i).
      subst (λ k. flag_in (all_but m a i) (a + k) ≡ not (eqb k i)) (sym e)
      (ap (λ v. not (eqb v 0)) (here (written m a (replicate crew 1)) (a + i) 0 (omega (arith, ones_long))) ∙ sym (ap not (eq-eqb i i refl))))
      (λ (ne : j ≡ i → ⊥).
      ap (λ v. not (eqb v 0)) (get_or-set_other (written m a (replicate crew 1)) (a + i) (a + j) 0 0 (λ e. ne (omega (arith, e)))
      ∙ written_in m (replicate crew 1) a le j lj ∙ get_or-replicate crew j 1 0 lj)
      ∙ sym (ap not (ne_eqb j i ne)))
      (cases_eq j i)

-- WHETHER THERE IS A READING
alike : (a b : Bool) → (a ≡ true → b ≡ true) → (b ≡ true → a ≡ true) → a ≡ b
alike true b f g = sym (f refl)
alike false true f g = g refl
alike false false f g = refl

-- the tables of n, by the counts that stand in m
pub filled_by_counts : (m n : List ℕ) → length m ≡ cells → Kept counts_at (counts_at + 1024) m n → filled (table_in n) ≡ has_reading (counts_in m)
unfolding filled comes_at
filled_by_counts m n len kept = alike (filled (table_in n)) (has_reading (counts_in m))
    (λ e.
    let found = any_found (λ k. not (eqb (at n (counts_at + slots * (k % crew) + k / crew)) 0)) 1024 e in
    let k : ℕ = found.0 in
    let lk : k < 1024 = found.1 in
    let place : counts_at + cell_of k ≡ counts_at + slots * (k % crew) + k / crew = omega arith in
    let fits : cell_of k < 1024 = cell_fits k lk in
    let same : get_or (counts_in m) (cell_of k) 0 ≡ at n (counts_at + slots * (k % crew) + k / crew) =
    at_row m counts_at 1024 (cell_of k) fits ∙ sym (kept (counts_at + cell_of k) (omega arith) (omega (arith, fits))) ∙ ap (at n) place in
    any_at (λ c. not (eqb c 0)) (counts_in m) (cell_of k) 0 (omega (arith, long, fits)) (ap (λ v. not (eqb v 0)) same ∙ found.2))
    (λ e.
    let found = any_place (λ c. not (eqb c 0)) (counts_in m) 0 e in
    let i : ℕ = found.0 in
    let li : i < 1024 = omega (arith, found.1, long) in
    let k : ℕ = place_of i in
    let place : counts_at + slots * (k % crew) + k / crew ≡ counts_at + i = omega (arith, cell_back i li) in
    let same : at n (counts_at + slots * (k % crew) + k / crew) ≡ get_or (counts_in m) i 0 =
    ap (at n) place ∙ kept (counts_at + i) (omega arith) (omega (arith, li)) ∙ sym (at_row m counts_at 1024 i li) in
    any_here (λ k. not (eqb (at n (counts_at + slots * (k % crew) + k / crew)) 0)) 1024 k (place_fits i li) (ap (λ v. not (eqb v 0)) same ∙ found.2))
  where
    long : length (counts_in m) ≡ 1024
    long = length_row m counts_at 1024 (omega (arith, len))
