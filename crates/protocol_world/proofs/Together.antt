-- What is known in each world that comes about: that of the gauges, and the invariants; and that so much calm settles it.
use Rattle.std.proofs.Common.{◌≡◌, ℕ, zero, suc, eqb, ap, ⊎_elim, ◌∙◌, ◌*◌, ◌<◌, ◌≤◌, true, List, length, get_or, sym, refl, inl, arith}
use Rattle.std.proofs.lemmas.Bool.{cases_eq, and_parts, eqb-true}
use Rattle.sums.specs.Cells.{slots}
use Rattle.sums.specs.Parts.{no_reading}
use Rattle.sums.specs.Sums.{belongs, comes_up, Gauges}
use Rattle.sums.proofs.Anys.{any_place}
use Rattle.sums.proofs.Readings.{fits_at}
use Rattle.machine.specs.Run as given
use Rattle.protocol.specs.Limits.{crew}
use Rattle.protocol.specs.Searches.{sum_below}
use Rattle.protocol.proofs.Searches.{any_found}
use Rattle.protocol.proofs.Tables.{hour_at, row_any}
use Rattle.protocol_world.specs.Enough.{enough_acts, enough_rounds, letters_on, Settled}
use Rattle.protocol_world.specs.Runs.{all_happened, calm}
use Rattle.protocol_world.specs.Theorems.{EnoughCalm}
use Rattle.protocol_world.specs.Worlds.{World, new_world}
use Rattle.protocol_world.proofs.AllRows.{all_any}
use Rattle.protocol_world.proofs.Amounts.{ahead, counts, acts_most, rounds_most}
use Rattle.protocol_world.proofs.Induction.{all_good, calm_good}
use Rattle.protocol_world.proofs.Invariant.{row}
use Rattle.protocol_world.proofs.Rows.{row_fine}
use Rattle.protocol_world.proofs.Safety.{Known, eight, rows_fine, start_good}
use Rattle.protocol_world.proofs.Stays.{calm_ends}
use Rattle.protocol_world.proofs.SyncRuns.{InStep, keeps_step}
use Rattle.protocol_world.proofs.Syncs.{busy}

pub one_of_sum : (f : ℕ → ℕ) (n i : ℕ) → i < n → f i ≤ sum_below f n
unfolding sum_below
one_of_sum f zero i lt = absurd (omega arith)
one_of_sum f (suc n) i lt = ⊎_elim
    (λ (e : i ≡ n). let same : f i ≡ f n = ap f e in omega (arith, same))
    (λ ne. omega (arith, one_of_sum f n i (omega arith)))
    (cases_eq i n)

module _ (gs : Gauges) (known : Known gs) where
  abbrev pub In : World → Type 0
  In w = InStep gs (eight gs known) (rows_fine gs known) w

  -- hours are below this number
  abbrev pub top : ℕ
  top = 4611686018427387904

  pub low : (i : ℕ) → i < crew → (p : ℕ) → p < length (row gs i) → hour_at (row gs i) p < top
  low i li p lt = omega (arith, (fits_at (row gs i) p (row_fine gs i known.fine).readings lt).time)

  pub keys : (i : ℕ) → i < crew → (p : ℕ) → p < length (row gs i) → (get_or (row gs i) p no_reading).key < crew * slots
  keys i li p lt = (fits_at (row gs i) p (row_fine gs i known.fine).readings lt).key

  pub start_in : In new_world
  start_in = record { good = start_good gs known; synced = λ i j li lj ne. busy (inl refl); full = λ i e. cc }

  -- places are below 1,024
  pub places_low : (g k : ℕ) → comes_up gs g k ≡ true → k < crew * slots
  places_low g k e =
      let some = any_found (λ a. row_any (row gs a) g k) crew (sym (all_any gs g k (eight gs known)) ∙ e) in
      let at = any_place (belongs g k) (row gs some.0) no_reading some.2 in
      let same : (get_or (row gs some.0) at.0 no_reading).key ≡ k = eqb-true _ _ (and_parts (eqb (hour_at (row gs some.0) at.0) g) _ at.2).1 in
      omega (arith, same, keys some.0 some.1 at.0 at.1)

  module _ (is : List given.Item) where
    abbrev pub now : World
    now = all_happened gs new_world is

    pub happened_in : In now
    happened_in = all_good gs In (keeps_step gs (eight gs known) (rows_fine gs known)) is new_world start_in

    pub calm_in : (k n : ℕ) → In (calm k n gs now)
    calm_in k n = calm_good gs In (keeps_step gs (eight gs known) (rows_fine gs known)) k n now happened_in

    pub settled_by : (k n : ℕ) → EnoughCalm gs now k n → Settled (calm k n gs now)
    settled_by k zero enough = absurd (omega (arith, enough.1 0 (omega arith)))
    settled_by k (suc n) enough =
        calm_ends gs (eight gs known) (rows_fine gs known) (ahead gs) (counts gs) n (λ i lt x. omega (arith, enough.1 i lt, acts_most gs i x)) k now happened_in
        (omega (arith, enough.0, rounds_most gs (eight gs known) now))

    -- there is such calm
    abbrev pub some_rounds : ℕ
    some_rounds = enough_rounds gs (letters_on now)

    abbrev pub some_acts : ℕ
    some_acts = sum_below (enough_acts gs) crew

    pub some_calm : EnoughCalm gs now some_rounds some_acts
    some_calm = (omega arith, λ i lt. one_of_sum (enough_acts gs) crew i lt)
