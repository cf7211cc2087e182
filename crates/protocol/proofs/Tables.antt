-- What tables say of a beginning of a row, and a page of the whole row. Here alone the tables and pages are opened.
use Rattle.std.proofs.Common.{◌≡◌, ⊎_elim, ℕ, suc, ◌*◌, ◌/◌, ◌%◌, ◌<◌, ◌≤◌, Bool, true, false, eqb, List, length, get_or, sym, refl, ap, ◌∙◌, subst, arith}
use Rattle.std.proofs.lemmas.Bool.{eq-eqb, cases_Bool, both_ways, and_parts, and_from, and_left, and_right, cases_eq, eqb-true, ne_eqb}
use Rattle.sums.specs.Cells.{slots}
use Rattle.sums.specs.Parts.{no_reading}
use Rattle.sums.specs.Sums.{pick, any, belongs, Reading, hour_of}
use Rattle.sums.proofs.Anys.{any_place}
use Rattle.protocol.specs.Entries.{Entry, nothing_yet, is_counted, join, one_entry, entry_of, row_entry}
use Rattle.protocol.specs.Limits.{crew}
use Rattle.protocol.specs.Searches.{put}
use Rattle.protocol.specs.Tables.{filled, Tables, Page, blank, blank_page, with_reading, taking, entry_at, comes_at}
use Rattle.protocol.proofs.Entries.{entry_more, entry_stays, entry_whole, entry_new, entry_over, counted_any, counted_here, entry_comes}
use Rattle.protocol.proofs.Puts.{put_each, put_same, put_other}
use Rattle.protocol.proofs.Searches.{any_here, any_found}

abbrev pub hour_at : List Reading → ℕ → ℕ
hour_at row p = hour_of (get_or row p no_reading)

abbrev pub row_any : List Reading → (h k : ℕ) → Bool
row_any row h k = any (belongs h k) row

-- a page of hour h of the first p readings of a row, for one adder's places
pub record PartOf (row : List Reading) (p h j : ℕ) (pg : Page) : Type 0 where
  pub entries : (k : ℕ) → k % crew ≡ j → pg.entries (k / crew) ≡ entry_of row p h k

-- the tables of hour h of the first p readings of a row
abbrev pub Taken : (row : List Reading) (p h : ℕ) → Tables → Type 0
Taken row p h t = (j : ℕ) → j < crew → PartOf row p h j (t.page j)

-- the page of hour h of a whole row, for one adder's places
abbrev pub PageOf : (row : List Reading) (h j : ℕ) → Page → Type 0
PageOf row h j pg = PartOf row (length row) h j pg

-- THE LAWS
pub taken_blank : (row : List Reading) (p h : ℕ) → ((j : ℕ) → j < p → j < length row → hour_at row j ≡ h → ⊥) → Taken row p h blank
unfolding blank_page
taken_blank row p h new j lj = record { entries = λ k _. sym (entry_new row p h k new) }

module _ (row : List Reading) (p h : ℕ) (t : Tables) (lt : p < length row) (same : hour_at row p ≡ h) (d : Taken row p h t) where
  abbrev rd : Reading
  rd = get_or row p no_reading

  -- a place of another
  other_part : (k : ℕ) → (rd.key ≡ k → ⊥) → entry_of row (suc p) h k ≡ entry_of row p h k
  other_part k ne = entry_stays row p h k lt (and_right (eqb (hour_of rd) h) (eqb rd.key k) (ne_eqb rd.key k ne))

  -- a place of its adder: this reading's, or another
  part_here : (column : ℕ → Entry) (k : ℕ) → k % crew ≡ rd.key % crew → column (k / crew) ≡ entry_of row p h k →
      put column (rd.key / crew) (join (column (rd.key / crew)) (one_entry rd)) (k / crew) ≡ entry_of row (suc p) h k
  part_here column k on e = ⊎_elim
      (λ (q : k ≡ rd.key).
      let slot : k / crew ≡ rd.key / crew = ap (λ n. n / crew) q in
      let yes_here : belongs h k rd ≡ true = and_from (eqb (hour_of rd) h) (eqb rd.key k) (eq-eqb (hour_of rd) h same) (eq-eqb rd.key k (sym q)) in
      ap (put column (rd.key / crew) (join (column (rd.key / crew)) (one_entry rd))) slot
      ∙ put_same column (rd.key / crew) (join (column (rd.key / crew)) (one_entry rd))
      ∙ ap (λ n. join n (one_entry rd)) (ap column (sym slot) ∙ e)
      ∙ sym (entry_more row p h k lt ∙ ap (λ b. join (entry_of row p h k) (pick b (one_entry rd) nothing_yet)) yes_here))
      (λ ne.
      let slot : k / crew ≡ rd.key / crew → ⊥ = λ q. ne (omega (arith, q, on)) in
      put_other column (rd.key / crew) (join (column (rd.key / crew)) (one_entry rd)) (k / crew) slot ∙ e ∙ sym (other_part k (λ q. ne (sym q))))
      (cases_eq k rd.key)

  more_here : (pg : Page) → PartOf row p h (rd.key % crew) pg → PartOf row (suc p) h (rd.key % crew) (with_reading pg rd)
  unfolding with_reading
  more_here pg q = record { entries = λ k on. part_here pg.entries k on (q.entries k on) }

  more_other : (j : ℕ) (pg : Page) → (j ≡ rd.key % crew → ⊥) → PartOf row p h j pg → PartOf row (suc p) h j pg
  more_other j pg ne q = record { entries = λ k on. q.entries k on ∙ sym (other_part k (λ e. ne (sym on ∙ ap (λ n. n % crew) (sym e)))) }

  pub taken_more : Taken row (suc p) h (taking t rd)
  taken_more = put_each t.page (rd.key % crew) (with_reading (t.page (rd.key % crew)) rd) (λ j pg. j < crew → PartOf row (suc p) h j pg)
      (λ lj. more_here (t.page (rd.key % crew)) (d (rd.key % crew) lj)) (λ j ne lj. more_other j (t.page j) ne (d j lj))

-- an hour of which the next reading is not
pub taken_other : (row : List Reading) (p h : ℕ) (t : Tables) → p < length row → (hour_at row p ≡ h → ⊥) → Taken row p h t → Taken row (suc p) h t
taken_other row p h t lt ne d j lj = record {
  entries = λ k on. (d j lj).entries k on ∙ sym (entry_stays row p h k lt (and_left (eqb (hour_at row p) h) _ (ne_eqb (hour_at row p) h ne)));
}

-- WHETHER SOMETHING HAS BEEN TAKEN IN
pub filled_if : (row : List Reading) (q h : ℕ) (t : Tables) → q ≤ length row → ((p : ℕ) → p < length row → (get_or row p no_reading).key < crew * slots) →
    Taken row q h t →
    filled t ≡ false → (p : ℕ) → p < q → hour_at row p ≡ h → ⊥
unfolding filled comes_at
filled_if row q h t le keys d e p lt same =
    let k : ℕ = (get_or row p no_reading).key in
    let n : is_counted (entry_of row q h k) ≡ true = subst (λ g. is_counted (entry_of row q g k) ≡ true) same (counted_here row q le p lt) in
    both_ways _ e (any_here (λ k. comes_at (t.page (k % crew)) k) (crew * slots) k (keys p (omega arith))
    (ap is_counted ((d (k % crew) (omega arith)).entries k refl) ∙ n))

pub filled_then : (row : List Reading) (q h : ℕ) (t : Tables) → Taken row q h t → filled t ≡ true → (p : ℕ) × (p < length row) × (hour_at row p ≡ h)
unfolding filled comes_at
filled_then row q h t d e =
    let at = any_found (λ k. comes_at (t.page (k % crew)) k) (crew * slots) e in
    let k : ℕ = at.0 in
    let n : is_counted (entry_of row q h k) ≡ true = sym (ap is_counted ((d (k % crew) (omega arith)).entries k refl)) ∙ at.2 in
    let some = any_place (belongs h k) row no_reading (entry_comes row q h k n) in
    (some.0, some.1, eqb-true _ _ (and_parts (eqb (hour_at row some.0) h) _ some.2).0)

pub page_whole : (row : List Reading) (p h : ℕ) (j : ℕ) (pg : Page) → ((q : ℕ) → p ≤ q → q < length row → hour_at row q ≡ h → ⊥) → PartOf row p h j pg →
    PageOf row h j pg
page_whole row p h j pg over d = record { entries = λ k on. d.entries k on ∙ entry_over row p h k over }

pub page_entry : (row : List Reading) (h j : ℕ) (pg : Page) → PageOf row h j pg → (k : ℕ) → k % crew ≡ j → entry_at pg k ≡ row_entry row h k
unfolding entry_at
page_entry row h j pg d k on = d.entries k on ∙ entry_whole row h k

pub page_comes : (row : List Reading) (h j : ℕ) (pg : Page) → PageOf row h j pg → (k : ℕ) → k % crew ≡ j → comes_at pg k ≡ row_any row h k
unfolding comes_at
page_comes row h j pg d k on = ap is_counted (d.entries k on ∙ entry_whole row h k) ∙ counted_any row h k

-- A ROW THAT HAS NOTHING OF AN HOUR
module _ (h k : ℕ) where
  pub none_any : (row : List Reading) → ((p : ℕ) → p < length row → hour_at row p ≡ h → ⊥) → row_any row h k ≡ false
  none_any row free = ⊎_elim
      (λ e. let at = any_place (belongs h k) row no_reading e in
      let both = and_parts (eqb (hour_at row at.0) h) _ at.2 in absurd (free at.0 at.1 (eqb-true _ _ both.0)))
      (λ e. e) (cases_Bool (row_any row h k))

  pub none_entry : (row : List Reading) → ((p : ℕ) → p < length row → hour_at row p ≡ h → ⊥) → row_entry row h k ≡ nothing_yet
  none_entry row free = sym (entry_whole row h k) ∙ entry_new row (length row) h k (λ j _ lt. free j lt)
