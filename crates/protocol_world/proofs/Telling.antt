-- An hour that can be told: it is the least that is left, its sums are those of all rows, and what is told of it puts the cursor further.
use Rattle.std.proofs.Common.{◌≡◌, ℕ, suc, ◌*◌, ◌/◌, ◌%◌, ◌<◌, ◌≤◌, Bool, true, false, not, ◌&&◌, eqb, leb, List, [], ◌∷◌, ◌++◌, length, sym, refl, ap, ◌∙◌, subst, inl, inr, ⊎_elim, arith}
use Rattle.std.proofs.lemmas.Bool.{not-true, eqb-true, both_ways, cases_lt, cases_eq, and_parts, and_from, eq-eqb, le-leb, not_from_true}
use Rattle.sums.specs.Cells.{slots}
use Rattle.sums.specs.Parts.{no_reading}
use Rattle.sums.specs.Sums.{belongs, Gauges, comes_up}
use Rattle.sums.proofs.Anys.{any_place, any_front, any_last}
use Rattle.sums.proofs.Picks.{pick_both}
use Rattle.protocol.specs.Adder.{entry_heard, comes_heard, place, from_slot}
use Rattle.protocol.specs.Bounds.{has_hour, is_from, bound}
use Rattle.protocol.specs.Entries.{entry_of_all, same_entry}
use Rattle.protocol.specs.Limits.{crew}
use Rattle.protocol.specs.Memory.{Memory, heard_of}
use Rattle.protocol.specs.Statements.{Statement, nothing, has_begun, is_whole, has_ended}
use Rattle.protocol.proofs.Choosing.{HourIs}
use Rattle.protocol.proofs.Entries.{same_self}
use Rattle.protocol.proofs.Sums.{join_alike}
use Rattle.protocol.proofs.Searches.{or_split, any_found, any_alike, Found, NoneBelow}
use Rattle.protocol.proofs.Tables.{hour_at, row_any}
use Rattle.protocol_world.specs.Wall.{Told, has_told, is_right}
use Rattle.protocol_world.proofs.AllRows.{all_entry, all_any}
use Rattle.protocol_world.proofs.Facts.{none_at, NoneIn, HasHour, Fact, Brings, bound_is, none_before, brings_true, BoundIs}
use Rattle.protocol_world.proofs.Invariant.{row, Before, Covers, CursorIs, NextRow, SomeHour}

-- what is told stays told
pub cursor_more : (gs : Gauges) (ts new : List Told) (i h s : ℕ) → CursorIs gs ts i h s → CursorIs gs (ts ++ new) i h s
cursor_more gs ts new i h s c g k on low which comes = any_front _ ts new (c g k on low which comes)

-- a place that comes up in an hour has a reading in some row
pub comes_somewhere : (gs : Gauges) → length gs ≡ crew → (h k : ℕ) → comes_up gs h k ≡ true →
    (a : ℕ) × (a < crew) × ((p : ℕ) × (p < length (row gs a)) × (hour_at (row gs a) p ≡ h))
comes_somewhere gs eight h k e =
    let some = any_found (λ a. row_any (row gs a) h k) crew (sym (all_any gs h k eight) ∙ e) in
    let at = any_place (belongs h k) (row gs some.0) no_reading some.2 in
    (some.0, some.1, (at.0, at.1, eqb-true _ _ (and_parts (eqb (hour_at (row gs some.0) at.0) h) _ at.2).0))

module _ (gs : Gauges) (eight : length gs ≡ crew) (i : ℕ) (lt : i < crew) (b : Memory) (me : b.me ≡ i)
    (truth : (a : ℕ) → a < crew → Fact (row gs a) i b.cursor.hour (heard_of b a)) (m : ℕ) (hour : HourIs b m) where
  abbrev h : ℕ
  h = b.cursor.hour

  bound_at : (a : ℕ) → a < crew → BoundIs (row gs a) h (bound h (heard_of b a))
  bound_at a l = bound_is (row gs a) i h (heard_of b a) (truth a l)

  pub not_past : h ≤ m
  not_past =
      let one = hour.least.1 in
      (subst (BoundIs (row gs one.0) h) one.2 (bound_at one.0 one.1)).0

  -- an hour of the row whose bound it is
  hour_by : (a : ℕ) → (s : Statement) → has_hour m s ≡ true → Fact (row gs a) i h s → HasHour (row gs a) m
  hour_by a nothing e f = absurd (both_ways _ refl e)
  hour_by a (has_begun c) e f = absurd (both_ways _ refl e)
  hour_by a (is_whole c nx pg) e f = subst (HasHour (row gs a)) (eqb-true c m e) f.here
  hour_by a has_ended e f = absurd (both_ways _ refl e)

  pub hour_some : SomeHour gs m
  hour_some =
      let one = hour.least.1 in
      let a = one.0 in
      let st = heard_of b a in
      let same : is_from m (bound h st) ≡ true = ap (is_from m) one.2 ∙ eq-eqb m m refl in
      ⊎_elim
      (λ e. (a, one.1, hour_by a st e (truth a one.1)))
      (λ e. absurd (both_ways _ (not_from_true _ same) e))
      (or_split (has_hour m st) (not (is_from m (bound h st))) (hour.free a one.1))

  pub empty_before : (a : ℕ) → a < crew → NoneIn (row gs a) h m
  empty_before a l = none_before (row gs a) i h m (bound h (heard_of b a)) (bound_at a l) (hour.least.0 a l)

  -- a row whose statement has nothing of it has nothing up to and with it
  pub empty_with : (a : ℕ) → a < crew → has_hour m (heard_of b a) ≡ false → NoneIn (row gs a) h (suc m)
  empty_with a l e p lt lo hi = ⊎_elim
      (λ (q : hour_at (row gs a) p ≡ m). ⊎_elim
      (λ y. both_ways _ e y)
      (λ y. none_at (row gs a) i h m (bound h (heard_of b a)) not_past (bound_at a l) (hour.least.0 a l)
      (not-true (is_from m (bound h (heard_of b a))) y) p lt q)
      (or_split (has_hour m (heard_of b a)) (not (is_from m (bound h (heard_of b a)))) (hour.free a l)))
      (λ ne. empty_before a l p lt lo (omega arith))
      (cases_eq (hour_at (row gs a) p) m)

  brings : (a : ℕ) → a < crew → Brings (row gs a) i h m (heard_of b a)
  brings a l = brings_true (row gs a) i h m (heard_of b a) not_past (truth a l) (hour.least.0 a l) (hour.free a l)

  pub entries_right : (k : ℕ) → k % crew ≡ i → entry_heard b m k ≡ entry_of_all gs m k
  unfolding entry_heard
  entries_right k on = join_alike _ _ crew (λ a l. (brings a l).entries k on) ∙ sym (all_entry gs m k eight)

  pub comes_right : (k : ℕ) → k % crew ≡ i → comes_heard b m k ≡ comes_up gs m k
  unfolding comes_heard
  comes_right k on = any_alike _ _ crew (λ a l. (brings a l).comes k on) ∙ sym (all_any gs m k eight)

  -- nothing comes up between
  not_between : (g k : ℕ) → h ≤ g → g < m → comes_up gs g k ≡ true → ⊥
  not_between g k lo hi e =
      let at = comes_somewhere gs eight g k e in
      empty_before at.0 at.1 at.2.0 at.2.1 (omega (arith, at.2.2)) (omega (arith, at.2.2))

  abbrev test : ℕ → Bool
  test s = leb (from_slot b.cursor m) s && comes_heard b m (place b s)

  -- what those before the cursor have, those before the first slot that is left have
  module _ (T : ℕ → ℕ → Type 0) (before : Covers gs T i b.cursor.hour b.cursor.slot) where
    -- slots before the first that is left
    slot_has : (k : ℕ) → k % crew ≡ i → k < crew * slots → k / crew < from_slot b.cursor m → comes_up gs m k ≡ true → T m k
    slot_has k on low = pick_both (eqb h m) b.cursor.slot 0 (λ n. k / crew < n → comes_up gs m k ≡ true → T m k)
        (λ e l comes. before m k on low (inr (sym (eqb-true h m e), l)) comes)
        (λ e l comes. absurd (omega arith))

    pub slots_have : (s : ℕ) → ((r : ℕ) → r < s → test r ≡ false) → Covers gs T i m s
    slots_have s free g k on low which comes = ⊎_elim
        (λ (l : g < m). ⊎_elim (λ (l₁ : g < h). before g k on low (inl l₁) comes) (λ (ge : h ≤ g). absurd (not_between g k ge l comes)) (cases_lt g h))
        (λ q. let e : comes_up gs m k ≡ true = subst (λ n. comes_up gs n k ≡ true) q.0 comes in
        subst (λ n. T n k) (sym q.0)
        (⊎_elim
        (λ (l : k / crew < from_slot b.cursor m). slot_has k on low l e)
        (λ (ge : from_slot b.cursor m ≤ k / crew).
        let same : place b (k / crew) ≡ k = omega (arith, on, me) in
        let here : comes_heard b m (place b (k / crew)) ≡ true = subst (λ n. comes_heard b m n ≡ true) (sym same) (comes_right k on ∙ e) in
        absurd (both_ways _ (free (k / crew) q.1) (and_from (leb (from_slot b.cursor m) (k / crew)) (comes_heard b m (place b (k / crew)))
        (le-leb (from_slot b.cursor m) (k / crew) ge) here)))
        (cases_lt (k / crew) (from_slot b.cursor m))))
        which

  -- nothing comes up between the cursor and the next slot
  pub next_row : (s : ℕ) → Found test slots s → NextRow gs i b.cursor m s
  next_row s f = slots_have (λ g k. Before gs g k b.cursor.hour b.cursor.slot) (λ g k on low which comes. which) s f.first

  module _ (ts : List Told) (before : CursorIs gs ts i b.cursor.hour b.cursor.slot) where
    slots_told : (s : ℕ) → ((r : ℕ) → r < s → test r ≡ false) → CursorIs gs ts i m s
    slots_told = slots_have (λ g k. has_told ts g k ≡ true) before

    -- the next slot is told
    pub record Telling (s : ℕ) : Type 0 where
      pub right : is_right gs (record { hour = m; place = place b s; entry = entry_heard b m (place b s) }) ≡ true
      pub behind : CursorIs gs (ts ++ record { hour = m; place = place b s; entry = entry_heard b m (place b s) } ∷ []) i m (suc s)

    pub tells_right : (s : ℕ) → Found test slots s → Telling s
    tells_right s f =
        let on : place b s % crew ≡ i = omega (arith, me, lt) in
        let both = and_parts (leb (from_slot b.cursor m) s) (comes_heard b m (place b s)) f.holds in
        record {
          right = and_from (comes_up gs m (place b s)) _ (sym (comes_right (place b s) on)
              ∙ both.1) (subst (λ e. same_entry (entry_heard b m (place b s)) e ≡ true) (entries_right (place b s) on)
              (same_self (entry_heard b m (place b s))));
          behind = λ g k onk low which comes.
              let t : Told = record { hour = m; place = place b s; entry = entry_heard b m (place b s) } in
              ⊎_elim
              (λ (l : g < m). any_front _ ts (t ∷ []) (slots_told s f.first g k onk low (inl l) comes))
              (λ q. ⊎_elim
              (λ (e : k / crew ≡ s). any_last _ ts t (and_from (eqb m g) (eqb (place b s) k) (eq-eqb m g (sym q.0))
              (eq-eqb (place b s) k (omega (arith, e, onk, me)))))
              (λ ne. any_front _ ts (t ∷ []) (slots_told s f.first g k onk low (inr (q.0, omega (arith, q.1))) comes))
              (cases_eq (k / crew) s))
              which;
        }

    -- no slot is left
    pub hour_told : NoneBelow test slots → CursorIs gs ts i (suc m) 0
    hour_told free g k on low which comes = ⊎_elim
        (λ (l : g < suc m). slots_told slots free g k on low
        (⊎_elim (λ (e : g ≡ m). inr (e, omega arith)) (λ ne. inl (omega arith)) (cases_eq g m)) comes)
        (λ q. absurd (omega (arith, q.1)))
        which
