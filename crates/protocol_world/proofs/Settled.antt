-- A settled world, where all rest and no letter is under way, has told all.
use Rattle.std.proofs.Common.{◌≡◌, ℕ, zero, suc, ◌*◌, ◌%◌, ◌<◌, ◌≤◌, Bool, true, false, eqb, ltb, [], ◌∷◌, ◌++◌, length, get_or, Some, None, Option, sym, refl, ap, ap₂, ◌∙◌, subst, inl, inr, ⊎_elim, arith}
use Rattle.std.proofs.lemmas.Bool.{both_ways, cases_lt, eqb-true, eqb-false, eq-eqb, not_from_false, and_from, lt-ltb, le-leb, cases_Bool}
use Rattle.sums.specs.Cells.{slots}
use Rattle.sums.specs.Parts.{no_reading}
use Rattle.sums.specs.Sums.{pick, every, belongs, Reading, Gauges, hour_of, all_of}
use Rattle.sums.proofs.Anys.{any_at, or_left, or_right}
use Rattle.sums.proofs.Everys.{every_append, every_places}
use Rattle.sums.proofs.Picks.{pick_both}
use Rattle.machine.specs.Run.{nth_row}
use Rattle.protocol.specs.Bounds.{Bound, unknown, from_hour, never, bound, next_bound, lower, least, lets, is_from, let_hour, ready_hour}
use Rattle.protocol.specs.GoingOn.{may_go_on}
use Rattle.protocol.specs.Limits.{crew}
use Rattle.protocol.specs.Memory.{Memory, heard_of, passed_of}
use Rattle.protocol.specs.Phases.{Phase, ready, Event}
use Rattle.protocol.specs.Reader.{Stage, begun, whole, ended, is_reading}
use Rattle.protocol.specs.Statements.{statement, said_of}
use Rattle.protocol.proofs.Choosing.{Quiet}
use Rattle.protocol.proofs.Least.{LeastIs, least_is, NotBelow}
use Rattle.protocol.proofs.Searches.{all_from, any_here}
use Rattle.protocol.proofs.Tables.{hour_at, row_any}
use Rattle.protocol_world.specs.Enough.{Settled}
use Rattle.protocol_world.specs.Wall.{has_told, all_told}
use Rattle.protocol_world.specs.Worlds.{World}
use Rattle.protocol_world.proofs.AllRows.{all_any}
use Rattle.protocol_world.proofs.Facts.{HasHour}
use Rattle.protocol_world.proofs.Invariant.{came, queue, row, ReaderIs, MemoryIs, AtWork, Awaits, is_resting, is_pausing}
use Rattle.protocol_world.proofs.Readers.{RowFine}
use Rattle.protocol_world.proofs.SyncRuns.{InStep}
use Rattle.protocol_world.proofs.Syncs.{is_up, Current, holds, latest, latest_none, any_woke, woke_none, Sync, busy, current, lost}

-- bounds that are the same have the same least
least_alike : (f g : ℕ → Bound) (n : ℕ) → ((i : ℕ) → i < n → f i ≡ g i) → least f n ≡ least g n
unfolding least
least_alike f g zero h = refl
least_alike f g (suc n) h = ap₂ lower (least_alike f g n (λ i l. h i (omega arith))) (h n (omega arith))

-- what holds of all of each row holds of all
every_row : (f : Reading → Bool) (gs : Gauges) → ((i : ℕ) → i < length gs → every f (nth_row gs i) ≡ true) → every f (all_of gs) ≡ true
unfolding every all_of nth_row
every_row f [] h = refl
every_row f (rs ∷ gs) h = every_append f rs (all_of gs) (h zero (omega arith)) (every_row f gs (λ i lt. h (suc i) (omega arith)))

-- when a reader's hour at hand is
abbrev pub at_hand : Stage → Bound
at_hand (begun c) = unknown
at_hand (whole c nx) = from_hour c
at_hand ended = never

-- a reading of an hour that each adder has passed is told
pub told_at : (gs : Gauges) (eight : length gs ≡ crew) (fine : (i : ℕ) → i < crew → RowFine (row gs i)) (w : World) (h : InStep gs eight fine w) →
    ((i : ℕ) → i < crew → (p : ℕ) → p < length (row gs i) → (get_or (row gs i) p no_reading).key < crew * slots) →
    (i : ℕ) → i < crew → (p : ℕ) → p < length (row gs i) → ((j : ℕ) → j < crew → hour_at (row gs i) p < (w.node j).cursor.hour) →
    has_told w.told (hour_at (row gs i) p) (get_or (row gs i) p no_reading).key ≡ true
told_at gs eight fine w h keys i li p lt passed =
    let k : ℕ = (get_or (row gs i) p no_reading).key in
    let g : ℕ = hour_at (row gs i) p in
    let lj : k % crew < crew = omega arith in
    (h.good.own (k % crew) lj).cursor g k refl (keys i li p lt) (inl (passed (k % crew) lj))
    (all_any gs g k eight ∙ any_here (λ a. row_any (row gs a) g k) crew i li
    (any_at (belongs g k) (row gs i) p no_reading lt (and_from (eqb g g) (eqb k k) (eq-eqb g g refl) (eq-eqb k k refl))))

module _ (gs : Gauges) (eight : length gs ≡ crew) (fine : (i : ℕ) → i < crew → RowFine (row gs i)) (w : World) (h : InStep gs eight fine w)
    (done : Settled w) where
  abbrev b : ℕ → Memory
  b i = (w.node i).memory

  pub record Rested (i : ℕ) : Type 0 where
    pub up : (w.node i).phase ≡ ready
    memory : MemoryIs (row gs i) i (w.node i).root (w.node i).cursor (b i)
    pub quiet : Quiet (b i)
    work : AtWork gs w.told i (w.node i)

  rested_on : (i : ℕ) → i < crew → (p : Phase) (o : Option Event) → (w.node i).phase ≡ p → o ≡ None → Awaits gs w.told i (w.node i) p o → Rested i
  rested_on i lt _ _ e q (is_resting k quiet) = record { up = e; memory = k.memory; quiet = quiet; work = k }
  rested_on i lt _ _ e q (is_pausing k r at) = absurd (both_ways _ (done.idle i lt) r)
  rested_on i lt p (Some ev) e q k = cc

  pub rested : (i : ℕ) → i < crew → Rested i
  rested i lt = rested_on i lt _ _ refl (done.rest i lt) (h.good.own i lt).awaits

  pub rested_memory : (i : ℕ) → i < crew → AtWork gs w.told i (w.node i)
  rested_memory i lt = (rested i lt).work

  -- WHAT EACH HOLDS IS WHAT THE OTHER SAYS NOW
  empty : (i j : ℕ) → i < crew → j < crew → queue w i j ≡ []
  empty i j li lj = ap₂ (λ o ls. came i o ++ ls) (done.rest j lj) (done.wires i j li lj)

  in_step : (i j : ℕ) → i < crew → j < crew → Sync gs i j (w.node i) (w.node j) (queue w i j) (queue w j i) →
      Current gs j (holds (b j) i) (b i).reader (b i).cursor.hour
  in_step i j li lj (busy (inl d)) = absurd (both_ways _ d (ap is_up (rested i li).up))
  in_step i j li lj (busy (inr e)) = absurd (both_ways _ ((rested i li).quiet.said j lj) e)
  in_step i j li lj (current e) = subst (λ d. Current gs j d (b i).reader (b i).cursor.hour) (ap (latest (holds (b j) i)) (empty i j li lj)
      ∙ latest_none (holds (b j) i)) e
  in_step i j li lj (lost (inl d)) = absurd (both_ways _ d (ap is_up (rested j lj).up))
  in_step i j li lj (lost (inr (inl e))) = absurd (both_ways _ ((rested j lj).quiet.said i li) ((rested j lj).memory.flags i e))
  in_step i j li lj (lost (inr (inr e))) = absurd (both_ways _ woke_none (sym (ap any_woke (empty j i lj li)) ∙ e))

  says_step : (i j : ℕ) → i < crew → Current gs j (holds (b j) i) (b i).reader (b i).cursor.hour → (b j).mail.word i ≡ statement (b i).reader j
  says_step i j li c = ⊎_elim (λ r. absurd (both_ways _ (rested i li).quiet.idle r)) (λ e. e) c.0

  event_now : (i j : ℕ) → i < crew → j < crew → heard_of (b j) i ≡ statement (b i).reader j
  event_now i j li lj = pick_both (eqb i (b j).me) (statement (b j).reader (b j).me) ((b j).mail.word i) (λ s. s ≡ statement (b i).reader j)
      (λ e. let me : (b j).me ≡ j = (rested j lj).memory.me in
      let same : i ≡ j = eqb-true i (b j).me e ∙ me in
      ap (statement (b j).reader) me ∙ ap (λ k. statement (b k).reader j) (sym same))
      (λ e. says_step i j li (in_step i j li lj (h.synced i j li lj (λ q. eqb-false i (b j).me e (q ∙ sym (rested j lj).memory.me)))))

  -- what a reader knows of an adder: that it has passed an hour of the reader's row, if it has
  passed_now : (i j m : ℕ) → i < crew → j < crew → HasHour (row gs i) m → m < (b j).cursor.hour → m < passed_of (b i) j
  passed_now i j m li lj at lt = pick_both (eqb j (b i).me) (b i).cursor.hour ((b i).mail.passed j) (λ n. m < n)
      (λ e. subst (λ k. m < (b k).cursor.hour) (eqb-true j (b i).me e ∙ (rested i li).memory.me) lt)
      (λ e. ⊎_elim
      (λ (l : m < (b i).mail.passed j). l)
      (λ (ge : (b i).mail.passed j ≤ m).
      let c = in_step j i lj li (h.synced j i lj li (λ q. eqb-false j (b i).me e (q ∙ sym (rested i li).memory.me))) in
      absurd (c.1 at.0 at.1 (omega (arith, at.2)) (omega (arith, at.2))))
      (cases_lt m ((b i).mail.passed j)))

  -- NO HOUR IS AT HAND
  abbrev hand : ℕ → Bound
  hand i = at_hand (b i).reader.stage

  module _ (m : ℕ) (least_m : LeastIs hand crew (from_hour m)) where
    module _ (j : ℕ) (lj : j < crew) (low : (b j).cursor.hour ≤ m) where
      abbrev H : ℕ
      H = (b j).cursor.hour

      same_bound : (i : ℕ) (s : Stage) → NotBelow m (at_hand s) → bound H (said_of s (b i).reader.tables j) ≡ at_hand s
      same_bound i (begun c) x = absurd x
      same_bound i (whole c nx) x = ap (λ t. pick t (from_hour c) (next_bound H nx)) (le-leb H c (omega arith))
      same_bound i ended x = refl

      bound_now : (i : ℕ) → i < crew → bound H (heard_of (b j) i) ≡ hand i
      bound_now i li = ap (bound H) (event_now i j li lj) ∙ same_bound i (b i).reader.stage (least_m.0 i li)

      let_by : (i : ℕ) (s : Stage) → NotBelow m (at_hand s) → lets H m (said_of s (b i).reader.tables j) ≡ true
      let_by i (begun c) x = absurd x
      let_by i (whole c nx) x = ⊎_elim
          (λ e. or_left (eqb c m) _ e)
          (λ e. or_right (eqb c m) _ (not_from_false _ (ap (is_from m) (same_bound i (whole c nx) x) ∙ e)))
          (cases_Bool (eqb c m))
      let_by i ended x = refl

      let_now : (i : ℕ) → i < crew → lets H m (heard_of (b j) i) ≡ true
      let_now i li = ap (lets H m) (event_now i j li lj) ∙ let_by i (b i).reader.stage (least_m.0 i li)

      can_tell : least hand crew ≡ from_hour m → ready_hour (b j) ≡ Some m
      unfolding ready_hour
      can_tell e =
          ap (let_hour (b j)) (least_alike (λ i. bound H (heard_of (b j) i)) hand crew bound_now ∙ e)
          ∙ ap (λ t. pick t (Some m) None) (all_from (λ i. lets H m (heard_of (b j) i)) crew let_now)

    -- each adder has passed it, so its reader goes on
    not_at_hand : least hand crew ≡ from_hour m → ⊥
    not_at_hand e =
        let one = least_m.1 in
        stays one.0 one.1 (b one.0).reader.stage one.2 (rested one.0 one.1).memory.reader (rested one.0 one.1).quiet.stays
      where
        passed : (j : ℕ) → j < crew → m < (b j).cursor.hour
        passed j lj = ⊎_elim
            (λ (l : m < (b j).cursor.hour). l)
            (λ (le : (b j).cursor.hour ≤ m). let waits : ready_hour (b j) ≡ None = (rested j lj).quiet.waits in let tells : ready_hour
            (b j) ≡ Some m = can_tell j lj le e in cc)
            (cases_lt m (b j).cursor.hour)

        stays : (i : ℕ) → i < crew → (s : Stage) → at_hand s ≡ from_hour m → ReaderIs (row gs i) (b i).reader.base (b i).reader.pos (b i).reader.tables s →
            may_go_on (b i) s ≡ false → ⊥
        stays i li (begun c) q r no_go = cc
        stays i li (whole c nx) q r no_go =
            let same : c ≡ m = cc in
            both_ways _ no_go (all_from (λ j. ltb c (passed_of (b i) j)) crew
            (λ j lj. lt-ltb c (passed_of (b i) j) (passed_now i j c li lj r.1.here (omega (arith, same, passed j lj)))))
        stays i li ended q r no_go = cc

  pub all_ended : (i : ℕ) → i < crew → (b i).reader.stage ≡ ended
  all_ended i lt = by_least (least hand crew) refl (least_is hand crew)
    where
      no_hand : (s : Stage) → at_hand s ≡ unknown → is_reading s ≡ false → ⊥
      no_hand (begun c) e r = both_ways _ r refl
      no_hand (whole c nx) e r = cc
      no_hand ended e r = cc

      is_ended : (s : Stage) → at_hand s ≡ never → s ≡ ended
      is_ended (begun c) e = cc
      is_ended (whole c nx) e = cc
      is_ended ended e = refl

      by_least : (d : Bound) → least hand crew ≡ d → LeastIs hand crew d → (b i).reader.stage ≡ ended
      by_least unknown e k = absurd (no_hand (b k.0).reader.stage k.2 (rested k.0 k.1).quiet.idle)
      by_least (from_hour m) e k = absurd (not_at_hand m k e)
      by_least never e k = is_ended (b i).reader.stage (k i lt)

  -- ALL IS TOLD
  all_read : (i : ℕ) → i < crew → (p : ℕ) → p < length (row gs i) → hour_at (row gs i) p < (b i).reader.base
  all_read i lt p lp =
      let r : ReaderIs (row gs i) (b i).reader.base (b i).reader.pos (b i).reader.tables ended =
      subst (ReaderIs (row gs i) (b i).reader.base (b i).reader.pos (b i).reader.tables) (all_ended i lt) (rested i lt).memory.reader in
      r.1 p lp

  reading_told : ((i : ℕ) → i < crew → (p : ℕ) → p < length (row gs i) → (get_or (row gs i) p no_reading).key < crew * slots) →
      (i : ℕ) → i < crew → (p : ℕ) → p < length (row gs i) → has_told w.told (hour_at (row gs i) p) (get_or (row gs i) p no_reading).key ≡ true
  reading_told keys i li p lt = told_at gs eight fine w h keys i li p lt (λ j lj. (h.good.cross.knows i li).behind j lj p lt (all_read i li p lt))

  pub settled_tells : ((i : ℕ) → i < crew → (p : ℕ) → p < length (row gs i) → (get_or (row gs i) p no_reading).key < crew * slots) → all_told gs w.told ≡ true
  settled_tells keys =
      every_row (λ r. has_told w.told (hour_of r) r.key) gs (λ i lt. every_places (λ r. has_told w.told (hour_of r) r.key) (nth_row gs i) no_reading
      (reading_told keys i (omega (arith, eight))))
