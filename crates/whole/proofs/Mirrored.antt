-- The machine that runs mirrors the protocol: each step by its cells does what the step of the records does.
use Rattle.std.proofs.Common.{◌≡◌, ℕ, suc, ◌+◌, ◌<◌, ◌≤◌, Bool, true, false, cond, eqb, leb, ltb, List, [], ◌∷◌, length, length-set, set, Some, None, Option, refl, sym, ap, ap₂, add-one, ◌∙◌, subst, arith}
use Rattle.std.proofs.lemmas.Bool.{eqb-true, eq-eqb, ne_eqb, lt-ltb, both_ways}
use Rattle.sums.specs.Cells.{slots}
use Rattle.sums.specs.Sums.{pick, or, Reading, hour_of, a_reading}
use Rattle.protocol.specs.Checkpoints.{saves, pausing}
use Rattle.protocol.specs.Choose as protocol
use Rattle.protocol.specs.Limits.{crew, half_roll, kept_pages}
use Rattle.protocol.specs.Mail.{with_letter, next_due, sends_next}
use Rattle.protocol.specs.Memory.{Memory, with_cursor, with_reader}
use Rattle.protocol.specs.Phases as phase
use Rattle.protocol.specs.Phases.{Phase, asleep, asks_root, asks_page, asks_cursor, placing, placed, ready, noting, saving, Event, wakes, comes, later, at_end, letter, root_is, page_is, cursor_is, go, Reaction}
use Rattle.protocol.specs.Reader.{begun, whole, ended, is_reading, first_open, reads_on, read_on}
use Rattle.protocol.specs.Reading.{reads, ends}
use Rattle.protocol.specs.Statements.{Letter}
use Rattle.protocol.specs.Step.{reacts}
use Rattle.protocol_world.specs.Sizes.{top, WordSized, OpenSized, MemorySized, MemoryThere, Sized, expects}
use Rattle.protocol_bridge.specs.Same.{SameMemory}
use Rattle.protocol_bridge.specs.Views.{ActSeen, EventSeen, StepSeen, Mirrors}
use Rattle.protocol_bridge.proofs.Mirrored.{Left}
use Rattle.machine.specs.Choose as cells_choose
use Rattle.machine.specs.Entry.{own}
use Rattle.machine.specs.Machine as machine
use Rattle.machine.proofs.Steadies.{steady}
use Rattle.machine.specs.Run as given
use Rattle.gauge.specs.Deeds.{Done}
use Rattle.gauge.specs.Gauge.{row_placed, row_released, read, row_ended, page_saved}
use Rattle.gauge.specs.Memory.{at, cells, limit, phase_at, index_at, telling_at, me_at, stage_at, hour_at, next_at, pos_at, paused_at, kept_at}
use Rattle.gauge.specs.Views.{next_of, phase_of, phase_in, stage_of, stage_in, memory_of}
use Rattle.gauge.specs.Deeds as deed
use Rattle.exchange.specs.Adder as exchange_adder
use Rattle.exchange.specs.Adder.{cursor_noted}
use Rattle.exchange.specs.Mail as exchange
use Rattle.store.specs.Drawers.{cursor_drawer}
use Rattle.store.specs.Records as store
use Rattle.store.specs.Records.{cursor_bytes}
use Rattle.protocol.specs.Adder.{next_slot, tells_slot}
use Rattle.protocol.specs.Bounds.{ready_hour}
use Rattle.protocol.specs.GoingOn.{may_go_on, goes_on}
use Rattle.protocol.specs.OpenHours.{raised}
use Rattle.whole.specs.Seen.{letter_seen, own_views, is_up, filled_as_said, recalls_pages}
use Rattle.whole.proofs.Cells.{sets, found, all_in}
use Rattle.whole.proofs.Heads.{mail_now, tables_now, said_now, memory_now, cell}
use Rattle.whole.proofs.Placing.{placed_leaves, released_leaves, noted_leaves}
use Rattle.whole.proofs.Choosing.{Does, itself}
use Rattle.whole.proofs.Chosen.{chooses_as}
use Rattle.whole.proofs.Does.{BootDoes}
use Rattle.whole.proofs.Recalled.{phase_number}
use Rattle.whole.proofs.Saving.{page_saved_does, save_next_does}
use Rattle.whole.proofs.Stepped.{Sound, sound_parts, usual, stepped, wakes_mirrored, root_mirrored, page_mirrored, cursor_mirrored, own_asleep, own_start_sound}
use Rattle.whole.proofs.Taking.{Taken, reads_is, news_b, reading_taken, ended_taken}
use Rattle.whole.proofs.Letters.{letter_taken}
use Rattle.whole.proofs.Bytes.{cursor_kept, cursor_fits_bytes, root_of_none, cursor_of_none}

-- What is chosen leaves the tables of a reader that reads, and its hour, as they are.
after_open : (c : Memory) (f : ℕ) → c.reader.stage ≡ begun f → Left (protocol.chooses c) → OpenSized c.reader.tables c.reader.stage
after_open c f e z = on (reads_on c.reader) z
  where
    sent : (o : Option ℕ) → Left (sends_next c o) → OpenSized c.reader.tables c.reader.stage
    sent (Some j) z = z.after.pages
    sent None z = z.after.pages

    told : (h : ℕ) (o : Option ℕ) → Left (tells_slot c h o) → OpenSized c.reader.tables c.reader.stage
    told h (Some s) z = z.after.0.pages
    told h None z = z.after.pages

    next : (o : Option ℕ) → Left (protocol.chooses_next c o) → OpenSized c.reader.tables c.reader.stage
    next (Some h) z = told h (next_slot c h) z
    next None z = sent (next_due c) (subst (λ s. Left (pick (may_go_on c s) (goes_on c) (sends_next c (next_due c)))) e z)

    on : (d : Bool) → Left (pick d (phase.does ready c phase.more) (protocol.chooses_next c (ready_hour c))) → OpenSized c.reader.tables c.reader.stage
    on true z = z.after.pages
    on false z = next (ready_hour c) z

module _ (m : List ℕ) (len : length m ≡ cells) (me : at m me_at < crew) (said : filled_as_said m ≡ true) where
  abbrev b : Memory
  b = memory_of m

  -- TOLD TO GO ON
  goes_placed : Does (phase.does placed b (phase.from (at m pos_at))) (row_placed m)
  goes_placed = let l = placed_leaves m len me said in record { phase = l.phase; memory = l.memory; said = l.said; act = refl }

  goes_released : Does (phase.does ready b (phase.let_go (at m pos_at))) (row_released m)
  goes_released = let l = released_leaves m len me said in record { phase = l.phase; memory = l.memory; said = l.said; act = refl }

  -- what was told is behind the cursor
  goes_noted : (h s : ℕ) → at m telling_at ≡ h → at m index_at ≡ s → h < top → s < slots →
      Does (phase.does ready (with_cursor b (record { hour = h; slot = suc s })) (phase.keep_cursor (record { hour = h; slot = suc s }))) (cursor_noted m)
  goes_noted h s th is lh ls =
      let fits : at m index_at + 1 < limit = omega (arith, is, ls) in
      let l = noted_leaves m len me said fits in
      let slot : at m index_at + 1 ≡ suc s = add-one (at m index_at) ∙ ap suc is in
      let cursor : record { hour = at m telling_at; slot = at m index_at + 1 } ≡ record { hour = h; slot = suc s } = ap₂ (λ x y. record { hour = x; slot = y }) th slot in
      record {
        phase = l.phase;
        memory = subst (λ k. SameMemory (with_cursor b k) (memory_of (cursor_noted m).memory)) cursor l.memory;
        said = l.said;
        act = subst (λ d. ActSeen own_views (phase.keep_cursor (record { hour = h; slot = suc s })) (machine.as_act d.deed)) (sym (ap (λ c. cond c (deed.does (set (exchange_adder.with_cursor m (at m telling_at) (at m index_at + 1)) phase_at 6) (deed.keep cursor_drawer (cursor_bytes (store.cursor (at m telling_at) (at m index_at + 1))))) (deed.does m deed.rests)) (lt-ltb _ _ fits))) (
          cursor_bytes (store.cursor (at m telling_at) (at m index_at + 1)),
          refl,
          cursor_kept (store.cursor (at m telling_at) (at m index_at + 1)) (record { hour = omega (arith, th, lh); cell = fits }) ∙ cursor,
          cursor_fits_bytes (store.cursor (at m telling_at) (at m index_at + 1)),
        );
      }

  -- WHERE NOTHING IS HALF DONE
  module _ (ph : at m phase_at ≡ 6) where
    -- it chooses
    goes_ready : Left (protocol.chooses b) → Does (protocol.chooses b) (cells_choose.chooses m)
    goes_ready z = chooses_as b m (itself m len me ph said) len me ph said z

    -- what has been taken in
    absorbs : (b' : Memory) (o : Option (List ℕ)) → Taken b' o → Left (protocol.chooses b') → Does (protocol.chooses b') (machine.absorbed m o)
    absorbs b' o t z = subst (λ x. Does (protocol.chooses b') (machine.absorbed m x)) (sym t.is) (chooses_as b' t.memory t.same t.long t.me t.ready t.said z)

    -- no reading for now
    pauses : at m stage_at ≡ 0 → MemorySized b → Left (pick (leb (b.reader.kept + half_roll) b.reader.pos) (saves b) (protocol.chooses (pausing b))) →
        Does (pick (leb (b.reader.kept + half_roll) b.reader.pos) (saves b) (protocol.chooses (pausing b))) (machine.paused m)
    unfolding sets found all_in
    pauses st sized z = on (leb (at m kept_at + half_roll) (at m pos_at)) z
      where
        xs : List (ℕ × ℕ)
        xs = (paused_at, 1) ∷ []

        on : (c : Bool) → Left (pick c (saves b) (protocol.chooses (pausing b))) →
            Does (pick c (saves b) (protocol.chooses (pausing b))) (cond c (page_saved m 0) (cells_choose.chooses (set m paused_at 1)))
        on true z = page_saved_does m len me said st sized 0 (omega arith)
        on false z = chooses_as (pausing b) (set m paused_at 1)
            (memory_now ((paused_at, 1) ∷ []) m len refl (pausing b) me refl refl refl refl refl refl refl (tables_now ((paused_at, 1) ∷ []) m len refl refl (pausing b) refl) (mail_now ((paused_at, 1) ∷ []) m len refl))
            (length-set m paused_at 1 ∙ len) (subst (λ v. v < crew) (sym (cell ((paused_at, 1) ∷ []) m len refl me_at)) me) (cell ((paused_at, 1) ∷ []) m len refl phase_at ∙ ph)
            (said_now ((paused_at, 1) ∷ []) m len refl refl said) z

    -- the row's end
    finishes : at m stage_at ≡ 0 → MemorySized b → Left (pick (ltb b.reader.kept b.reader.pos) (saves b) (protocol.chooses (ends b b.reader.stage))) →
        Does (pick (ltb b.reader.kept b.reader.pos) (saves b) (protocol.chooses (ends b b.reader.stage))) (machine.finished m)
    finishes st sized z = on (ltb (at m kept_at) (at m pos_at)) z
      where
        on : (c : Bool) → Left (pick c (saves b) (protocol.chooses (ends b b.reader.stage))) →
            Does (pick c (saves b) (protocol.chooses (ends b b.reader.stage))) (cond c (page_saved m 0) (cells_choose.chooses (row_ended m)))
        on true z = page_saved_does m len me said st sized 0 (omega arith)
        on false z = absorbs (ends b b.reader.stage) (Some (row_ended m)) (ended_taken m len me ph said st sized) z

    -- a letter
    hears : (j : ℕ) (l : Letter) (bs : List ℕ) → j < crew → WordSized l.says → letter_seen bs ≡ Some l → Left (protocol.chooses (with_letter b j l)) →
        Does (protocol.chooses (with_letter b j l)) (machine.absorbed m (exchange.with_letter m j bs))
    hears j l bs lj z seen left = absorbs (with_letter b j l) (exchange.with_letter m j bs) (letter_taken m len me ph said j lj l bs z seen) left

    -- a reading
    reads_one : (st : at m stage_at ≡ 0) (sized : MemorySized b) (r : Reading) → a_reading r ≡ true → at m hour_at ≤ hour_of r → Left (protocol.chooses (reads b b.reader.stage r)) →
        Does (protocol.chooses (reads b b.reader.stage r)) (machine.absorbed m (read m r.time r.key r.value))
    reads_one st sized r ok low z =
        absorbs (reads b b.reader.stage r) (read m r.time r.key r.value)
        (reading_taken m len me ph said st sized r ok low
        (λ t. after_open (with_reader b (read_on b.reader (raised (at m hour_at) (hour_of r)) r)) (raised (at m hour_at) (hour_of r)) refl
        (subst (λ x. Left (protocol.chooses x)) (reads_is m len me ph said st sized r ok low ∙ ap (λ c. pick c (with_reader b (read_on b.reader (raised (at m hour_at) (hour_of r)) r)) (news_b m len me ph said st sized r ok low)) t) z)))
        z

-- nothing that is chosen recalls a page
chooses_up : (c : Memory) → recalls_pages (protocol.chooses c).phase ≡ false
chooses_up c = on (reads_on c.reader)
  where
    sent : (o : Option ℕ) → recalls_pages (sends_next c o).phase ≡ false
    sent (Some j) = refl
    sent None = refl

    went : (d : Bool) → recalls_pages (pick d (goes_on c) (sends_next c (next_due c))).phase ≡ false
    went true = refl
    went false = sent (next_due c)

    told : (h : ℕ) (o : Option ℕ) → recalls_pages (tells_slot c h o).phase ≡ false
    told h (Some s) = refl
    told h None = refl

    next : (o : Option ℕ) → recalls_pages (protocol.chooses_next c o).phase ≡ false
    next (Some h) = told h (next_slot c h)
    next None = went (may_go_on c c.reader.stage)

    on : (d : Bool) → recalls_pages (pick d (phase.does ready c phase.more) (protocol.chooses_next c (ready_hour c))).phase ≡ false
    on true = refl
    on false = next (ready_hour c)

up_pick : (d : Bool) (r s : Reaction) → recalls_pages r.phase ≡ false → recalls_pages s.phase ≡ false → recalls_pages (pick d r s).phase ≡ false
up_pick true r s a b = a
up_pick false r s a b = b

-- a stage that reads has its number
reading_number : (t h x : ℕ) → is_reading (stage_of t h x) ≡ true → t ≡ 0
reading_number t h x e = on (eqb t 0) refl e
  where
    on : (a : Bool) → eqb t 0 ≡ a → is_reading (cond a (begun h) (cond (eqb t 1) (whole h (next_of x)) ended)) ≡ true → t ≡ 0
    on true k e = eqb-true t 0 k
    on false k e = absurd (both_ways _ (other (eqb t 1)) e)
      where
        other : (c : Bool) → is_reading (cond c (whole h (next_of x)) ended) ≡ false
        other true = refl
        other false = refl

-- what a phase is about
abbrev telling_of : Phase → ℕ
telling_of (noting h s) = h
telling_of p = 0

abbrev slot_of : Phase → ℕ
slot_of (noting h s) = s
slot_of (saving q) = q
slot_of p = 0

module _ (m : List ℕ) (ok : Sound m) where
  -- one of the crew is told of it
  told : at m me_at < crew → (ev : given.Event) → machine.wakes_up ev ≡ false → machine.reacts m ev ≡ machine.hears m ev
  told me ev e = ap (λ c. cond (or c (ltb (at m me_at) crew)) (machine.hears m ev) (deed.does m deed.rests)) e
      ∙ ap (λ c. cond c (machine.hears m ev) (deed.does m deed.rests)) (lt-ltb _ _ me)

  up : (p : Phase) → phase_in m ≡ p → is_up p ≡ true → filled_as_said m ≡ true
  up p e u = ok.said (ap is_up e ∙ u)

  -- told to go on, by the phase
  go_does : (p : Phase) → phase_in m ≡ p → Sized p (memory_of m) go → BootDoes (reacts p (memory_of m) go) (machine.went_on m)
  go_does placing e z =
      let n : at m phase_at ≡ 4 = phase_number m placing e (omega arith) in
      let d = goes_placed m ok.long z.before.me (up placing e refl) in
      simp (eq-eqb (at m phase_at) 4 n) (usual (reacts placing (memory_of m) go) _ d refl)
  go_does placed e z =
      let n : at m phase_at ≡ 5 = phase_number m placed e (omega arith) in
      let d = goes_released m ok.long z.before.me (up placed e refl) in
      simp (ne_eqb (at m phase_at) 4 (λ y. omega (arith, y, n)), eq-eqb (at m phase_at) 5 n) (usual (reacts placed (memory_of m) go) _ d refl)
  go_does ready e z =
      let n : at m phase_at ≡ 6 = phase_number m ready e (omega arith) in
      let d = goes_ready m ok.long z.before.me (up ready e refl) n (record { after = z.after; act = z.act }) in
      simp (ne_eqb (at m phase_at) 4 (λ y. omega (arith, y, n)), ne_eqb (at m phase_at) 5 (λ y. omega (arith, y, n)), ne_eqb (at m phase_at) 7 (λ y. omega (arith, y, n)), ne_eqb (at m phase_at) 8 (λ y. omega (arith, y, n)), eq-eqb (at m phase_at) 6 n)
      (usual (protocol.chooses (memory_of m)) _ d (chooses_up (memory_of m)))
  go_does (noting h s) e z =
      let n : at m phase_at ≡ 7 = phase_number m (noting h s) e (omega arith) in
      let p : phase_of 7 (at m index_at) (at m telling_at) ≡ noting h s = subst (λ v. phase_of v (at m index_at) (at m telling_at) ≡ noting h s) n e in
      let d = goes_noted m ok.long z.before.0.me (up (noting h s) e refl) h s (ap telling_of p) (ap slot_of p) z.before.1 z.before.2 in
      simp (ne_eqb (at m phase_at) 4 (λ y. omega (arith, y, n)), ne_eqb (at m phase_at) 5 (λ y. omega (arith, y, n)), eq-eqb (at m phase_at) 7 n)
      (usual (reacts (noting h s) (memory_of m) go) _ d refl)
  go_does (saving q) e z =
      let n : at m phase_at ≡ 8 = phase_number m (saving q) e (omega arith) in
      let p : phase_of 8 (at m index_at) (at m telling_at) ≡ saving q = subst (λ v. phase_of v (at m index_at) (at m telling_at) ≡ saving q) n e in
      let st : at m stage_at ≡ 0 = reading_number (at m stage_at) (at m hour_at) (at m next_at) z.before.2 in
      let d = save_next_does m ok.long z.before.0.me (up (saving q) e refl) st z.before.0 q z.before.1 (ap slot_of p) in
      simp (ne_eqb (at m phase_at) 4 (λ y. omega (arith, y, n)), ne_eqb (at m phase_at) 5 (λ y. omega (arith, y, n)), ne_eqb (at m phase_at) 7 (λ y. omega (arith, y, n)), eq-eqb (at m phase_at) 8 n)
      (usual (reacts (saving q) (memory_of m) go) _ d (up_pick (ltb (suc q) kept_pages) _ _ refl refl))
  go_does p e z = absurd (both_ways _ refl z.expected)

  -- an event of one that has booted
  at_ready : (d : Done) → at m phase_at ≡ 6 → machine.while_ready m d ≡ d
  at_ready d n = ap (λ c. cond c d (deed.does m deed.rests)) (eq-eqb (at m phase_at) 6 n)

  -- a reading
  comes_does : (r : Reading) (p : Phase) → phase_in m ≡ p → Sized p (memory_of m) (comes r) → BootDoes (reacts p (memory_of m) (comes r)) (machine.hears m (given.comes r.time r.key r.value))
  comes_does r ready e z =
      let n : at m phase_at ≡ 6 = phase_number m ready e (omega arith) in
      let st : at m stage_at ≡ 0 = reading_number (at m stage_at) (at m hour_at) (at m next_at) z.timely.0 in
      let stage : stage_in m ≡ begun (at m hour_at) = ap (λ t. stage_of t (at m hour_at) (at m next_at)) st in
      let low : at m hour_at ≤ hour_of r = subst (λ s. first_open s ≤ hour_of r) stage z.timely.1 in
      let d = reads_one m ok.long z.before.me (up ready e refl) n st z.before r z.event low (record { after = z.after; act = z.act }) in
      subst (BootDoes (reacts ready (memory_of m) (comes r))) (sym (at_ready (machine.absorbed m (read m r.time r.key r.value)) n))
      (usual (reacts ready (memory_of m) (comes r)) _ d (chooses_up (reads (memory_of m) (memory_of m).reader.stage r)))
  comes_does r p e z = absurd (both_ways _ refl z.expected)

  -- no reading for now
  later_does : (p : Phase) → phase_in m ≡ p → Sized p (memory_of m) later → BootDoes (reacts p (memory_of m) later) (machine.hears m given.later)
  later_does ready e z =
      let n : at m phase_at ≡ 6 = phase_number m ready e (omega arith) in
      let st : at m stage_at ≡ 0 = reading_number (at m stage_at) (at m hour_at) (at m next_at) z.timely in
      let d = pauses m ok.long z.before.me (up ready e refl) n st z.before (record { after = z.after; act = z.act }) in
      subst (BootDoes (reacts ready (memory_of m) later)) (sym (at_ready (machine.paused m) n))
      (usual (reacts ready (memory_of m) later) _ d (up_pick (leb (at m kept_at + half_roll) (at m pos_at)) _ _ refl (chooses_up (pausing (memory_of m)))))
  later_does p e z = absurd (both_ways _ refl z.expected)

  -- the row's end
  end_does : (p : Phase) → phase_in m ≡ p → Sized p (memory_of m) at_end → BootDoes (reacts p (memory_of m) at_end) (machine.hears m given.ends)
  end_does ready e z =
      let n : at m phase_at ≡ 6 = phase_number m ready e (omega arith) in
      let st : at m stage_at ≡ 0 = reading_number (at m stage_at) (at m hour_at) (at m next_at) z.timely in
      let d = finishes m ok.long z.before.me (up ready e refl) n st z.before (record { after = z.after; act = z.act }) in
      subst (BootDoes (reacts ready (memory_of m) at_end)) (sym (at_ready (machine.finished m) n))
      (usual (reacts ready (memory_of m) at_end) _ d (up_pick (ltb (at m kept_at) (at m pos_at)) _ _ refl (chooses_up (ends (memory_of m) (memory_of m).reader.stage))))
  end_does p e z = absurd (both_ways _ refl z.expected)

  -- a letter
  letter_does : (j : ℕ) (l : Letter) (bs : List ℕ) → letter_seen bs ≡ Some l → (p : Phase) → phase_in m ≡ p → Sized p (memory_of m) (letter j l) →
      BootDoes (reacts p (memory_of m) (letter j l)) (machine.hears m (given.letter j bs))
  letter_does j l bs seen ready e z =
      let n : at m phase_at ≡ 6 = phase_number m ready e (omega arith) in
      let d = hears m ok.long z.before.me (up ready e refl) n j l bs z.event.0 z.event.2 seen (record { after = z.after; act = z.act }) in
      subst (BootDoes (reacts ready (memory_of m) (letter j l))) (sym (at_ready (machine.absorbed m (exchange.with_letter m j bs)) n))
      (usual (reacts ready (memory_of m) (letter j l)) _ d (chooses_up (with_letter (memory_of m) j l)))
  letter_does j l bs seen p e z = absurd (both_ways _ refl z.expected)

-- one that hears of an event, and does not wake by it, is one of the crew
crew_of : (p : Phase) (b : Memory) (h : Event) → expects asleep h ≡ false → expects p h ≡ true → MemoryThere p b → b.me < crew
crew_of asleep c h sl e t = absurd (both_ways _ sl e)
crew_of asks_root c h sl e t = t.me
crew_of (asks_page q) c h sl e t = t.0.me
crew_of asks_cursor c h sl e t = t.me
crew_of placing c h sl e t = t.me
crew_of placed c h sl e t = t.me
crew_of ready c h sl e t = t.me
crew_of (noting h₀ s) c h sl e t = t.0.me
crew_of (saving q) c h sl e t = t.0.me

module _ (m : List ℕ) (ok : Sound m) where
  abbrev Seen : Event → given.Event → Type 0
  Seen h ev = StepSeen own_views (reacts (phase_in m) (memory_of m) h) (own.step m ev)

  -- an event of one that has booted
  heard : (h : Event) (ev : given.Event) → machine.wakes_up ev ≡ false → expects asleep h ≡ false → Sized (phase_in m) (memory_of m) h →
      BootDoes (reacts (phase_in m) (memory_of m) h) (machine.hears m ev) → Seen h ev
  unfolding own
  heard h ev w sl z d =
      stepped steady m ok (reacts (phase_in m) (memory_of m) h) ev
      (subst (BootDoes (reacts (phase_in m) (memory_of m) h)) (sym (told m ok (crew_of (phase_in m) (memory_of m) h sl z.expected z.before) ev w)) d)

  sees : (h : Event) (ev : given.Event) → EventSeen own_views h ev → Sized (phase_in m) (memory_of m) h → Seen h ev
  unfolding own
  sees (wakes i) ev e z = wakes_mirrored steady m ok i ev e z
  sees (root_is r) ev e z = root_mirrored steady m ok r ev e z
  sees (page_is o) ev e z = page_mirrored steady m ok o ev e z
  sees (cursor_is c) ev e z = cursor_mirrored steady m ok c ev e z
  sees (comes r) ev e z = subst (Seen (comes r)) (sym e) (heard (comes r) (given.comes r.time r.key r.value) refl refl z (comes_does m ok r (phase_in m) refl z))
  sees later ev e z = subst (Seen later) (sym e) (heard later given.later refl refl z (later_does m ok (phase_in m) refl z))
  sees at_end ev e z = subst (Seen at_end) (sym e) (heard at_end given.ends refl refl z (end_does m ok (phase_in m) refl z))
  sees (letter j l) ev e z =
      subst (Seen (letter j l)) (sym e.1) (heard (letter j l) (given.letter j e.0) refl refl z (letter_does m ok j l e.0 e.2 (phase_in m) refl z))
  sees go ev e z = subst (Seen go) (sym e) (heard go given.next refl refl z (go_does m ok (phase_in m) refl z))

-- THE MACHINE MIRRORS THE PROTOCOL
pub own_mirrors : Mirrors own_views own
own_mirrors = record {
  start = own_asleep;
  start_sound = own_start_sound;
  step = λ m h ev s e z. sees m (sound_parts m s) h ev e z;
  no_root = root_of_none;
  no_cursor = cursor_of_none;
}
