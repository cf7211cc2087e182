-- Each act but resting leaves less to do, and so does each letter that comes; a poke and a rest leave as much.
use Rattle.std.proofs.Common.{◌≡◌, ℕ, suc, ◌+◌, ◌<◌, ◌≤◌, ◌⊎◌, Bool, true, false, not, ◌&&◌, eqb, leb, ltb, List, [], ◌∷◌, ◌++◌, length, get_or, Some, None, Option, sym, refl, ap, ap₂, ◌∙◌, subst, inl, inr, ⊎_elim, arith}
use Rattle.std.proofs.lemmas.Bool.{ltb-true, ltb-false, both_ways, cases_eq, eq-eqb, ne_eqb, not_from_false, and_from, and_parts, lt-ltb, le-leb, leb-true}
use Rattle.sums.specs.Cells.{slots}
use Rattle.sums.specs.Parts.{no_reading}
use Rattle.sums.specs.Sums.{pick, Reading, Gauges, hour_of}
use Rattle.sums.proofs.Picks.{pick_both, pick_true}
use Rattle.machine.specs.Run.{nth_row}
use Rattle.protocol.specs.Adder.{passing, from_slot, comes_heard, place}
use Rattle.protocol.specs.Boot.{booted_memory, rooted, paged}
use Rattle.protocol.specs.Checkpoints.{page_kept, saved, saved_root}
use Rattle.protocol.specs.Choose.{chooses}
use Rattle.protocol.specs.GoingOn.{goes_on, may_go_on}
use Rattle.protocol.specs.Limits.{late, kept_pages, crew, half_roll}
use Rattle.protocol.specs.Mail.{with_letter, with_sent, unpaused, letter_to}
use Rattle.protocol.specs.Memory.{Memory, with_cursor, new_memory, with_reader}
use Rattle.protocol.specs.OpenHours.{oldest}
use Rattle.protocol.specs.Phases.{Phase, asleep, asks_root, asks_page, asks_cursor, placing, placed, ready, noting, saving, Event, later, at_end, letter, root_is, page_is, cursor_is, go, does, rests}
use Rattle.protocol.specs.Reader.{first_open, reader_at, Stage, begun, whole, ended, is_reading, PageSet, no_set, first_set, second_set, other_set}
use Rattle.protocol.specs.Reading.{reads_by, ends_by, reads, ends}
use Rattle.protocol.specs.Searches.{put}
use Rattle.protocol.specs.Statements.{Letter}
use Rattle.protocol.proofs.Choosing.{on_chooses, slot_left, HourIs}
use Rattle.protocol.proofs.Puts.{put_same}
use Rattle.protocol.proofs.Searches.{Found}
use Rattle.protocol_world.specs.Runs.{with_bringing, poked, poked_by}
use Rattle.protocol_world.specs.Worlds.{Node, World, with_node, after, reading_next, reading_from, letting_go, with_root, with_kept_page, with_drawer, with_sending, done, told_next, one_step}
use Rattle.protocol_world.proofs.Invariant.{MaySave, ReaderIs, row, hours, SomeHour, Knows, AtWork, Awaits, is_waking, is_asking_root, is_asking_page, is_asking_cursor, is_placing, is_placed, is_noting, is_saving, is_going, is_reading_one, is_full, is_ending, is_given, is_resting, is_pausing, Good}
use Rattle.protocol_world.proofs.Ranks.{mark, stage_rank, letter_rank, letters_rank, letters_more, letters_first, asked, pending_rank, reader_rank, memory_rank, node_rank, rank_by, rank, set_rank, wire_rank}
use Rattle.protocol_world.proofs.Readers.{RowFine}
use Rattle.protocol_world.proofs.Choices.{truth}
use Rattle.protocol_world.proofs.Events.{taken_room, Taken, taken_good, takes_reading, takes_end, takes_letter_in}
use Rattle.protocol_world.proofs.Telling.{hour_some, not_past}
use Rattle.protocol_world.proofs.TwoSteps.{two_steps, going_work}
use Rattle.protocol_world.proofs.Dues.{Counts, due_all, due_letter, due_most, due_passing, due_sent}

module _ (gs : Gauges) (eight : length gs ≡ crew) (fine : (i : ℕ) → i < crew → RowFine (row gs i)) (ahead : ℕ → ℕ) (counts : Counts gs ahead) where
  -- an hour of some row is passed
  passes_less : (h m : ℕ) → h ≤ m → SomeHour gs m → ahead (suc m) < ahead h
  passes_less h m le some = ⊎_elim
      (λ (e : h ≡ m). subst (λ k. ahead (suc m) < ahead k) (sym e) (counts.next m some))
      (λ ne. omega (arith, counts.next m some, counts.past h m (omega arith) some))
      (cases_eq h m)

  abbrev pub long : ℕ → ℕ
  long i = length (row gs i)

  abbrev pub left : World → ℕ
  left w = rank ahead long w

  module _ (w : World) (i : ℕ) (lt : i < crew) (g : Good gs w) where
    abbrev x : Node
    x = w.node i

    abbrev R : Node → ℕ
    R y = node_rank ahead (long i) y

    abbrev L : ℕ
    L = long i

    -- less is left, or it rests, with nothing to read, and no more is left
    abbrev pub Outcome : World → Type 0
    Outcome v = (left v < left w) ⊎ (((v.node i).pending ≡ None) × (is_reading (v.node i).memory.reader.stage ≡ false) × (left v ≤ left w))

    less : (y : Node) (v : World) → v.node ≡ put w.node i y → v.wire ≡ w.wire → R y < R x → left v < left w
    less y v e₁ e₂ l = omega (arith, set_rank ahead long w i lt y v e₁ e₂)

    no_more : (y : Node) (v : World) → v.node ≡ put w.node i y → v.wire ≡ w.wire → R y ≤ R x → left v ≤ left w
    no_more y v e₁ e₂ l = omega (arith, set_rank ahead long w i lt y v e₁ e₂)

    -- TOLD TO GO ON
    module _ (p : x.phase ≡ ready) (at : x.pending ≡ Some go) (k : AtWork gs w.told i x)
        (reading : is_reading x.memory.reader.stage ≡ true → x.reads_at ≡ x.memory.reader.pos) where
      abbrev b : Memory
      b = x.memory

      rank_now : R x ≡ memory_rank ahead L x.root.pos b + asked (is_reading b.reader.stage)
      rank_now = ap (λ q. rank_by ahead L q x) p ∙ ap (λ o. memory_rank ahead L x.root.pos b + pending_rank (is_reading b.reader.stage) o) at

      some_hour : (m : ℕ) → HourIs b m → SomeHour gs m
      some_hour m h = hour_some gs eight i lt b k.memory.me (truth gs eight fine w i lt g b k.memory (g.cross.knows i lt) k.clear k.room k.newer reading) m h

      past : (m : ℕ) → HourIs b m → b.cursor.hour ≤ m
      past m h = not_past gs eight i lt b k.memory.me (truth gs eight fine w i lt g b k.memory (g.cross.knows i lt) k.clear k.room k.newer reading) m h

      behind : (m s : ℕ) → Found (slot_left b m) slots s → b.cursor.hour ≡ m → b.cursor.slot ≤ s
      behind m s f e =
          let q = leb-true (from_slot b.cursor m) s (and_parts (leb (from_slot b.cursor m) s) (comes_heard b m (place b s)) f.holds).0 in
          subst (λ t. pick t b.cursor.slot 0 ≤ s) (eq-eqb b.cursor.hour m e) q

      goes_less : (s : Stage) → ReaderIs (row gs i) b.reader.base b.reader.pos b.reader.tables s → may_go_on b s ≡ true →
          reader_rank ahead L (first_open s) x.root.pos b.reader.pos
          (begun (first_open s)) false + 1 < reader_rank ahead L b.reader.base x.root.pos b.reader.pos s b.reader.paused
      goes_less (begun f) r e = absurd (both_ways _ refl e)
      goes_less (whole c nx) r e = omega (arith, passes_less b.reader.base c r.0.above (i, lt, r.1.here))
      goes_less ended r e = absurd (both_ways _ refl e)

      rests_less : (r : Bool) → is_reading b.reader.stage ≡ r → (paused : Bool) → b.reader.paused ≡ paused → r && not paused ≡ false →
          Outcome (done gs w i (does ready (unpaused b) rests))
      rests_less true e true q held =
          let was : asked b.reader.paused ≡ 1 = ap asked q in
          inl (less (after x ready (unpaused b) None) _ refl refl (omega (arith, rank_now, was)))
      rests_less true e false q held = absurd (both_ways _ held refl)
      rests_less false e paused q held = inr (
        ap (λ (y : Node). y.pending) (put_same w.node i (after x ready (unpaused b) None)),
        ap (λ (y : Node). is_reading y.memory.reader.stage) (put_same w.node i (after x ready (unpaused b) None)) ∙ e,
        no_more (after x ready (unpaused b) None) _ refl refl (omega (arith, rank_now)),
      )

      chooses_less : Outcome (done gs w i (chooses b))
      chooses_less = on_chooses b (λ d. Outcome (done gs w i d)) (record {
        reads = λ on. let r : is_reading b.reader.stage ≡ true = (and_parts (is_reading b.reader.stage) (not b.reader.paused) on).0 in
            let one : asked (is_reading b.reader.stage) ≡ 1 = ap asked r in
            pick_both (leb (length (nth_row gs i)) x.reads_at) _ _ Outcome
            (λ _. inl (less (after x ready b (Some at_end)) _ refl refl (omega (arith, rank_now, one))))
            (λ _. pick_both (ltb x.reads_at (x.gone + 4096)) _ _ Outcome
            (λ _. inl (less (reading_next (nth_row gs i) x ready b) _ refl refl (omega (arith, rank_now, one))))
            (λ _. inl (less (after x ready b (Some later)) _ refl refl (omega (arith, rank_now, one)))));
        tells = λ m h s f. inl (less (after x (noting m s) b (Some go)) _ refl refl
            (⊎_elim
            (λ (e : b.cursor.hour ≡ m). let same : ahead b.cursor.hour ≡ ahead m = ap ahead e in omega (arith, rank_now, same, behind m s f e, f.below))
            (λ ne. let l : b.cursor.hour < m = omega (arith, past m h) in omega (arith, rank_now, counts.past b.cursor.hour m l (some_hour m h), f.below))
            (cases_eq b.cursor.hour m)));
        passes = λ m h f. inl (less (with_drawer x ready (passing b m) (record { hour = suc m; slot = 0 })) _ refl refl
            (omega (arith, rank_now, passes_less b.cursor.hour m (past m h) (some_hour m h), due_passing b m)));
        goes = λ may.
            pick_true (leb x.gone b.reader.pos && leb b.reader.pos (x.gone + 4096)) _ _ Outcome
            (and_from (leb x.gone b.reader.pos) (leb b.reader.pos (x.gone + 4096)) (le-leb _ _ (omega (arith, k.clear, k.newer))) (le-leb _ _ k.room))
            (inl (less (reading_from x ready (goes_on b).memory b.reader.pos) _ refl refl
            (omega (arith, rank_now, goes_less b.reader.stage k.memory.reader may))));
        sends = λ j f. let apart : i ≡ j → ⊥ = λ q. k.memory.others j f.holds (sym q) in
            pick_true (ltb j crew && not (eqb i j)) _ _ Outcome
            (and_from (ltb j crew) (not (eqb i j)) (lt-ltb j crew f.below) (not_from_false (eqb i j) (ne_eqb i j apart)))
            (inl (omega (
              arith,
              rank_now,
              due_sent b j f.below f.holds,
              letters_more (w.wire i j) (letter_to b j),
              wire_rank ahead long w i lt (after x ready (with_sent b j) (Some go)) (with_sending w i (after x ready (with_sent b j) (Some go)) j
                  (letter_to b j)) i j (w.wire i j ++ letter_to b j ∷ []) lt f.below refl refl,
            )));
        rests = λ q. rests_less (is_reading b.reader.stage) refl b.reader.paused refl q.held;
      })

  -- a node that is told to go on
  go_less : (w : World) (i : ℕ) (lt : i < crew) (g : Good gs w) → (w.node i).phase ≡ ready → (w.node i).pending ≡ Some go → Outcome w i lt g (one_step gs w i)
  go_less w i lt g p at =
      let k = going_work gs w.told i (w.node i) (w.node i).phase (w.node i).pending (g.own i lt).awaits p at in
      subst (Outcome w i lt g) (sym (ap₂ (λ q o. told_next gs w i q o) p at)) (chooses_less w i lt g p at k.0 k.1)

  module _ (w : World) (i : ℕ) (lt : i < crew) (g : Good gs w) where
    abbrev y : Node
    y = w.node i

    abbrev half : Memory → World
    half b = with_node w i (after y ready b (Some go))

    -- the event is taken in at no cost, and then it goes on
    then_less : (b : Memory) → Taken gs eight fine w i lt g b → R w i lt g (after y ready b (Some go)) ≤ R w i lt g y →
        Outcome w i lt g (done gs w i (chooses b))
    then_less b k le =
        let no : left (half b) ≤ left w = no_more w i lt g (after y ready b (Some go)) (half b) refl refl le in
        subst (Outcome w i lt g) (two_steps gs w i b k.memory.others (taken_room gs eight fine w i lt g b k))
        (⊎_elim (λ l. inl (omega (arith, l, no))) (λ r. inr (r.0, r.1, omega (arith, r.2, no)))
        (go_less (half b) i lt (taken_good gs eight fine w i lt g b k) (ap (λ (z : Node). z.phase) (put_same w.node i (after y ready b (Some go))))
        (ap (λ (z : Node). z.pending) (put_same w.node i (after y ready b (Some go))))))

    -- what a reading and the end leave to do
    abbrev Cheap : Memory → Memory → Type 0
    Cheap b b₁ = memory_rank ahead (long i) y.root.pos b₁ + asked (is_reading b₁.reader.stage) ≤ memory_rank ahead (long i) y.root.pos b

    cheap_reads : (b : Memory) → b.reader.pos < long i → (s : Stage) → b.reader.stage ≡ s → is_reading s ≡ true → (r : Reading) → Cheap b (reads b s r)
    cheap_reads b l (begun f) e q r = by_oldest (oldest b.reader.tables f)
      where
        was : stage_rank b.reader.stage ≡ 32
        was = ap stage_rank e

        by_oldest : (o : Option ℕ) → Cheap b (reads_by b f o r)
        by_oldest None = omega (arith, was)
        by_oldest (Some c) = pick_both (leb (hour_of r) (c + late)) _ _ (Cheap b) (λ _. omega (arith, was)) (λ _. omega (arith, was, due_all b))
    cheap_reads b l (whole c nx) e q r = absurd (both_ways _ refl q)
    cheap_reads b l ended e q r = absurd (both_ways _ refl q)

    cheap_ends : (b : Memory) → (s : Stage) → b.reader.stage ≡ s → is_reading s ≡ true → Cheap b (ends b s)
    cheap_ends b (begun f) e q = by_oldest (oldest b.reader.tables f)
      where
        was : stage_rank b.reader.stage ≡ 32
        was = ap stage_rank e

        by_oldest : (o : Option ℕ) → Cheap b (ends_by b o)
        by_oldest None = omega (arith, was, due_all b)
        by_oldest (Some c) = omega (arith, was, due_all b)
    cheap_ends b (whole c nx) e q = absurd (both_ways _ refl q)
    cheap_ends b ended e q = absurd (both_ways _ refl q)

    rank_is : (p : Phase) (o : Option Event) → y.phase ≡ p → R w i lt g y ≡ rank_by ahead (long i) p y
    rank_is p o e = ap (λ q. rank_by ahead (long i) q y) e

    asked_le : (r : Bool) → asked r ≤ 1
    asked_le true = omega arith
    asked_le false = omega arith

    stage_reading : (s : Stage) → is_reading s ≡ true → stage_rank s ≡ 32
    stage_reading (begun c) e = refl
    stage_reading (whole c nx) e = absurd (both_ways _ refl e)
    stage_reading ended e = absurd (both_ways _ refl e)

    saving_stage : (s : Stage) → MaySave y.root.pos y.memory s → stage_rank s ≡ 32
    saving_stage (begun c) m = refl
    saving_stage (whole c nx) m = absurd m
    saving_stage ended m = absurd m

    rooted_less : y.phase ≡ asks_root → (t : PageSet) → Outcome w i lt g (done gs w i (rooted y.memory y.root t))
    rooted_less e no_set = inl (less w i lt g (after y asks_cursor (with_reader y.memory (reader_at y.root)) (Some (cursor_is y.cursor))) _ refl refl
        (omega (arith, rank_is asks_root None e)))
    rooted_less e first_set = inl (less w i lt g (after y (asks_page 0) (with_reader y.memory (reader_at y.root))
        (Some (page_is (y.pages first_set 0)))) _ refl refl (omega (arith, rank_is asks_root None e)))
    rooted_less e second_set = inl (less w i lt g (after y (asks_page 0) (with_reader y.memory (reader_at y.root))
        (Some (page_is (y.pages second_set 0)))) _ refl refl (omega (arith, rank_is asks_root None e)))

    know : Knows gs (hours gs w) i y.memory
    know = g.cross.knows i lt

    -- it is told of something, and of `later` only where its roll is full
    abbrev IsTold : Option Event → Type 0
    IsTold o = (o ≡ None → ⊥) × (o ≡ Some later → y.gone + 4096 ≤ y.reads_at)

    steps_less : (p : Phase) (o : Option Event) → y.phase ≡ p → y.pending ≡ o → Awaits gs w.told i y p o → IsTold o → Outcome w i lt g (told_next gs w i p o)
    steps_less _ _ e q is_waking some = inl (less w i lt g (after y asks_root (new_memory i) (Some (root_is y.root))) _ refl refl
        (omega (arith, rank_is asleep None e)))
    steps_less _ _ e q (is_asking_root me) some = rooted_less e y.root.set
    steps_less _ _ e q (is_asking_page n pg there me no_c ln has st at set kp bs same bare) some = pick_both (ltb (suc n) kept_pages) _ _
        (λ d. Outcome w i lt g (done gs w i d))
        (λ _. inl (less w i lt g (after y (asks_page (suc n)) (paged y.memory n pg)
        (Some (page_is (y.pages y.memory.reader.set (suc n))))) _ refl refl (omega (arith, rank_is (asks_page n) None e))))
        (λ _. inl (less w i lt g (after y asks_cursor (paged y.memory n pg) (Some (cursor_is y.cursor))) _ refl refl
        (omega (arith, rank_is (asks_page n) None e))))
    steps_less _ _ e q (is_asking_cursor me no_c r at set kp bs rd) some =
        let st : stage_rank y.memory.reader.stage ≡ 32 = stage_reading y.memory.reader.stage rd in
        pick_true (leb y.gone y.memory.reader.pos && leb y.memory.reader.pos (y.gone + 4096)) _ _ (Outcome w i lt g)
        (and_from (leb y.gone y.memory.reader.pos) (leb y.memory.reader.pos (y.gone + 4096)) (le-leb _ _ (omega (arith, (g.own i lt).low)))
        (le-leb _ _ (omega (arith, (g.own i lt).high))))
        (inl (less w i lt g (reading_from y placed (booted_memory y.memory y.cursor) y.memory.reader.pos) _ refl refl
        (omega (arith, rank_is asks_cursor None e, st, ap ahead bs, asked_le y.memory.reader.paused, due_most (booted_memory y.memory y.cursor).mail))))
    steps_less _ _ e q (is_placing is at) some =
        pick_true (leb y.gone y.memory.reader.pos && leb y.memory.reader.pos (y.gone + 4096)) _ _ (Outcome w i lt g)
        (and_from (leb y.gone y.memory.reader.pos) (leb y.memory.reader.pos (y.gone + 4096)) (le-leb _ _ (omega (arith, (g.own i lt).low)))
        (le-leb _ _ (omega (arith, (g.own i lt).high))))
        (inl (less w i lt g (reading_from y placed y.memory y.memory.reader.pos) _ refl refl (omega (arith, rank_is placing None e))))
    steps_less _ _ e q (is_placed is at rd) some =
        pick_true (leb y.gone y.memory.reader.pos && leb y.memory.reader.pos y.reads_at) _ _ (Outcome w i lt g)
        (and_from (leb y.gone y.memory.reader.pos) (leb y.memory.reader.pos y.reads_at) (le-leb _ _ (omega (arith, (g.own i lt).low)))
        (le-leb _ _ (omega arith)))
        (inl (less w i lt g (letting_go y ready y.memory y.memory.reader.pos) _ refl refl (omega (
          arith,
          rank_is placed None e,
          asked_le (is_reading y.memory.reader.stage),
        ))))
    steps_less _ _ e q (is_noting m k a at le c sm few next empty) some =
        inl (less w i lt g (with_drawer y ready (with_cursor y.memory (record { hour = m; slot = suc k })) (record { hour = m; slot = suc k })) _ refl refl
        (omega (arith, rank_is (noting m k) None e, asked_le (is_reading y.memory.reader.stage), due_all y.memory)))
    steps_less _ _ e q (is_saving n a ln m same) some = pick_both (ltb (suc n) kept_pages) _ _ (λ d. Outcome w i lt g (done gs w i d))
        (λ _. inl (less w i lt g (with_kept_page y (saving (suc n)) y.memory (other_set y.memory.reader.set) (suc n) (page_kept y.memory (suc n))) _ refl refl
        (omega (arith, rank_is (saving n) None e))))
        (λ _. inl (less w i lt g (with_root y placing (saved y.memory) (saved_root y.memory)) _ refl refl
        (omega (arith, rank_is (saving n) None e, ln, saving_stage y.memory.reader.stage m, asked_le (is_reading y.memory.reader.stage)))))
    steps_less _ _ e q (is_going a at) some = chooses_less w i lt g e q a at
    steps_less _ _ e q (is_reading_one a r l at hi) some =
        let rd : Reading = get_or (row gs i) y.memory.reader.pos no_reading in
        let was : pending_rank (is_reading y.memory.reader.stage) y.pending ≡ 0 = ap (pending_rank (is_reading y.memory.reader.stage)) q in
        then_less (reads y.memory y.memory.reader.stage rd) (takes_reading gs eight fine w i lt g know a r l at hi)
        (omega (arith, rank_is ready None e, was, cheap_reads y.memory l y.memory.reader.stage refl r rd))
    steps_less _ _ e q (is_full a r at full) some =
        let was : pending_rank (is_reading y.memory.reader.stage) y.pending ≡ 0 = ap (pending_rank (is_reading y.memory.reader.stage)) q in
        let lo : y.root.pos + half_roll ≤ y.memory.reader.pos = omega (arith, a.clear, at, some.1 refl) in
        pick_true (leb (y.memory.reader.kept + half_roll) y.memory.reader.pos) _ _
        (λ d. Outcome w i lt g (done gs w i d)) (le-leb (y.memory.reader.kept + half_roll) y.memory.reader.pos (omega (arith, a.memory.kept, lo)))
        (inl (less w i lt g (with_kept_page y (saving 0) y.memory (other_set y.memory.reader.set) 0 (page_kept y.memory 0)) _ refl refl
        (omega (arith, rank_is ready None e, was, a.clear, lo, full_less y.memory.reader.stage a.memory.reader r))))
      where
        full_less : (s : Stage) → ReaderIs (row gs i) y.memory.reader.base y.memory.reader.pos y.memory.reader.tables s → is_reading s ≡ true →
            y.memory.reader.pos ≤ long i
        full_less (begun f) r e = r.within
        full_less (whole c nx) r e = absurd (both_ways _ refl e)
        full_less ended r e = absurd (both_ways _ refl e)
    steps_less _ _ e q (is_ending a r le) some =
        let was : pending_rank (is_reading y.memory.reader.stage) y.pending ≡ 0 = ap (pending_rank (is_reading y.memory.reader.stage)) q in
        pick_both (ltb y.memory.reader.kept y.memory.reader.pos) _ _ (λ d. Outcome w i lt g (done gs w i d))
        (λ t. inl (less w i lt g (with_kept_page y (saving 0) y.memory (other_set y.memory.reader.set) 0 (page_kept y.memory 0)) _ refl refl
        (omega (
          arith,
          rank_is ready None e,
          was,
          a.memory.kept,
          ltb-true y.memory.reader.kept y.memory.reader.pos t,
          full_less y.memory.reader.stage a.memory.reader r,
        ))))
        (λ t. then_less (ends y.memory y.memory.reader.stage) (takes_end gs eight fine w i lt g know a (omega (
          arith,
          a.memory.kept,
          a.newer,
          ltb-false y.memory.reader.kept y.memory.reader.pos t,
        )) r le)
        (omega (arith, rank_is ready None e, was, cheap_ends y.memory y.memory.reader.stage refl r)))
      where
        full_less : (s : Stage) → ReaderIs (row gs i) y.memory.reader.base y.memory.reader.pos y.memory.reader.tables s → is_reading s ≡ true →
            y.memory.reader.pos ≤ long i
        full_less (begun f) r e = r.within
        full_less (whole c nx) r e = absurd (both_ways _ refl e)
        full_less ended r e = absurd (both_ways _ refl e)
    steps_less _ _ e q (is_given j l lj ne a at) some =
        let was : pending_rank (is_reading y.memory.reader.stage) y.pending ≡ mark l.woke + asked (is_reading y.memory.reader.stage) =
        ap (pending_rank (is_reading y.memory.reader.stage)) q in
        then_less (with_letter y.memory j l) (takes_letter_in gs eight fine w i lt g know a j l lj ne at q)
        (omega (arith, rank_is ready None e, was, due_letter y.memory j l lj))
    steps_less _ _ e q (is_resting a quiet) some = absurd (some.0 refl)
    steps_less _ _ e q (is_pausing a r at) some = absurd (some.0 refl)

    pub step_less : IsTold y.pending → Outcome w i lt g (one_step gs w i)
    step_less some = steps_less y.phase y.pending refl refl (g.own i lt).awaits some

    -- A POKE leaves as much
    poke_on : (o : Option Event) → y.pending ≡ o → (p : Phase) → y.phase ≡ p → Awaits gs w.told i y p o → left (poked_by w i o) ≤ left w
    poke_on None q _ e a =
        let was : pending_rank (is_reading y.memory.reader.stage) y.pending ≡ asked (is_reading y.memory.reader.stage) =
        ap (pending_rank (is_reading y.memory.reader.stage)) q in
        poke_as was (resting_ready None _ a refl) e
      where
        resting_ready : (o : Option Event) (p : Phase) → Awaits gs w.told i y p o → o ≡ None → p ≡ ready
        resting_ready _ _ (is_resting k quiet) n = refl
        resting_ready _ _ (is_pausing k r at) n = refl
        resting_ready (Some ev) p k n = cc

        poke_as : pending_rank (is_reading y.memory.reader.stage) y.pending ≡ asked (is_reading y.memory.reader.stage) → {p : Phase} → p ≡ ready → y.phase ≡ p →
            left (with_node w i (after y y.phase y.memory (Some go))) ≤ left w
        poke_as was r e =
            let now : R w i lt g (after y y.phase y.memory (Some go)) ≡ rank_by ahead (long i) ready (after y y.phase y.memory (Some go)) =
            ap (λ p. rank_by ahead (long i) p (after y y.phase y.memory (Some go))) (e ∙ r) in
            no_more w i lt g (after y y.phase y.memory (Some go)) _ refl refl (omega (arith, rank_is ready None (e ∙ r), was, now))
    poke_on (Some ev) q p e a = omega arith

    pub poke_no_more : left (poked w i) ≤ left w
    poke_no_more = poke_on y.pending refl y.phase refl (g.own i lt).awaits

    -- A LETTER THAT COMES leaves less
    bring_as : (a : ℕ) → a < crew → (l : Letter) (ls : List Letter) → w.wire a i ≡ l ∷ ls → y.phase ≡ ready → y.pending ≡ None →
        left (with_bringing w a i l ls) < left w
    bring_as a la l ls here e q =
        let z : Node = after y y.phase y.memory (Some (letter a l)) in
        let was : pending_rank (is_reading y.memory.reader.stage) y.pending ≡ asked (is_reading y.memory.reader.stage) =
        ap (pending_rank (is_reading y.memory.reader.stage)) q in
        let now : R w i lt g z ≡ rank_by ahead (long i) ready z = ap (λ p. rank_by ahead (long i) p z) e in
        let wires : letters_rank (w.wire a i) ≡ letter_rank l + letters_rank ls = ap letters_rank here ∙ letters_first l ls in
        omega (arith, rank_is ready None e, was, now, wires, wire_rank ahead long w i lt z (with_bringing w a i l ls) a i ls la lt refl refl)

    bring_on : (a : ℕ) → a < crew → (l : Letter) (ls : List Letter) → w.wire a i ≡ l ∷ ls → (p : Phase) → y.phase ≡ p → (o : Option Event) → y.pending ≡ o →
        o ≡ None → Awaits gs w.told i y p o →
        left (with_bringing w a i l ls) < left w
    bring_on a la l ls here _ e _ q none (is_resting k quiet) = bring_as a la l ls here e q
    bring_on a la l ls here _ e _ q none (is_pausing k r at) = bring_as a la l ls here e q
    bring_on a la l ls here _ e (Some ev) q none k = cc

    pub bring_less : (a : ℕ) → a < crew → (l : Letter) (ls : List Letter) → w.wire a i ≡ l ∷ ls → y.pending ≡ None → left (with_bringing w a i l ls) < left w
    bring_less a la l ls here none = bring_on a la l ls here y.phase refl y.pending refl none (g.own i lt).awaits
