-- Each step, poke, letter and strike leaves each two machines in step: every event, and every choice.
use Rattle.std.proofs.Common.{⊎_elim, ◌≤◌, ◌≡◌, ℕ, suc, ◌+◌, ◌<◌, ◌⊎◌, true, false, not, ◌&&◌, eqb, leb, ltb, List, [], ◌∷◌, ◌++◌, length, get_or, Some, None, Option, sym, refl, ap, ap₂, ◌∙◌, subst, subst₂, inl, inr, arith}
use Rattle.std.proofs.lemmas.Bool.{ltb-false, cases_lt, cases_Bool, both_ways, ne_eqb, not_from_false, and_from, lt-ltb}
use Rattle.sums.specs.Parts.{no_reading}
use Rattle.sums.specs.Sums.{pick, or, Reading, Gauges, hour_of}
use Rattle.sums.proofs.Anys.{or_left, or_right}
use Rattle.sums.proofs.Picks.{pick_both, pick_true}
use Rattle.machine.specs.Run.{nth_row}
use Rattle.protocol.specs.Adder.{passing}
use Rattle.protocol.specs.Boot.{rooted}
use Rattle.protocol.specs.Bounds.{has_hour}
use Rattle.protocol.specs.Checkpoints.{pausing, saves_next}
use Rattle.protocol.specs.Choose.{chooses}
use Rattle.protocol.specs.Limits.{late, crew, kept_pages, half_roll}
use Rattle.protocol.specs.Mail.{waits_for, with_letter}
use Rattle.protocol.specs.Memory.{Cursor, Memory}
use Rattle.protocol.specs.OpenHours.{oldest}
use Rattle.protocol.specs.Phases.{Phase, ready, Event, letter, go}
use Rattle.protocol.specs.Reader.{Stage, begun, whole, ended, is_reading, PageSet, no_set, first_set, second_set}
use Rattle.protocol.specs.Reading.{reads_by, ends_by, reads, ends}
use Rattle.protocol.specs.Searches.{put, put₂}
use Rattle.protocol.specs.Statements.{statement, Letter}
use Rattle.protocol.proofs.Choosing.{on_chooses, HourIs}
use Rattle.protocol.proofs.Puts.{put_each, put_pairs, put_same}
use Rattle.protocol.proofs.Tables.{hour_at}
use Rattle.protocol_world.specs.Runs.{waking, poked, poked_by, delivered, brought, fallen}
use Rattle.protocol_world.specs.Wall.{Told}
use Rattle.protocol_world.specs.Worlds.{Node, World, with_node, after, done, told_next, one_step}
use Rattle.protocol_world.proofs.FullRolls.{FullRolls, keeps_full}
use Rattle.protocol_world.proofs.Induction.{Keeps}
use Rattle.protocol_world.proofs.Invariant.{AtWork, came, queue, row, hours, Knows, Awaits, is_waking, is_asking_root, is_asking_page, is_asking_cursor, is_placing, is_placed, is_noting, is_saving, is_going, is_reading_one, is_full, is_ending, is_given, is_resting, is_pausing, Good}
use Rattle.protocol_world.proofs.Letters.{NoLetter}
use Rattle.protocol_world.proofs.Queues.{bring_queue}
use Rattle.protocol_world.proofs.Readers.{RowFine}
use Rattle.protocol_world.proofs.Choices.{truth}
use Rattle.protocol_world.proofs.Events.{taken_room, takes_pause, Taken, taken_good, takes_reading, takes_end, takes_letter_in}
use Rattle.protocol_world.proofs.Steps.{step_good, poke_good, deliver_good, fall_good}
use Rattle.protocol_world.proofs.SyncSteps.{says_same, says_all, takes_letter, sends_letter}
use Rattle.protocol_world.proofs.Syncs.{Said, Current, is_up, holds, Busy, Lost, Sync, busy, current, lost, Synced}
use Rattle.protocol_world.proofs.Telling.{empty_with}
use Rattle.protocol_world.proofs.TwoSteps.{two_steps, going_work}

-- all others are to be told
pub not_me : (me n j : ℕ) → me ≡ n → (n ≡ j → ⊥) → not (eqb j me) ≡ true
not_me me n j e ne = not_from_false (eqb j me) (ne_eqb j me (λ q. ne (sym (q ∙ e))))

module _ (gs : Gauges) (eight : length gs ≡ crew) (fine : (i : ℕ) → i < crew → RowFine (row gs i)) where
  module _ (w : World) (n : ℕ) (lt : n < crew) (g : Good gs w) (s : Synced gs w) where
    abbrev x : Node
    x = w.node n

    -- what a change of memory keeps of what is said to each: that is still to be said, or what was said last holds still
    abbrev Speaks : Memory → Memory → Type 0
    Speaks b b₁ = (j : ℕ) → j < crew → (n ≡ j → ⊥) → (b₁.mail.due j ≡ true) ⊎ ((b.mail.due j ≡ true → b₁.mail.due j ≡ true)
        × ((d : Said) → Current gs j d b.reader b.cursor.hour → Current gs j d b₁.reader b₁.cursor.hour))

    lost_up : is_up x.phase ≡ true → (x₁ : Node) → ((a : ℕ) → x.memory.mail.woke a ≡ x₁.memory.mail.woke a) → (a : ℕ) (r : List Letter) → Lost x a r →
        Lost x₁ a r
    lost_up up x₁ e a r (inl d) = absurd (both_ways _ d up)
    lost_up up x₁ e a r (inr (inl q)) = inr (inl (sym (e a) ∙ q))
    lost_up up x₁ e a r (inr (inr q)) = inr (inr q)

    module _ (up : is_up x.phase ≡ true) (none : NoLetter x.pending) where
      gentle : (x₁ : Node) → Speaks x.memory x₁.memory → ((a : ℕ) → holds x₁.memory a ≡ holds x.memory a) →
          ((a : ℕ) → x.memory.mail.woke a ≡ x₁.memory.mail.woke a) →
          NoLetter x₁.pending → (ts : List Told) → Synced gs (record { node = put w.node n x₁; wire = w.wire; told = ts; fault = w.fault })
      gentle x₁ speaks held woke none₁ ts = says_same gs w n lt s x₁ ts none none₁
          (record { speaks = λ j lj ne. by_memory j (speaks j lj ne) }) (record { held = held; lost_on = lost_up up x₁ woke })
        where
          busy_by : (j : ℕ) → (x.memory.mail.due j ≡ true → x₁.memory.mail.due j ≡ true) → Busy x j → Busy x₁ j
          busy_by j f (inl d) = absurd (both_ways _ d up)
          busy_by j f (inr e) = inr (f e)

          by_memory : (j : ℕ) → (x₁.memory.mail.due j ≡ true) ⊎ ((x.memory.mail.due j ≡ true → x₁.memory.mail.due j ≡ true)
              × ((d : Said) → Current gs j d x.memory.reader x.memory.cursor.hour → Current gs j d x₁.memory.reader x₁.memory.cursor.hour)) →
              Busy x₁ j ⊎ ((Busy x j → Busy x₁ j) × ((d : Said) → Current gs j d x.memory.reader x.memory.cursor.hour →
              Current gs j d x₁.memory.reader x₁.memory.cursor.hour))
          by_memory j (inl d) = inl (inr d)
          by_memory j (inr m) = inr (busy_by j m.0, m.1)

      same_mind : (x₁ : Node) → x.memory ≡ x₁.memory → NoLetter x₁.pending → (ts : List Told) →
          Synced gs (record { node = put w.node n x₁; wire = w.wire; told = ts; fault = w.fault })
      same_mind x₁ e none₁ ts = gentle x₁
          (λ j lj ne. inr (subst (λ (b : Memory). b.mail.due j ≡ true) e, λ d c. subst (λ (b : Memory). Current gs j d b.reader b.cursor.hour) e c))
          (λ a. ap (λ (b : Memory). holds b a) (sym e)) (λ a. ap (λ (b : Memory). b.mail.woke a) e) none₁ ts

    -- TOLD TO GO ON
    module _ (p : x.phase ≡ ready) (at : x.pending ≡ Some go) (work : AtWork gs w.told n x)
        (place_now : is_reading x.memory.reader.stage ≡ true → x.reads_at ≡ x.memory.reader.pos) where
      up_now : is_up x.phase ≡ true
      up_now = ap is_up p

      none_now : NoLetter x.pending
      none_now a = ap (came a) at

      same_now : (x₁ : Node) → x.memory ≡ x₁.memory → NoLetter x₁.pending → (ts : List Told) →
          Synced gs (record { node = put w.node n x₁; wire = w.wire; told = ts; fault = w.fault })
      same_now = same_mind up_now none_now

      -- those that wait to hear of an hour are told; of the rows of the others nothing is passed
      speaks_passing : (m : ℕ) → HourIs x.memory m → Speaks x.memory (passing x.memory m)
      speaks_passing m h j lj ne = ⊎_elim
          (λ e. inl (or_right (x.memory.mail.due j) (waits_for x.memory m j) (and_from (not (eqb j x.memory.me)) (has_hour m (x.memory.mail.word j))
          (not_me x.memory.me n j work.memory.me ne) e)))
          (λ e. inr (
            or_left (x.memory.mail.due j) (waits_for x.memory m j),
            λ d c. (
              c.0,
              λ p l lo hi. ⊎_elim
                  (λ (l₁ : hour_at (row gs j) p < x.memory.cursor.hour). c.1 p l lo l₁)
                  (λ (ge : x.memory.cursor.hour ≤ hour_at (row gs j) p).
                  empty_with gs eight n lt x.memory work.memory.me
                  (truth gs eight fine w n lt g x.memory work.memory (g.cross.knows n lt) work.clear work.room work.newer place_now) m h j lj
                  (ap (λ b. has_hour m (pick b (statement x.memory.reader x.memory.me) (x.memory.mail.word j))) (ne_eqb j x.memory.me
                  (λ q. ne (sym (q ∙ work.memory.me)))) ∙ e) p l ge hi)
                  (cases_lt (hour_at (row gs j) p) x.memory.cursor.hour),
            ),
          ))
          (cases_Bool (has_hour m (x.memory.mail.word j)))

      pub chooses_synced : Synced gs (done gs w n (chooses x.memory))
      chooses_synced = on_chooses x.memory (λ d. Synced gs (done gs w n d)) (record {
        reads = λ _. pick_both (leb (length (nth_row gs n)) x.reads_at) _ _ (Synced gs)
            (λ _. same_now _ refl (λ _. refl) w.told)
            (λ _. pick_both (ltb x.reads_at (x.gone + 4096)) _ _ (Synced gs) (λ _. same_now _ refl (λ _. refl) w.told)
            (λ _. same_now _ refl (λ _. refl) w.told));
        tells = λ m _ r _. same_now _ refl (λ _. refl) w.told;
        passes = λ m h _. gentle up_now none_now _ (speaks_passing m h) (λ _. refl) (λ _. refl) (λ _. refl) w.told;
        goes = λ _. pick_both (leb x.gone x.memory.reader.pos && leb x.memory.reader.pos (x.gone + 4096)) _ _ (Synced gs)
            (λ _. gentle up_now none_now _ (λ j _ ne. inr (λ d. d, λ d c. (inl refl, c.1))) (λ _. refl) (λ _. refl) (λ _. refl) w.told) (λ _. s);
        sends = λ j f. let apart : n ≡ j → ⊥ = λ q. work.memory.others j f.holds (sym q) in
            pick_true (ltb j crew && not (eqb n j)) _ _ (Synced gs)
            (and_from (ltb j crew) (not (eqb n j)) (lt-ltb j crew f.below) (not_from_false (eqb n j) (ne_eqb n j apart)))
            (sends_letter gs w n lt s p at j apart);
        rests = λ _. gentle up_now none_now _ (λ j _ ne. inr (λ d. d, λ d c. c)) (λ _. refl) (λ _. refl) (λ _. refl) w.told;
      })

  -- a whole step of one that is told to go on
  go_synced : (w : World) (n : ℕ) → n < crew → Good gs w → Synced gs w → (w.node n).phase ≡ ready → (w.node n).pending ≡ Some go → Synced gs (one_step gs w n)
  go_synced w n lt g s p at =
      subst (Synced gs) (sym (ap₂ (λ q o. told_next gs w n q o) p at))
      (let k = going_work gs w.told n (w.node n) (w.node n).phase (w.node n).pending (g.own n lt).awaits p at in chooses_synced w n lt g s p at k.0 k.1)

  module _ (w : World) (n : ℕ) (lt : n < crew) (g : Good gs w) (s : Synced gs w) where
    abbrev y : Node
    y = w.node n

    -- the event is taken in, and then it goes on
    abbrev half : Memory → World
    half b = with_node w n (after y ready b (Some go))

    then_goes : (b : Memory) → Taken gs eight fine w n lt g b → Synced gs (half b) → Synced gs (done gs w n (chooses b))
    then_goes b k s₁ =
        subst (Synced gs) (two_steps gs w n b k.memory.others (taken_room gs eight fine w n lt g b k))
        (go_synced (half b) n lt (taken_good gs eight fine w n lt g b k) s₁ (ap (λ (z : Node). z.phase) (put_same w.node n (after y ready b (Some go))))
        (ap (λ (z : Node). z.pending) (put_same w.node n (after y ready b (Some go)))))

    speaks_reads : (b : Memory) → b.me ≡ n → (t : Stage) → is_reading t ≡ true → (r : Reading) → Speaks w n lt g s b (reads b t r)
    speaks_reads b me (begun f) e r = by_oldest (oldest b.reader.tables f)
      where
        by_oldest : (o : Option ℕ) → Speaks w n lt g s b (reads_by b f o r)
        by_oldest None = λ j _ ne. inr (λ d. d, λ d c. (inl refl, c.1))
        by_oldest (Some c) = pick_both (leb (hour_of r) (c + late)) _ _ (Speaks w n lt g s b) (λ _ j _ ne. inr (λ d. d, λ d c. (inl refl, c.1)))
            (λ _ j _ ne. inl (not_me b.me n j me ne))
    speaks_reads b me (whole c nx) e r = absurd (both_ways _ refl e)
    speaks_reads b me ended e r = absurd (both_ways _ refl e)

    speaks_ends : (b : Memory) → b.me ≡ n → (t : Stage) → is_reading t ≡ true → Speaks w n lt g s b (ends b t)
    speaks_ends b me (begun f) e = by_oldest (oldest b.reader.tables f)
      where
        by_oldest : (o : Option ℕ) → Speaks w n lt g s b (ends_by b o)
        by_oldest None = λ j _ ne. inl (not_me b.me n j me ne)
        by_oldest (Some c) = λ j _ ne. inl (not_me b.me n j me ne)
    speaks_ends b me (whole c nx) e = absurd (both_ways _ refl e)
    speaks_ends b me ended e = absurd (both_ways _ refl e)

    -- what a reading leaves of the mail
    abbrev SameMail : Memory → Memory → Type 0
    SameMail b b₁ = ((a : ℕ) → holds b₁ a ≡ holds b a) × ((a : ℕ) → b.mail.woke a ≡ b₁.mail.woke a)

    mail_reads : (b : Memory) (t : Stage) (r : Reading) → SameMail b (reads b t r)
    mail_reads b (begun f) r = by_oldest (oldest b.reader.tables f)
      where
        by_oldest : (o : Option ℕ) → SameMail b (reads_by b f o r)
        by_oldest None = (λ _. refl, λ _. refl)
        by_oldest (Some c) = pick_both (leb (hour_of r) (c + late)) _ _ (SameMail b) (λ _. (λ _. refl, λ _. refl)) (λ _. (λ _. refl, λ _. refl))
    mail_reads b (whole c nx) r = (λ _. refl, λ _. refl)
    mail_reads b ended r = (λ _. refl, λ _. refl)

    mail_ends : (b : Memory) (t : Stage) → SameMail b (ends b t)
    mail_ends b (begun f) = by_oldest (oldest b.reader.tables f)
      where
        by_oldest : (o : Option ℕ) → SameMail b (ends_by b o)
        by_oldest None = (λ _. refl, λ _. refl)
        by_oldest (Some c) = (λ _. refl, λ _. refl)
    mail_ends b (whole c nx) = (λ _. refl, λ _. refl)
    mail_ends b ended = (λ _. refl, λ _. refl)

    down : (x₁ : Node) → is_up x₁.phase ≡ false → Synced gs (with_node w n x₁)
    down x₁ e = says_all gs w n lt s x₁ w.told (λ j _ ne. inl e) (λ a ne. inl e) w.wire (λ _ _ _ _. refl)

    rooted_synced : (t : PageSet) → Synced gs (done gs w n (rooted y.memory y.root t))
    rooted_synced no_set = down _ refl
    rooted_synced first_set = down _ refl
    rooted_synced second_set = down _ refl

    know : Knows gs (hours gs w) n y.memory
    know = g.cross.knows n lt

    saved_synced : is_up y.phase ≡ true → NoLetter y.pending → (q : ℕ) → Synced gs (done gs w n (saves_next y.memory q))
    saved_synced up none q = pick_both (ltb (suc q) kept_pages) _ _ (λ d. Synced gs (done gs w n d))
        (λ _. same_mind w n lt g s up none _ refl (λ _. refl) w.told)
        (λ _. gentle w n lt g s up none _ (λ j _ ne. inr (λ d. d, λ d c. (inl refl, c.1))) (λ _. refl) (λ _. refl) (λ _. refl) w.told)

    steps_synced : (p : Phase) (o : Option Event) → y.phase ≡ p → y.pending ≡ o → Awaits gs w.told n y p o → Synced gs (told_next gs w n p o)
    steps_synced _ _ e q is_waking = down _ refl
    steps_synced _ _ e q (is_asking_root me) = rooted_synced y.root.set
    steps_synced _ _ e q (is_asking_page k pg there me no_c lk some st at set kp bs same bare) =
        pick_both (ltb (suc k) kept_pages) _ _ (λ d. Synced gs (done gs w n d))
        (λ _. down _ refl) (λ _. down _ refl)
    steps_synced _ _ e q (is_asking_cursor me no_c r at set kp bs rd) =
        pick_both (leb y.gone y.memory.reader.pos && leb y.memory.reader.pos (y.gone + 4096)) _ _ (Synced gs)
        (λ _. says_all gs w n lt s _ w.told (λ j _ ne. inr (not_me y.memory.me n j me ne)) (λ a ne. inr (not_me y.memory.me n a me (λ k. ne (sym k)))) w.wire
        (λ _ _ _ _. refl)) (λ _. s)
    steps_synced _ _ e q (is_placing is f) = pick_both (leb y.gone y.memory.reader.pos && leb y.memory.reader.pos (y.gone + 4096)) _ _ (Synced gs)
        (λ _. same_mind w n lt g s (ap is_up e) (λ a. ap (came a) q) _ refl (λ _. refl) w.told) (λ _. s)
    steps_synced _ _ e q (is_placed is f at) = pick_both (leb y.gone y.memory.reader.pos && leb y.memory.reader.pos y.reads_at) _ _ (Synced gs)
        (λ _. same_mind w n lt g s (ap is_up e) (λ a. ap (came a) q) _ refl (λ _. refl) w.told) (λ _. s)
    steps_synced _ _ e q (is_noting m k a at le c sm few next empty) =
        gentle w n lt g s (ap is_up e) (λ a. ap (came a) q) _
        (λ j lj ne. inr (
          λ d. d,
          λ d c. (
            c.0,
            λ p l lo hi. ⊎_elim
                (λ (l₁ : hour_at (row gs j) p < y.memory.cursor.hour). c.1 p l lo l₁)
                (λ (ge : y.memory.cursor.hour ≤ hour_at (row gs j) p). empty j lj p l
                (subst (λ (c : Cursor). c.hour ≤ hour_at (row gs j) p) a.memory.cursor ge) hi)
                (cases_lt (hour_at (row gs j) p) y.memory.cursor.hour),
          ),
        ))
        (λ _. refl) (λ _. refl) (λ _. refl) w.told
    steps_synced _ _ e q (is_saving k a lk m same) = saved_synced (ap is_up e) (λ a. ap (came a) q) k
    steps_synced _ _ e q (is_going a at) = chooses_synced w n lt g s e q a at
    steps_synced _ _ e q (is_reading_one a r l at hi) =
        let rd : Reading = get_or (row gs n) y.memory.reader.pos no_reading in
        let b₁ : Memory = reads y.memory y.memory.reader.stage rd in
        let m = mail_reads y.memory y.memory.reader.stage rd in
        then_goes b₁ (takes_reading gs eight fine w n lt g know a r l at hi)
        (gentle w n lt g s (ap is_up e) (λ a. ap (came a) q) _ (speaks_reads y.memory a.memory.me y.memory.reader.stage r rd) m.0 m.1 (λ _. refl) w.told)
    steps_synced _ _ e q (is_full a r at full) = pick_both (leb (y.memory.reader.kept + half_roll) y.memory.reader.pos) _ _ (λ d. Synced gs (done gs w n d))
        (λ _. same_mind w n lt g s (ap is_up e) (λ a. ap (came a) q) _ refl (λ _. refl) w.told)
        (λ _. then_goes (pausing y.memory) (takes_pause gs eight fine w n lt g know a at)
        (gentle w n lt g s (ap is_up e) (λ a. ap (came a) q) _ (λ j _ ne. inr (λ d. d, λ d c. c)) (λ _. refl) (λ _. refl) (λ _. refl) w.told))
    steps_synced _ _ e q (is_ending a r le) =
        let m = mail_ends y.memory y.memory.reader.stage in
        pick_both (ltb y.memory.reader.kept y.memory.reader.pos) _ _ (λ d. Synced gs (done gs w n d))
        (λ _. same_mind w n lt g s (ap is_up e) (λ a. ap (came a) q) _ refl (λ _. refl) w.told)
        (λ t. then_goes (ends y.memory y.memory.reader.stage) (takes_end gs eight fine w n lt g know a (omega (
          arith,
          a.memory.kept,
          a.newer,
          ltb-false y.memory.reader.kept y.memory.reader.pos t,
        )) r le)
        (gentle w n lt g s (ap is_up e) (λ a. ap (came a) q) _ (speaks_ends y.memory a.memory.me y.memory.reader.stage r) m.0 m.1 (λ _. refl) w.told))
    steps_synced _ _ e q (is_given j l lj ne a at) =
        then_goes (with_letter y.memory j l) (takes_letter_in gs eight fine w n lt g know a j l lj ne at q)
        (takes_letter gs w n lt s e j l q)
    steps_synced _ _ e q (is_resting a quiet) = s
    steps_synced _ _ e q (is_pausing a r at) = s

    pub step_synced : Synced gs (one_step gs w n)
    step_synced = steps_synced y.phase y.pending refl refl (g.own n lt).awaits

    pub fall_synced : Synced gs (fallen w n)
    fall_synced = says_all gs w n lt s (waking y n) w.told (λ j _ ne. inl refl) (λ a ne. inl refl) (λ a b. pick (or (eqb a n) (eqb b n)) [] (w.wire a b))
        (λ a b na nb. ap₂ (λ t u. pick (or t u) [] (w.wire a b)) (ne_eqb a n na) (ne_eqb b n nb))

    -- the same memory, and another event, where the queues stay
    module _ (ev : Option Event) (wires : ℕ → ℕ → List Letter) where
      abbrev z : Node
      z = after y y.phase y.memory ev

      abbrev moved : World
      moved = record { node = put w.node n z; wire = wires; told = w.told; fault = w.fault }

      speaker : (j : ℕ) (t : Node) (q r : List Letter) → Sync gs n j y t q r → Sync gs n j z t q r
      speaker j t q r (busy b) = busy b
      speaker j t q r (current e) = current e
      speaker j t q r (lost l) = lost l

      hearer : (i : ℕ) (t : Node) (q r : List Letter) → Sync gs i n t y q r → Sync gs i n t z q r
      hearer i t q r (busy b) = busy b
      hearer i t q r (current e) = current e
      hearer i t q r (lost l) = lost l

      moved_synced : ((a b : ℕ) → queue moved a b ≡ queue w a b) → Synced gs moved
      moved_synced same i j li lj ne =
          subst₂ (λ q r. Sync gs i j (moved.node i) (moved.node j) q r) (sym (same i j)) (sym (same j i))
          (put_pairs w.node n z (λ i j t u. i < crew → j < crew → (i ≡ j → ⊥) → Sync gs i j t u (queue w i j) (queue w j i))
          (λ _ _ ne. absurd (ne refl))
          (λ j _ li lj ne. speaker j (w.node j) _ _ (s n j li lj ne))
          (λ i _ li lj ne. hearer i (w.node i) _ _ (s i n li lj ne))
          (λ i j _ _. s i j) i j li lj ne)

    poke_on : (o : Option Event) → y.pending ≡ o → Synced gs (poked_by w n o)
    poke_on (Some ev) e = s
    poke_on None e = moved_synced (Some go) w.wire (λ a b. put_each w.node n (z (Some go) w.wire) (λ b t. came a t.pending ++ w.wire a b ≡ queue w a b)
        (sym (ap (λ o. came a o ++ w.wire a n) e)) (λ b _. refl) b)

    pub poke_synced : Synced gs (poked w n)
    poke_synced = poke_on y.pending refl

    bring_on : (i : ℕ) (o : Option Event) (ls : List Letter) → y.pending ≡ o → w.wire i n ≡ ls → Synced gs (brought w i n o ls)
    bring_on i (Some ev) ls e q = s
    bring_on i None [] e q = s
    bring_on i None (l ∷ ls) e q = moved_synced (Some (letter i l)) (put₂ w.wire i n ls) (bring_queue w n i l ls q e)

    pub deliver_synced : (i : ℕ) → Synced gs (delivered w i n)
    deliver_synced i = bring_on i y.pending (w.wire i n) refl refl

  -- GOOD, AND IN STEP; and `later` is told only where the roll is full
  pub record InStep (w : World) : Type 0 where
    pub good : Good gs w
    pub synced : Synced gs w
    pub full : FullRolls w

  pub keeps_step : Keeps gs InStep
  keeps_step = record {
    steps = λ w i lt h. record {
      good = step_good gs eight fine w i lt h.good;
      synced = step_synced w i lt h.good h.synced;
      full = (keeps_full gs).steps w i lt h.full;
    };
    pokes = λ w i lt h. record {
      good = poke_good gs eight fine w i lt h.good;
      synced = poke_synced w i lt h.good h.synced;
      full = (keeps_full gs).pokes w i lt h.full;
    };
    delivers = λ w i j li lj h. record {
      good = deliver_good gs eight fine w i j li lj h.good;
      synced = deliver_synced w j lj h.good h.synced i;
      full = (keeps_full gs).delivers w i j li lj h.full;
    };
    falls = λ w i lt h. record {
      good = fall_good gs eight fine w i lt h.good;
      synced = fall_synced w i lt h.good h.synced;
      full = (keeps_full gs).falls w i lt h.full;
    };
  }
