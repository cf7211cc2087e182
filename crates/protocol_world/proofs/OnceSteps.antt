-- How often one row stands on the wall: what each step, poke, letter and strike leaves of it.
use Rattle.std.proofs.Common.{◌≡◌, ℕ, suc, ◌+◌, ◌*◌, ◌/◌, ◌<◌, ◌≤◌, Bool, true, false, not, ◌&&◌, eqb, leb, ltb, List, [], ◌∷◌, length, get_or, Some, None, Option, sym, refl, ap, ap₂, ◌∙◌, subst, inl, inr, arith}
use Rattle.std.proofs.lemmas.Bool.{ltb-false, and_parts, and_from, ne_eqb, not_from_false, lt-ltb, leb-true, eq-eqb}
use Rattle.sums.specs.Cells.{slots}
use Rattle.sums.specs.Parts.{no_reading}
use Rattle.sums.specs.Sums.{pick, Gauges, comes_up}
use Rattle.sums.proofs.Picks.{pick_both, pick_true}
use Rattle.machine.specs.Log.{is_telling}
use Rattle.machine.specs.Run.{nth_row}
use Rattle.protocol.specs.Adder.{tells_slot, place, entry_heard, from_slot, comes_heard}
use Rattle.protocol.specs.Boot.{rooted}
use Rattle.protocol.specs.Checkpoints.{pausing}
use Rattle.protocol.specs.Choose.{chooses}
use Rattle.protocol.specs.Limits.{kept_pages, crew, half_roll}
use Rattle.protocol.specs.Mail.{with_letter}
use Rattle.protocol.specs.Memory.{Cursor, Memory}
use Rattle.protocol.specs.Phases.{Phase, asleep, asks_root, asks_page, asks_cursor, placing, placed, ready, noting, saving, Event, letter, go, Act, from, let_go, more, Reaction}
use Rattle.protocol.specs.Reader.{is_reading, PageSet, no_set, first_set, second_set}
use Rattle.protocol.specs.Reading.{reads, ends}
use Rattle.protocol.specs.Searches.{put}
use Rattle.protocol.specs.Statements.{Letter}
use Rattle.protocol.specs.Step.{reacts}
use Rattle.protocol.proofs.Choosing.{on_chooses, slot_left, HourIs}
use Rattle.protocol.proofs.Puts.{put_same}
use Rattle.protocol.proofs.Searches.{Found}
use Rattle.protocol_world.specs.Log.{shown}
use Rattle.protocol_world.specs.Runs.{poked, poked_by, delivered, brought, fallen}
use Rattle.protocol_world.specs.Worlds.{Node, World, with_node, faulty, after, done, one_step, told_next}
use Rattle.protocol_world.proofs.Fronts.{front, front_by, AtOrBefore}
use Rattle.protocol_world.proofs.Invariant.{row, hours, Before, Knows, AtWork, Awaits, is_waking, is_asking_root, is_asking_page, is_asking_cursor, is_placing, is_placed, is_noting, is_saving, is_going, is_reading_one, is_full, is_ending, is_given, is_resting, is_pausing, Good}
use Rattle.protocol_world.proofs.Once.{owner, Noted, ExactIs, exact_set, exact_as, exact_same, exact_told, exact_unexposed, exact_exposed}
use Rattle.protocol_world.proofs.Readers.{RowFine}
use Rattle.protocol_world.proofs.Choices.{truth}
use Rattle.protocol_world.proofs.Events.{taken_room, takes_pause, Taken, taken_good, takes_reading, takes_end, takes_letter_in}
use Rattle.protocol_world.proofs.Telling.{not_past}
use Rattle.protocol_world.proofs.TwoSteps.{two_steps, going_work}

module _ (gs : Gauges) (eight : length gs ≡ crew) (fine : (i : ℕ) → i < crew → RowFine (row gs i)) (low : (g k : ℕ) → comes_up gs g k ≡ true → k < crew * slots)
    (h k : ℕ) (c : ℕ) (just : Bool) where
  stays : (d : Cursor) → AtOrBefore d d
  stays d = inr (refl, omega arith)

  -- whether the adder of the place has just told the row, after an act of node i
  abbrev pub just_after : ℕ → Act → Bool
  just_after i d = pick (eqb (owner gs h k) i) (is_telling h k (shown d)) just

  abbrev pub After : World → ℕ → Reaction → Type 0
  After w i d = ExactIs gs h k c (just_after i d.act) (done gs w i d)

  module _ (w : World) (i : ℕ) (lt : i < crew) (g : Good gs w) (o : ExactIs gs h k c just w) where
    abbrev x : Node
    x = w.node i

    -- the same cursor, or one further, and no row is told
    still : (t : Bool) (p : Phase) → x.phase ≡ p → (x₁ : Node) → AtOrBefore (front_by p x.cursor) (front x₁) → Noted gs h k t x₁.phase → (v : World) →
        v.node ≡ put w.node i x₁ → v.told ≡ w.told →
        ExactIs gs h k c (pick (eqb (owner gs h k) i) t just) v
    still t p e x₁ le nt = exact_set gs h k c just w o i t x₁ (subst (λ q. AtOrBefore (front_by q x.cursor) (front x₁)) (sym e) le) nt

    -- TOLD TO GO ON
    module _ (e : x.phase ≡ ready) (a : AtWork gs w.told i x) (at : is_reading x.memory.reader.stage ≡ true → x.reads_at ≡ x.memory.reader.pos) where
      abbrev b : Memory
      b = x.memory

      behind : (m s : ℕ) → Found (slot_left b m) slots s → b.cursor.hour ≡ m → b.cursor.slot ≤ s
      behind m s f q =
          let r = leb-true (from_slot b.cursor m) s (and_parts (leb (from_slot b.cursor m) s) (comes_heard b m (place b s)) f.holds).0 in
          subst (λ t. pick t b.cursor.slot 0 ≤ s) (eq-eqb b.cursor.hour m q) r

      tells_exact : (m : ℕ) → HourIs b m → (s : ℕ) → Found (slot_left b m) slots s → After w i (tells_slot b m (Some s))
      tells_exact m hr s f =
          let past = not_past gs eight i lt b a.memory.me (truth gs eight fine w i lt g b a.memory (g.cross.knows i lt) a.clear a.room a.newer at) m hr in
          exact_told gs h k c just w o i m s (record { hour = m; place = place b s; entry = entry_heard b m (place b s) }) refl (omega (arith, a.memory.me, lt))
          (omega (arith, a.memory.me, lt))
          (subst (λ (d : Cursor). Before gs m (place b s) d.hour d.slot → ⊥) (a.memory.cursor ∙ sym (ap (λ q. front_by q x.cursor) e))
          (not_before m s f past (omega (arith, a.memory.me, lt))))
          (after x (noting m s) b (Some go)) refl refl
        where
          not_before : (m s : ℕ) → Found (slot_left b m) slots s → b.cursor.hour ≤ m → place b s / crew ≡ s →
              Before gs m (place b s) b.cursor.hour b.cursor.slot → ⊥
          not_before m s f past sl (inl l) = omega arith
          not_before m s f past sl (inr l) = omega (arith, l.1, behind m s f (sym l.0))

      chooses_exact : After w i (chooses b)
      chooses_exact = on_chooses b (λ d. After w i d) (record {
        reads = λ _. pick_both (leb (length (nth_row gs i)) x.reads_at) _ _ (ExactIs gs h k c (just_after i more))
            (λ _. still false ready e _ (stays x.cursor) tt _ refl refl)
            (λ _. pick_both (ltb x.reads_at (x.gone + 4096)) _ _ (ExactIs gs h k c (just_after i more))
            (λ _. still false ready e _ (stays x.cursor) tt _ refl refl) (λ _. still false ready e _ (stays x.cursor) tt _ refl refl));
        tells = tells_exact;
        passes = λ m hr f.
            let past = not_past gs eight i lt b a.memory.me (truth gs eight fine w i lt g b a.memory (g.cross.knows i lt) a.clear a.room a.newer at) m hr in
            still false ready e _ (inl (omega (arith, subst (λ (d : Cursor). d.hour ≤ m) a.memory.cursor past))) tt _ refl refl;
        goes = λ may. pick_both (leb x.gone b.reader.pos && leb b.reader.pos (x.gone + 4096)) _ _ (ExactIs gs h k c (just_after i (from 0)))
            (λ _. still false ready e _ (stays x.cursor) tt _ refl refl)
            (λ _. exact_same gs h k c just w o i false (subst (Noted gs h k false) (sym e) tt) (faulty w) refl refl);
        sends = λ j f. let apart : i ≡ j → ⊥ = λ q. a.memory.others j f.holds (sym q) in
            pick_true (ltb j crew && not (eqb i j)) _ _ (ExactIs gs h k c (pick (eqb (owner gs h k) i) false just))
            (and_from (ltb j crew) (not (eqb i j)) (lt-ltb j crew f.below) (not_from_false (eqb i j) (ne_eqb i j apart)))
            (still false ready e _ (stays x.cursor) tt _ refl refl);
        rests = λ q. still false ready e _ (stays x.cursor) tt _ refl refl;
      })

  go_exact : (w : World) (i : ℕ) (lt : i < crew) (g : Good gs w) → ExactIs gs h k c just w → (w.node i).phase ≡ ready → (w.node i).pending ≡ Some go →
      ExactIs gs h k c (just_after i (chooses (w.node i).memory).act) (one_step gs w i)
  go_exact w i lt g o p at =
      let a = going_work gs w.told i (w.node i) (w.node i).phase (w.node i).pending (g.own i lt).awaits p at in
      subst (ExactIs gs h k c (just_after i (chooses (w.node i).memory).act)) (sym (ap₂ (λ q t. told_next gs w i q t) p at))
      (chooses_exact w i lt g o p a.0 a.1)

  module _ (w : World) (i : ℕ) (lt : i < crew) (g : Good gs w) (o : ExactIs gs h k c just w) where
    abbrev y : Node
    y = w.node i

    abbrev half : Memory → World
    half b = with_node w i (after y ready b (Some go))

    -- nothing was done, and it is told of something
    still_as : (p : Phase) → y.phase ≡ p → (x₁ : Node) → AtOrBefore (front_by p y.cursor) (front x₁) → (owner gs h k ≡ i → Noted gs h k just x₁.phase) →
        (v : World) → v.node ≡ put w.node i x₁ → v.told ≡ w.told →
        ExactIs gs h k c just v
    still_as p e x₁ le nt = exact_as gs h k c just w o i x₁ (subst (λ q. AtOrBefore (front_by q y.cursor) (front x₁)) (sym e) le) nt

    then_exact : (b : Memory) → Taken gs eight fine w i lt g b → y.phase ≡ ready → After w i (chooses b)
    then_exact b t e =
        subst (ExactIs gs h k c (just_after i (chooses b).act)) (two_steps gs w i b t.memory.others (taken_room gs eight fine w i lt g b t))
        (subst (λ (z : Node). ExactIs gs h k c (just_after i (chooses z.memory).act) (one_step gs (half b) i)) (put_same w.node i (after y ready b (Some go)))
        (go_exact (half b) i lt (taken_good gs eight fine w i lt g b t) (still_as ready e (after y ready b (Some go)) (stays y.cursor)
        (λ _. tt) (half b) refl refl)
        (ap (λ (z : Node). z.phase) (put_same w.node i (after y ready b (Some go))))
        (ap (λ (z : Node). z.pending) (put_same w.node i (after y ready b (Some go))))))

    know : Knows gs (hours gs w) i y.memory
    know = g.cross.knows i lt

    same : (p : Phase) → y.phase ≡ p → (x₁ : Node) → AtOrBefore (front_by p y.cursor) (front x₁) → Noted gs h k false x₁.phase →
        ExactIs gs h k c (pick (eqb (owner gs h k) i) false just) (with_node w i x₁)
    same p e x₁ le nt = still w i lt g o false p e x₁ le nt (with_node w i x₁) refl refl

    rooted_exact : y.phase ≡ asks_root → (t : PageSet) → After w i (rooted y.memory y.root t)
    rooted_exact e no_set = same asks_root e _ (stays y.cursor) tt
    rooted_exact e first_set = same asks_root e _ (stays y.cursor) tt
    rooted_exact e second_set = same asks_root e _ (stays y.cursor) tt

    faults : (p : Phase) → y.phase ≡ p → Noted gs h k false p → ExactIs gs h k c (pick (eqb (owner gs h k) i) false just) (faulty w)
    faults p e nt = exact_same gs h k c just w o i false (subst (Noted gs h k false) (sym e) nt) (faulty w) refl refl

    abbrev pub next_just : Phase → Option Event → Bool
    next_just p None = just
    next_just p (Some ev) = just_after i (reacts p y.memory ev).act

    steps_exact : (p : Phase) (ho : Option Event) → y.phase ≡ p → y.pending ≡ ho → Awaits gs w.told i y p ho →
        ExactIs gs h k c (next_just p ho) (told_next gs w i p ho)
    steps_exact _ _ e q is_waking = same asleep e _ (stays y.cursor) tt
    steps_exact _ _ e q (is_asking_root me) = rooted_exact e y.root.set
    steps_exact _ _ e q (is_asking_page m pg there me no_c ln has st at set kp bs sm bare) =
        pick_both (ltb (suc m) kept_pages) _ _ (λ (d : Reaction). After w i d)
        (λ _. same (asks_page m) e _ (stays y.cursor) tt) (λ _. same (asks_page m) e _ (stays y.cursor) tt)
    steps_exact _ _ e q (is_asking_cursor me no_c r at set kp bs rd) = pick_both (leb y.gone y.memory.reader.pos && leb y.memory.reader.pos (y.gone + 4096)) _ _
        (ExactIs gs h k c (just_after i (from 0)))
        (λ _. same asks_cursor e _ (stays y.cursor) tt) (λ _. faults asks_cursor e tt)
    steps_exact _ _ e q (is_placing is f) = pick_both (leb y.gone y.memory.reader.pos && leb y.memory.reader.pos (y.gone + 4096)) _ _
        (ExactIs gs h k c (just_after i (from 0)))
        (λ _. same placing e _ (stays y.cursor) tt) (λ _. faults placing e tt)
    steps_exact _ _ e q (is_placed is f at) = pick_both (leb y.gone y.memory.reader.pos && leb y.memory.reader.pos y.reads_at) _ _
        (ExactIs gs h k c (just_after i (let_go 0)))
        (λ _. same placed e _ (stays y.cursor) tt) (λ _. faults placed e tt)
    steps_exact _ _ e q (is_noting m s a at le d some few next empty) = same (noting m s) e _ (stays (record { hour = m; slot = suc s })) tt
    steps_exact _ _ e q (is_saving m a lm ms sm) = pick_both (ltb (suc m) kept_pages) _ _ (λ (d : Reaction). After w i d)
        (λ _. same (saving m) e _ (stays y.cursor) tt) (λ _. same (saving m) e _ (stays y.cursor) tt)
    steps_exact _ _ e q (is_going a at) = chooses_exact w i lt g o e a at
    steps_exact _ _ e q (is_reading_one a r l at hi) = then_exact (reads y.memory y.memory.reader.stage (get_or (row gs i) y.memory.reader.pos no_reading))
        (takes_reading gs eight fine w i lt g know a r l at hi) e
    steps_exact _ _ e q (is_full a r at full) = pick_both (leb (y.memory.reader.kept + half_roll) y.memory.reader.pos) _ _ (λ (d : Reaction). After w i d)
        (λ _. same ready e _ (stays y.cursor) tt) (λ _. then_exact (pausing y.memory) (takes_pause gs eight fine w i lt g know a at) e)
    steps_exact _ _ e q (is_ending a r le) = pick_both (ltb y.memory.reader.kept y.memory.reader.pos) _ _ (λ (d : Reaction). After w i d)
        (λ _. same ready e _ (stays y.cursor) tt)
        (λ t. then_exact (ends y.memory y.memory.reader.stage) (takes_end gs eight fine w i lt g know a (omega (
          arith,
          a.memory.kept,
          a.newer,
          ltb-false y.memory.reader.kept y.memory.reader.pos t,
        )) r le) e)
    steps_exact _ _ e q (is_given j l lj ne a at) = then_exact (with_letter y.memory j l) (takes_letter_in gs eight fine w i lt g know a j l lj ne at q) e
    steps_exact _ _ e q (is_resting a r) = o
    steps_exact _ _ e q (is_pausing a r at) = o

    pub step_exact : ExactIs gs h k c (next_just y.phase y.pending) (one_step gs w i)
    step_exact = steps_exact y.phase y.pending refl refl (g.own i lt).awaits

    -- nothing is done at a poke, or when a letter comes
    noted_here : owner gs h k ≡ i → Noted gs h k just y.phase
    noted_here q = subst (λ a. Noted gs h k just (w.node a).phase) q o.at.noted

    poke_on : (ho : Option Event) → ExactIs gs h k c just (poked_by w i ho)
    poke_on None = still_as y.phase refl (after y y.phase y.memory (Some go)) (stays (front y)) noted_here _ refl refl
    poke_on (Some ev) = o

    pub poke_exact : ExactIs gs h k c just (poked w i)
    poke_exact = poke_on y.pending

    deliver_on : (a : ℕ) (ho : Option Event) (ls : List Letter) → ExactIs gs h k c just (brought w a i ho ls)
    deliver_on a (Some ev) ls = o
    deliver_on a None [] = o
    deliver_on a None (l ∷ ls) = still_as y.phase refl (after y y.phase y.memory (Some (letter a l))) (stays (front y)) noted_here _ refl refl

    pub deliver_exact : (a : ℕ) → ExactIs gs h k c just (delivered w a i)
    deliver_exact a = deliver_on a y.pending (w.wire a i)

    -- A FALL
    module _ (n : ℕ) (le : c ≤ n) (counted : owner gs h k ≡ i → just ≡ true → suc c ≤ n) where
      abbrev Fallen : Type 0
      Fallen = ExactIs gs h k n (pick (eqb (owner gs h k) i) false just) (fallen w i)

      unexposed : (p : Phase) → y.phase ≡ p → AtOrBefore (front_by p y.cursor) y.cursor → Fallen
      unexposed p e b = exact_unexposed gs h k c just w o i n le counted g.right (low h k) p e b

      fall_on : (p : Phase) (ho : Option Event) → y.phase ≡ p → Awaits gs w.told i y p ho → Fallen
      fall_on _ _ e (is_noting m s a at lm d some few next empty) = exact_exposed gs h k c just w o i n le counted g.right (low h k) m s e next
      fall_on _ _ e is_waking = unexposed asleep e (stays y.cursor)
      fall_on _ _ e (is_asking_root me) = unexposed asks_root e (stays y.cursor)
      fall_on _ _ e (is_asking_page m pg there me no_c ln has st at set kp bs sm bare) = unexposed (asks_page m) e (stays y.cursor)
      fall_on _ _ e (is_asking_cursor me no_c r at set kp bs rd) = unexposed asks_cursor e (stays y.cursor)
      fall_on _ _ e (is_placing is f) = unexposed placing e (stays y.cursor)
      fall_on _ _ e (is_placed is f at) = unexposed placed e (stays y.cursor)
      fall_on _ _ e (is_saving m a lm ms sm) = unexposed (saving m) e (stays y.cursor)
      fall_on _ _ e (is_going a at) = unexposed ready e (stays y.cursor)
      fall_on _ _ e (is_reading_one a r l at hi) = unexposed ready e (stays y.cursor)
      fall_on _ _ e (is_full a r at full) = unexposed ready e (stays y.cursor)
      fall_on _ _ e (is_ending a r b) = unexposed ready e (stays y.cursor)
      fall_on _ _ e (is_given j l lj ne a at) = unexposed ready e (stays y.cursor)
      fall_on _ _ e (is_resting a r) = unexposed ready e (stays y.cursor)
      fall_on _ _ e (is_pausing a r at) = unexposed ready e (stays y.cursor)

      pub fall_exact : Fallen
      fall_exact = fall_on y.phase y.pending refl (g.own i lt).awaits
