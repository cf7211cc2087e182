-- One machine changes: a good world stays good, where the machine's own part is good and what it says is true.
use Rattle.std.proofs.Common.{◌≡◌, ℕ, suc, ◌<◌, ◌≤◌, true, List, [], ◌∷◌, ◌++◌, length, Some, Option, sym, refl, subst, arith}
use Rattle.sums.specs.Sums.{every, Gauges}
use Rattle.sums.proofs.Everys.{every_last}
use Rattle.protocol.specs.Limits.{crew}
use Rattle.protocol.specs.Memory.{Memory}
use Rattle.protocol.specs.Phases.{Phase, Event, go}
use Rattle.protocol.specs.Searches.{put, put₂}
use Rattle.protocol.specs.Statements.{Letter}
use Rattle.protocol.proofs.Puts.{put_each, put₂_each}
use Rattle.protocol.proofs.Tables.{hour_at}
use Rattle.protocol_world.specs.Wall.{Told, is_right}
use Rattle.protocol_world.specs.Worlds.{Node, World, with_node, with_sending, with_telling}
use Rattle.protocol_world.proofs.Facts.{fact_later}
use Rattle.protocol_world.proofs.Invariant.{EachIs, came, queue, row, CursorIs, AtWork, Awaits, is_waking, is_asking_root, is_asking_page, is_asking_cursor, is_placing, is_placed, is_noting, is_saving, is_going, is_reading_one, is_full, is_ending, is_given, is_resting, is_pausing, Own, hours, LetterIs, Knows, Cross, Good}
use Rattle.protocol_world.proofs.Letters.{each_back, each_front, each_join, each_one, each_map, NoLetter}
use Rattle.protocol_world.proofs.Telling.{cursor_more}

-- a node with the same drawers
abbrev pub like : Node → Phase → Memory → Option Event → ℕ → Node
like x p b ev at = record { phase = p; memory = b; pending = ev; reads_at = at; gone = x.gone; root = x.root; pages = x.pages; cursor = x.cursor }

pub no_letter : (a : ℕ) → came a (Some go) ≡ []
no_letter a = refl

module _ (gs : Gauges) where
  -- WHAT STAYS AS HOURS RISE, AND AS MORE IS TOLD
  module _ (H H₁ : ℕ → ℕ) (rises : (j : ℕ) → H j ≤ H₁ j) where
    letter_later : (a b : ℕ) (l : Letter) → LetterIs gs H a b l → LetterIs gs H₁ a b l
    letter_later a b l k = record {
      fact = fact_later (row gs a) b (H b) (H₁ b) (rises b) l.says k.fact;
      passed = omega (arith, k.passed, rises a);
      apart = k.apart;
    }

    knows_later : (i : ℕ) (b : Memory) → Knows gs H i b → Knows gs H₁ i b
    knows_later i b k = record {
      words = λ a lt. fact_later (row gs a) i (H i) (H₁ i) (rises i) (b.mail.word a) (k.words a lt);
      passed = λ a lt. omega (arith, k.passed a lt, rises a);
      behind = λ j lj p lp l. omega (arith, k.behind j lj p lp l, rises j);
    }

    pub cross_later : (w : World) → Cross gs H w → Cross gs H₁ w
    cross_later w c = record {
      before = λ i j li lj p lp lt. omega (arith, c.before i j li lj p lp lt, rises j);
      knows = λ i lt. knows_later i _ (c.knows i lt);
      letters = λ a b la lb. each_map (LetterIs gs H a b) (LetterIs gs H₁ a b) (letter_later a b) (queue w a b) (c.letters a b la lb);
    }

  module _ (ts new : List Told) (i : ℕ) (x : Node) where
    work_more : AtWork gs ts i x → AtWork gs (ts ++ new) i x
    work_more k = record { memory = k.memory; clear = k.clear; room = k.room; newer = k.newer }

    awaits_more : (p : Phase) (o : Option Event) → Awaits gs ts i x p o → Awaits gs (ts ++ new) i x p o
    awaits_more _ _ is_waking = is_waking
    awaits_more _ _ (is_asking_root e) = is_asking_root e
    awaits_more _ _ (is_asking_page q pg there me no_c lt some st at set kp bs same bare) = is_asking_page q pg there me no_c lt some st at set kp bs same bare
    awaits_more _ _ (is_asking_cursor e no_c r at set kp bs rd) = is_asking_cursor e no_c r at set kp bs rd
    awaits_more _ _ (is_placing b e) = is_placing b e
    awaits_more _ _ (is_placed b e at) = is_placed b e at
    awaits_more _ _ (is_noting m s k at le c some few next empty) = is_noting m s (work_more k) at le (cursor_more gs ts new i m (suc s) c) some few next empty
    awaits_more _ _ (is_saving q k lt m same) = is_saving q (work_more k) lt m same
    awaits_more _ _ (is_going k at) = is_going (work_more k) at
    awaits_more _ _ (is_reading_one k r lt at hi) = is_reading_one (work_more k) r lt at hi
    awaits_more _ _ (is_full k r at full) = is_full (work_more k) r at full
    awaits_more _ _ (is_ending k r le) = is_ending (work_more k) r le
    awaits_more _ _ (is_given j l lt ne k at) = is_given j l lt ne (work_more k) at
    awaits_more _ _ (is_resting k q) = is_resting (work_more k) q
    awaits_more _ _ (is_pausing k r at) = is_pausing (work_more k) r at

    own_more : Own gs ts i x → Own gs (ts ++ new) i x
    own_more o = record {
      low = o.low;
      high = o.high;
      root = o.root;
      cursor = cursor_more gs ts new i x.cursor.hour x.cursor.slot o.cursor;
      hour = o.hour;
      slot = o.slot;
      awaits = awaits_more x.phase x.pending o.awaits;
    }

  -- ONE NODE CHANGES
  module _ (w : World) (i : ℕ) (lt : i < crew) (g : Good gs w) where
    abbrev x : Node
    x = w.node i

    abbrev H : ℕ → ℕ
    H = hours gs w

    -- in what it has between it and others
    pub record Change (x₁ : Node) : Type 0 where
      pub rises : x.cursor.hour ≤ x₁.cursor.hour
      pub before : (j : ℕ) → j < crew → (p : ℕ) → p < length (row gs i) → hour_at (row gs i) p < x₁.root.hour → hour_at (row gs i) p < H j
      pub knows : Knows gs H i x₁.memory

    abbrev with_all : Node → (ℕ → ℕ → List Letter) → List Told → World
    with_all x₁ wires ts = record { node = put w.node i x₁; wire = wires; told = ts; fault = w.fault }

    module _ (x₁ : Node) (c : Change x₁) where
      pub changed : (wires : ℕ → ℕ → List Letter) (ts : List Told) → every (is_right gs) ts ≡ true → Own gs ts i x₁ →
          ((j : ℕ) → j < crew → Own gs ts j (w.node j)) →
          ((a b : ℕ) → a < crew → b < crew → EachIs (LetterIs gs H a b) (queue (with_all x₁ wires ts) a b)) → Good gs (with_all x₁ wires ts)
      changed wires ts right own others letters =
          let rises : (j : ℕ) → H j ≤ hours gs (with_all x₁ wires ts) j = put_each w.node i x₁ (λ j y. H j ≤ y.cursor.hour) c.rises (λ j _. omega arith) in
          record {
            fault = g.fault;
            right = right;
            own = put_each w.node i x₁ (λ j y. j < crew → Own gs ts j y) (λ _. own) (λ j _. others j);
            cross = cross_later H (hours gs (with_all x₁ wires ts)) rises (with_all x₁ wires ts) (record {
              before = λ k j lk lj. put_each w.node i x₁ (λ k y. k < crew → (p : ℕ) → p < length (row gs k) → hour_at (row gs k) p < y.root.hour →
                  hour_at (row gs k) p < H j)
                  (λ _. c.before j lj) (λ k _ lk. g.cross.before k j lk lj) k lk;
              knows = put_each w.node i x₁ (λ k y. k < crew → Knows gs H k y.memory) (λ _. c.knows) (λ k _. g.cross.knows k);
              letters = letters;
            });
          }

      -- the queues, where no letter is told next
      pub wires_good : (a b : ℕ) → a < crew → b < crew → EachIs (LetterIs gs H a b) (w.wire a b)
      wires_good a b la lb = each_back (LetterIs gs H a b) (came a (w.node b).pending) (w.wire a b) (g.cross.letters a b la lb)

      pub queues : (wires : ℕ → ℕ → List Letter) (ts : List Told) → NoLetter x₁.pending →
          ((a b : ℕ) → a < crew → b < crew → EachIs (LetterIs gs H a b) (wires a b)) →
          (a b : ℕ) → a < crew → b < crew → EachIs (LetterIs gs H a b) (queue (with_all x₁ wires ts) a b)
      queues wires ts none good a b la lb = put_each w.node i x₁ (λ b y. b < crew → EachIs (LetterIs gs H a b) (came a y.pending ++ wires a b))
          (λ l. subst (λ q. EachIs (LetterIs gs H a i) (q ++ wires a i)) (sym (none a)) (good a i la l))
          (λ b _ l. each_join (LetterIs gs H a b) (came a (w.node b).pending) (wires a b)
          (each_front (LetterIs gs H a b) (came a (w.node b).pending) (w.wire a b) (g.cross.letters a b la l)) (good a b la l)) b lb

      pub set_good : NoLetter x₁.pending → Own gs w.told i x₁ → Good gs (with_node w i x₁)
      set_good none own = changed w.wire w.told g.right own g.own (queues w.wire w.told none wires_good)

      pub send_good : (j : ℕ) (l : Letter) → NoLetter x₁.pending → j < crew → LetterIs gs H i j l → Own gs w.told i x₁ → Good gs (with_sending w i x₁ j l)
      send_good j l none lj is own =
          changed (put₂ w.wire i j (w.wire i j ++ l ∷ [])) w.told g.right own g.own (queues _ w.told none
          (λ a b la lb. put₂_each w.wire i j (w.wire i j ++ l ∷ []) (λ a b ls. a < crew → b < crew → EachIs (LetterIs gs H a b) ls)
          (λ la lb. each_join (LetterIs gs H i j) (w.wire i j) (l ∷ []) (wires_good i j la lb) (each_one (LetterIs gs H i j) l is))
          (λ a b _. wires_good a b) a b la lb))

      pub tell_good : (t : Told) → NoLetter x₁.pending → is_right gs t ≡ true → Own gs (w.told ++ t ∷ []) i x₁ → Good gs (with_telling w i x₁ t)
      tell_good t none ok own =
          changed w.wire (w.told ++ t ∷ []) (every_last (is_right gs) w.told t g.right ok) own
          (λ j l. own_more w.told (t ∷ []) j (w.node j) (g.own j l)) (queues w.wire (w.told ++ t ∷ []) none wires_good)

    abbrev o : Own gs w.told i x
    o = g.own i lt

    pub own_as : (ts : List Told) (p : Phase) (b : Memory) (ev : Option Event) (at : ℕ) → CursorIs gs ts i x.cursor.hour x.cursor.slot →
        Awaits gs ts i (like x p b ev at) p ev → Own gs ts i (like x p b ev at)
    own_as ts p b ev at cursor aw = record { low = o.low; high = o.high; root = o.root; cursor = cursor; hour = o.hour; slot = o.slot; awaits = aw }

    pub same_drawers : (x₁ : Node) → x₁.root.hour ≡ x.root.hour → x.cursor.hour ≤ x₁.cursor.hour → Knows gs H i x₁.memory → Change x₁
    same_drawers x₁ e le k = record { rises = le; before = λ j lj p lp l. g.cross.before i j lt lj p lp (omega (arith, e)); knows = k }
