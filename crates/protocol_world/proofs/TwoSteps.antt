-- A step is two: the event is taken in, and then, told to go on, it does what it chooses. What is put twice is as put once.
use Rattle.std.proofs.Common.{◌≡◌, ℕ, ◌+◌, Bool, true, false, ◌&&◌, not, eqb, leb, ltb, List, [], ◌∷◌, ◌++◌, length, Some, Option, sym, refl, ap, ap₂, ◌∙◌}
use Rattle.std.proofs.Math.Path.{fun_ext}
use Rattle.std.proofs.lemmas.Bool.{and_from, lt-ltb, ne_eqb, not_from_false}
use Rattle.sums.specs.Sums.{pick, Gauges}
use Rattle.sums.proofs.Picks.{pick_true}
use Rattle.machine.specs.Run.{nth_row}
use Rattle.protocol.specs.Choose.{chooses}
use Rattle.protocol.specs.Limits.{crew}
use Rattle.protocol.specs.Memory.{Memory}
use Rattle.protocol.specs.Phases.{Phase, ready, Event, go, Act, more, from, let_go, sends, keep_root, keep_page, keep_cursor, recall_root, recall_page, recall_cursor, tells, rests}
use Rattle.protocol.specs.Reader.{is_reading}
use Rattle.protocol.specs.Searches.{put, put₂}
use Rattle.protocol.proofs.Choosing.{on_chooses}
use Rattle.protocol.proofs.Puts.{put_same}
use Rattle.protocol_world.specs.Wall.{Told}
use Rattle.protocol_world.specs.Worlds.{Node, World, with_node, with_sending, after, acted_at, acted, done, told_next, one_step, reading_from}
use Rattle.protocol_world.proofs.Invariant.{AtWork, Awaits, is_waking, is_asking_root, is_asking_page, is_asking_cursor, is_placing, is_placed, is_noting, is_saving, is_going, is_reading_one, is_full, is_ending, is_given, is_resting, is_pausing}

pub put_put : {A : Type 0} (f : ℕ → A) (i : ℕ) (y x : A) → put (put f i y) i x ≡ put f i x
put_put f i y x = fun_ext (λ j. go (eqb j i) j)
  where
    go : (b : Bool) (j : ℕ) → pick b x (pick b y (f j)) ≡ pick b x (f j)
    go true j = refl
    go false j = refl

module _ (gs : Gauges) (w : World) (i : ℕ) (p₀ : Phase) (b₀ : Memory) (ev₀ : Option Event) where
  abbrev y : Node
  y = after (w.node i) p₀ b₀ ev₀

  abbrev half : World
  half = with_node w i y

  nodes : (x : Node) → put (put w.node i y) i x ≡ put w.node i x
  nodes x = put_put w.node i y x

  set_twice : (x : Node) → with_node half i x ≡ with_node w i x
  set_twice x = ap (λ (f : ℕ → Node). record { node = f; wire = w.wire; told = w.told; fault = w.fault }) (nodes x)

  -- what is not refused
  abbrev pub Allowed : Act → Type 0
  Allowed more = Unit {0}
  Allowed (from at) = leb (w.node i).gone at && leb at ((w.node i).gone + 4096) ≡ true
  Allowed (let_go g) = ⊥
  Allowed (sends j l) = ltb j crew && not (eqb i j) ≡ true
  Allowed (keep_root r) = Unit {0}
  Allowed (keep_page t q pg) = Unit {0}
  Allowed (keep_cursor c) = Unit {0}
  Allowed recall_root = Unit {0}
  Allowed (recall_page t q) = Unit {0}
  Allowed recall_cursor = Unit {0}
  Allowed (tells a k s) = Unit {0}
  Allowed rests = Unit {0}

  acted_half : (p : Phase) (b : Memory) (d : Act) → Allowed d → acted_at gs half i y p b d ≡ acted_at gs w i (w.node i) p b d
  acted_half p b more ok =
      ap₂ (λ u v. pick (leb (length (nth_row gs i)) (w.node i).reads_at) u v) (set_twice _)
      (ap₂ (λ u v. pick (ltb (w.node i).reads_at ((w.node i).gone + 4096)) u v) (set_twice _) (set_twice _))
  acted_half p b (from at) ok =
      pick_true (leb (w.node i).gone at && leb at ((w.node i).gone + 4096)) _ _ (λ u. u ≡ acted_at gs w i (w.node i) p b (from at)) ok
      (pick_true (leb (w.node i).gone at && leb at ((w.node i).gone + 4096)) _ _ (λ u. with_node half i (reading_from y p b at) ≡ u) ok (set_twice _))
  acted_half p b (let_go g) ok = absurd ok
  acted_half p b (sends j l) ok =
      pick_true (ltb j crew && not (eqb i j)) _ _ (λ u. u ≡ acted_at gs w i (w.node i) p b (sends j l)) ok
      (pick_true (ltb j crew && not (eqb i j)) _ _ (λ u. with_sending half i (after y p b (Some go)) j l ≡ u) ok
      (ap (λ (f : ℕ → Node). record { node = f; wire = put₂ w.wire i j (w.wire i j ++ l ∷ []); told = w.told; fault = w.fault })
      (nodes (after (w.node i) p b (Some go)))))
  acted_half p b (keep_root r) ok = set_twice _
  acted_half p b (keep_page t q pg) ok = set_twice _
  acted_half p b (keep_cursor c) ok = set_twice _
  acted_half p b recall_root ok = set_twice _
  acted_half p b (recall_page t q) ok = set_twice _
  acted_half p b recall_cursor ok = set_twice _
  acted_half p b (tells a k s) ok =
      ap (λ (f : ℕ → Node). record { node = f; wire = w.wire; told = w.told ++ record { hour = a; place = k; entry = s } ∷ []; fault = w.fault })
      (nodes (after (w.node i) p b (Some go)))
  acted_half p b rests ok = set_twice _

  pub acted_twice : (p : Phase) (b : Memory) (d : Act) → Allowed d → acted gs half i p b d ≡ acted gs w i p b d
  acted_twice p b d ok = ap (λ x. acted_at gs half i x p b d) (put_same w.node i y) ∙ acted_half p b d ok

-- what is chosen is not refused
pub chooses_allowed : (gs : Gauges) (w : World) (i : ℕ) (p₀ : Phase) (b₀ : Memory) (ev₀ : Option Event) (b : Memory) →
    ((j : ℕ) → b.mail.due j ≡ true → j ≡ i → ⊥) → leb (w.node i).gone b.reader.pos && leb b.reader.pos ((w.node i).gone + 4096) ≡ true →
    Allowed gs w i p₀ b₀ ev₀ (chooses b).act
chooses_allowed gs w i p₀ b₀ ev₀ b others room = on_chooses b (λ d. Allowed gs w i p₀ b₀ ev₀ d.act) (record {
  reads = λ _. tt;
  tells = λ m _ s _. tt;
  passes = λ m _ _. tt;
  goes = λ _. room;
  sends = λ j f. and_from (ltb j crew) (not (eqb i j)) (lt-ltb j crew f.below) (not_from_false (eqb i j) (ne_eqb i j (λ q. others j f.holds (sym q))));
  rests = λ _. tt;
})

-- the event is taken in, and then it goes
pub two_steps : (gs : Gauges) (w : World) (i : ℕ) (b : Memory) → ((j : ℕ) → b.mail.due j ≡ true → j ≡ i → ⊥) → leb (w.node i).gone b.reader.pos &&
    leb b.reader.pos ((w.node i).gone + 4096) ≡ true →
    one_step gs (with_node w i (after (w.node i) ready b (Some go))) i ≡ done gs w i (chooses b)
two_steps gs w i b others room =
    ap (λ (x : Node). told_next gs (with_node w i (after (w.node i) ready b (Some go))) i x.phase x.pending)
    (put_same w.node i (after (w.node i) ready b (Some go)))
    ∙ ap (λ (x : Node). done gs (with_node w i (after (w.node i) ready b (Some go))) i (chooses x.memory))
    (put_same w.node i (after (w.node i) ready b (Some go)))
    ∙ acted_twice gs w i ready b (Some go) (chooses b).phase (chooses b).memory (chooses b).act (chooses_allowed gs w i ready b (Some go) b others room)

-- a node that is told to go on has booted, and reads on where it is
module _ (gs : Gauges) where
  pub going_work : (ts : List Told) (i : ℕ) (x : Node) (p : Phase) (o : Option Event) → Awaits gs ts i x p o → p ≡ ready → o ≡ Some go →
      AtWork gs ts i x × (is_reading x.memory.reader.stage ≡ true → x.reads_at ≡ x.memory.reader.pos)
  going_work ts i x _ _ (is_going a at) e q = (a, at)
  going_work ts i x _ _ is_waking e q = cc
  going_work ts i x _ _ (is_asking_root me) e q = cc
  going_work ts i x _ _ (is_asking_page n pg there me no_c lt some st at set kp bs same bare) e q = cc
  going_work ts i x _ _ (is_asking_cursor me no_c r at set kp bs rd) e q = cc
  going_work ts i x _ _ (is_placing is f) e q = cc
  going_work ts i x _ _ (is_placed is f at) e q = cc
  going_work ts i x _ _ (is_noting m s k at le c some few next empty) e q = cc
  going_work ts i x _ _ (is_saving n k lt m same) e q = cc
  going_work ts i x _ _ (is_reading_one k r l at hi) e q = cc
  going_work ts i x _ _ (is_full k r at full) e q = cc
  going_work ts i x _ _ (is_ending k r le) e q = cc
  going_work ts i x _ _ (is_given j l lj ne k at) e q = cc
  going_work ts i x _ _ (is_resting k r) e q = cc
  going_work ts i x _ _ (is_pausing k r at) e q = cc
