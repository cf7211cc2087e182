-- In every world that comes about, numbers are as small as they are to be for a step to have room for them.
use Rattle.std.proofs.Common.{◌≡◌, ℕ, ◌+◌, ◌-◌, ◌*◌, ◌/◌, ◌%◌, ◌<◌, ◌≤◌, Bool, true, leb, List, [], ◌∷◌, ◌++◌, length, Some, None, Option, sym, refl, ap, ◌∙◌, subst, subst₂, ⊎_elim, arith}
use Rattle.std.proofs.lemmas.Option.{same_Some}
use Rattle.std.proofs.lemmas.Bool.{both_ways, cases_lt, le-leb, and_parts}
use Rattle.sums.specs.Cells.{slots}
use Rattle.sums.specs.Parts.{no_reading}
use Rattle.sums.specs.Sums.{pick, every, comes_up, a_reading, Gauges}
use Rattle.sums.proofs.Everys.{every_at}
use Rattle.sums.proofs.Readings.{fits_at}
use Rattle.protocol.specs.Entries.{Entry, nothing_yet, entry_of, row_entry, entry_of_all, same_entry}
use Rattle.protocol.specs.Limits.{late, crew, kept_pages}
use Rattle.protocol.specs.Memory.{Cursor, Memory, no_cursor, new_memory}
use Rattle.protocol.specs.Phases.{Phase, Event, later, at_end, letter, Act, more, from, let_go, sends, keep_root, keep_page, keep_cursor, recall_root, recall_page, recall_cursor, tells, rests, Reaction}
use Rattle.protocol.specs.Reader.{first_open, is_reading, Stage, begun, whole, ended, PageSet, no_set, first_set, second_set}
use Rattle.protocol.specs.Statements.{Statement, nothing, has_begun, is_whole, has_ended, Letter}
use Rattle.protocol.specs.Step.{reacts}
use Rattle.protocol.specs.Tables.{Page, Tables, blank, blank_page}
use Rattle.protocol.proofs.Entries.{entry_most, entry_whole, same_is}
use Rattle.protocol.proofs.Sums.{sum_scaled}
use Rattle.protocol.proofs.Tables.{hour_at, taken_blank, PartOf}
use Rattle.protocol_world.specs.Sizes.{Timely, expects, PageBlank, EntrySized, top, longest, PageSized, NextSized, StageSized, WordSized, OpenSized, MemorySized, EventSized, MemoryThere, Sized}
use Rattle.protocol_world.specs.Wall.{is_right, Told}
use Rattle.protocol_world.specs.Worlds.{Node, World, after, acted, done, told_next, one_step}
use Rattle.protocol_world.proofs.ActSizes.{ToldSized, reacts_fine}
use Rattle.protocol_world.proofs.AllRows.{all_entry}
use Rattle.protocol_world.proofs.Facts.{Fact, NextIs, Near, HasHour}
use Rattle.protocol_world.proofs.Invariant.{MaySave, EachIs, came, row, Began, kept_tables, ReaderIs, RootIs, MemoryIs, Reached, at_start, reached, Awaits, is_waking, is_asking_root, is_asking_page, is_asking_cursor, is_placing, is_placed, is_noting, is_saving, is_going, is_reading_one, is_full, is_ending, is_given, is_resting, is_pausing, Own, hours, LetterIs, Knows, Good, root_tables}
use Rattle.protocol_world.proofs.Letters.{each_head}
use Rattle.protocol_world.proofs.Queues.{came_same}
use Rattle.protocol_world.proofs.Roots.{page_there}
use Rattle.protocol_world.proofs.Rows.{row_fine}
use Rattle.protocol_world.proofs.Safety.{Known, eight, rows_fine}
use Rattle.protocol_world.proofs.SyncRuns.{keeps_step}
use Rattle.protocol_world.proofs.Together.{In, low}
use Rattle.protocol_world.proofs.Leaves.{acted_mind}

blank_sized : PageSized blank_page
unfolding blank_page
blank_sized = record { entries = λ s _. (omega arith, omega arith, λ _. refl) }

blank_blank : PageBlank blank_page
unfolding blank_page
blank_blank = λ s l. refl

may_reading : (n : ℕ) (b : Memory) (s : Stage) → MaySave n b s → is_reading s ≡ true
may_reading n b (begun f) m = refl
may_reading n b (whole c nx) m = absurd m
may_reading n b ended m = absurd m

-- AN ENTRY
every_end : {A : Type 0} (f : A → Bool) (xs : List A) (x : A) → every f (xs ++ x ∷ []) ≡ true → f x ≡ true
unfolding every
every_end f [] x e = (and_parts (f x) true e).0
every_end f (y ∷ xs) x e = every_end f xs x (and_parts (f y) (every f (xs ++ x ∷ [])) e).1

module _ (gs : Gauges) (known : Known gs) where
  some_low : (i : ℕ) → i < crew → (c : ℕ) → HasHour (row gs i) c → c < top
  some_low i lt c h = omega (arith, low gs known i lt h.0 h.1, h.2)

  reached_low : (h : ℕ) → Reached gs h → h ≤ top
  reached_low h (at_start e) = omega arith
  reached_low h (reached m s le) = omega (arith, some_low s.0 s.1 m s.2)

  row_sized : (i p h k : ℕ) → EntrySized (entry_of (row gs i) p h k)
  row_sized i p h k =
      let most = entry_most (row gs i) p h k (row_fine gs i known.fine).readings in
      let few = (row_fine gs i known.fine).few in
      (omega (arith, most.0, most.1, few), omega (arith, most.1, few), λ e. omega (arith, most.0, e))

  part_sized : (i p h j : ℕ) (pg : Page) → j < crew → PartOf (row gs i) p h j pg → PageSized pg
  part_sized i p h j pg lj d = record {
    entries = λ s l. let k : ℕ = crew * s + j in
        subst (λ n. EntrySized (pg.entries n)) (slot_of s l) (subst EntrySized (sym (d.entries k (adder_of s l)))
        (row_sized i p h k));
  }
    where
      slot_of : (s : ℕ) → s < slots → (crew * s + j) / crew ≡ s
      slot_of s l = omega arith

      adder_of : (s : ℕ) → s < slots → (crew * s + j) % crew ≡ j
      adder_of s l = omega arith

  -- an hour of which nothing has come
  part_blank : (i p h j : ℕ) (pg : Page) → j < crew → ((q : ℕ) → q < p → hour_at (row gs i) q ≡ h → ⊥) → PartOf (row gs i) p h j pg → PageBlank pg
  unfolding blank_page
  part_blank i p h j pg lj none d = λ s l. let k : ℕ = crew * s + j in
      let slot_of : k / crew ≡ s = omega arith in
      let adder_of : k % crew ≡ j = omega arith in
      subst (λ n. pg.entries n ≡ nothing_yet) slot_of (d.entries k adder_of
      ∙ sym ((taken_blank (row gs i) p h (λ q a _ e. none q a e) j lj).entries k adder_of))

  few : (i : ℕ) → length (row gs i) ≤ longest
  few i = (row_fine gs i known.fine).few

  module _ (i : ℕ) (lt : i < crew) where
    near_low : (c : ℕ) → Near (row gs i) c → c < top
    near_low c n = ⊎_elim (λ e. omega arith) (λ q. omega (arith, q.2, (fits_at (row gs i) q.0 (row_fine gs i known.fine).readings q.1).time)) n

    next_sized : (c : ℕ) (nx : Option ℕ) → NextIs (row gs i) c nx → NextSized nx
    next_sized c None n = tt
    next_sized c (Some m) n = near_low m n.2

    -- what a reader has
    record ReaderSized (s : Stage) (pos : ℕ) (t : ℕ → Tables) : Type 0 where
      stage : StageSized s
      at : pos ≤ longest
      pages : OpenSized t s

    reader_sized : (base pos : ℕ) (t : ℕ → Tables) (s : Stage) → ReaderIs (row gs i) base pos t s → ReaderSized s pos t
    reader_sized base pos t (begun f) r = record {
      stage = near_low f r.near;
      at = omega (arith, r.within, few i);
      pages = (
        λ h j le lj. part_sized i pos h j ((t h).page j) lj (r.tables h le j lj),
        λ h j l lj. part_blank i pos h j ((t h).page j) lj
            (λ q a e. absurd (omega (arith, r.high q a, e, l))) (r.tables h (omega (arith, l)) j lj),
      );
    }
    reader_sized base pos t (whole c nx) r =
        record {
          stage = (near_low c r.0.near, next_sized c nx r.1.after);
          at = omega (arith, r.0.within, few i);
          pages = (
            λ h j le lj. part_sized i pos h j ((t h).page j) lj (r.0.tables h le j lj),
            λ h j l lj. part_blank i pos h j ((t h).page j) lj
                (λ q a e. absurd (omega (arith, r.0.high q a, e, l))) (r.0.tables h (omega (arith, l)) j lj),
          );
        }
    reader_sized base pos t ended r = record { stage = tt; at = omega (arith, r.0, few i); pages = tt }

    -- one page of those that are kept
    kept_sized : (pages : ℕ → Page) (f p : ℕ) → Began (row gs i) f p f (kept_tables (row gs i) pages f) → (q : ℕ) → q < kept_pages → PageSized (pages q)
    kept_sized pages f p r q lq =
        let h : ℕ = f + q / crew in
        let j : ℕ = q % crew in
        let d : PageSized ((kept_tables (row gs i) pages f h).page j) = part_sized i p h j ((kept_tables (row gs i) pages f h).page j) (omega arith)
        (r.tables h (omega arith) j (omega arith)) in
        let in_set : leb h (f + late) ≡ true = le-leb h (f + late) (omega arith) in
        let x : Tables = record { page = λ j. pages (crew * (h - f) + j) } in
        let same : crew * (h - f) + j ≡ q = omega arith in
        subst (λ n. PageSized (pages n)) same (subst (λ b. PageSized ((pick b x blank).page j)) in_set d)

  word_sized : (i : ℕ) → i < crew → (a h : ℕ) → a < crew → (s : Statement) → Fact (row gs a) i h s → WordSized s
  word_sized i lt a h la nothing f = tt
  word_sized i lt a h la (has_begun c) f = near_low a la c f.1
  word_sized i lt a h la (is_whole c nx pg) f = (some_low a la c f.here, next_sized a la c nx f.after, part_sized a (length (row gs a)) c i pg lt f.page)
  word_sized i lt a h la has_ended f = tt

  module _ (v : World) (g : Good gs v) where
    hour_low : (i : ℕ) → i < crew → hours gs v i ≤ top
    hour_low i lt = reached_low (hours gs v i) (g.own i lt).hour

    module _ (i : ℕ) (lt : i < crew) where
      abbrev x : Node
      x = v.node i

      o : Own gs v.told i x
      o = g.own i lt

      know : Knows gs (hours gs v) i x.memory
      know = g.cross.knows i lt

      words : (a : ℕ) → a < crew → WordSized (x.memory.mail.word a)
      words a la = word_sized i lt a (hours gs v i) la (x.memory.mail.word a) (know.words a la)

      passed : (a : ℕ) → a < crew → x.memory.mail.passed a ≤ top
      passed a la = omega (arith, know.passed a la, hour_low a la)

      -- what the root record says, and its pages
      record RootSized (page : ℕ → Page) (s : PageSet) (h p : ℕ) : Type 0 where
        hour : h < top
        pos : p ≤ longest
        pages : (s ≡ no_set → ⊥) → (q : ℕ) → q < kept_pages → PageSized (page q)

      root_sized : (page : ℕ → Page) (s : PageSet) (h p : ℕ) → Began (row gs i) h p h (root_tables (row gs i) page s h) → RootSized page s h p
      root_sized page no_set h p r = record { hour = near_low i lt h r.near; pos = omega (arith, r.within, few i); pages = λ some. absurd (some refl) }
      root_sized page first_set h p r = record {
        hour = near_low i lt h r.near;
        pos = omega (arith, r.within, few i);
        pages = λ _ q lq. kept_sized i lt page h p r q lq;
      }
      root_sized page second_set h p r = record {
        hour = near_low i lt h r.near;
        pos = omega (arith, r.within, few i);
        pages = λ _ q lq. kept_sized i lt page h p r q lq;
      }

      root_now : RootSized o.root.page x.root.set x.root.hour x.root.pos
      root_now = root_sized o.root.page x.root.set x.root.hour x.root.pos o.root.began

      -- a page of the root record's set
      page_now : (x.root.set ≡ no_set → ⊥) → (q : ℕ) → q < kept_pages → (pg : Page) → x.pages x.root.set q ≡ Some pg → PageSized pg
      page_now some q lq pg e = subst PageSized (same_Some (o.root.page q) pg (sym (o.root.there some q lq) ∙ e)) (root_now.pages some q lq)

      memory_sized : MemoryIs (row gs i) i x.root x.cursor x.memory → MemorySized x.memory
      memory_sized is =
          let r = reader_sized i lt x.memory.reader.base x.memory.reader.pos x.memory.reader.tables x.memory.reader.stage is.reader in
          record {
            me = omega (arith, is.me);
            stage = r.stage;
            pos = r.at;
            kept = omega (arith, is.kept, root_now.pos);
            pages = r.pages;
            finished = λ e. is.kept ∙ is.finished e;
            hour = subst (λ (c : Cursor). c.hour ≤ top) (sym is.cursor) (hour_low i lt);
            slot = subst (λ (c : Cursor). c.slot ≤ slots) (sym is.cursor) o.slot;
            words = words;
            passed = passed;
          }

      new_sized : (b : Memory) → b ≡ new_memory i → MemorySized b
      new_sized b e = subst MemorySized (sym e) (record {
        me = lt;
        stage = omega arith;
        pos = omega arith;
        kept = omega arith;
        pages = (λ h j le lj. blank_sized, λ h j l lj. blank_blank);
        finished = λ e. cc;
        hour = omega arith;
        slot = omega arith;
        words = λ a la. tt;
        passed =
            λ a la. omega arith;
      })

      -- while it boots
      booting_sized : x.memory.me ≡ i → x.memory.cursor ≡ no_cursor → x.memory.reader.kept ≡ x.root.pos → StageSized x.memory.reader.stage →
          x.memory.reader.pos ≤ longest → OpenSized x.memory.reader.tables x.memory.reader.stage → is_reading x.memory.reader.stage ≡ true →
          MemorySized x.memory
      booting_sized me no_c kp st pos pages rd = record {
        finished = λ e. absurd (both_ways _ (ap is_reading e) rd);
        me = omega (arith, me);
        stage = st;
        pos = pos;
        kept = omega (arith, kp, root_now.pos);
        pages = pages;
        hour = subst (λ (c : Cursor). c.hour ≤ top) (sym no_c) (omega arith);
        slot = subst (λ (c : Cursor). c.slot ≤ slots) (sym no_c) (omega arith);
        words = words;
        passed = passed;
      }

      there_on : (p : Phase) (ev : Option Event) → Awaits gs v.told i x p ev → MemoryThere p x.memory
      there_on _ _ is_waking = tt
      there_on _ _ (is_asking_root e) = new_sized x.memory e
      there_on _ _ (is_asking_page q pg there me no_c lq some st at set kp bs same bare) = (
        booting_sized me no_c kp (subst StageSized (sym st) root_now.hour) (subst (λ n. n ≤ longest) (sym at) root_now.pos)
            (subst (OpenSized x.memory.reader.tables) (sym st) (
              λ h j le lj. ⊎_elim
                  (λ (l : crew * (h - x.root.hour) + j < q). subst PageSized (sym (page_there x.memory.reader.tables x.root.hour h j le lj))
                  (page_now some (crew * (h - x.root.hour) + j) (omega arith) _ (same (crew * (h - x.root.hour) + j) l)))
                  (λ (ge : q ≤ crew * (h - x.root.hour) + j). subst PageSized (sym (bare h j le lj ge)) blank_sized)
                  (cases_lt (crew * (h - x.root.hour) + j) q),
              λ h j l lj. subst PageBlank (sym (bare h j (omega (arith, l)) lj (omega (arith, l, lq)))) blank_blank,
            )) (ap is_reading st),
        lq,
      )
      there_on _ _ (is_asking_cursor me no_c r at set kp bs rd) =
          let k = reader_sized i lt x.root.hour x.memory.reader.pos x.memory.reader.tables x.memory.reader.stage r in
          booting_sized me no_c kp k.stage k.at k.pages rd
      there_on _ _ (is_placing is f) = memory_sized is
      there_on _ _ (is_placed is f at) = memory_sized is
      there_on _ _ (is_noting m s k at le c some lo next empty) = (memory_sized k.memory, some_low some.0 some.1 m some.2, lo)
      there_on _ _ (is_saving q k lq m same) = (memory_sized k.memory, lq, may_reading x.root.pos x.memory x.memory.reader.stage m)
      there_on _ _ (is_going k at) = memory_sized k.memory
      there_on _ _ (is_reading_one k r l at hi) = memory_sized k.memory
      there_on _ _ (is_full k r at full) = memory_sized k.memory
      there_on _ _ (is_ending k r le) = memory_sized k.memory
      there_on _ _ (is_given j l lj ne k at) = memory_sized k.memory
      there_on _ _ (is_resting k q) = memory_sized k.memory
      there_on _ _ (is_pausing k r at) = memory_sized k.memory

      pub there_now : MemoryThere x.phase x.memory
      there_now = there_on x.phase x.pending o.awaits

      letter_in : (j : ℕ) (l : Letter) → j < crew → x.pending ≡ Some (letter j l) → LetterIs gs (hours gs v) j i l
      letter_in j l lj e =
          let q : EachIs (LetterIs gs (hours gs v) j i) (came j (Some (letter j l)) ++ v.wire j i) =
          subst (λ ev. EachIs (LetterIs gs (hours gs v) j i) (came j ev ++ v.wire j i)) e (g.cross.letters j i lj lt) in
          each_head (LetterIs gs (hours gs v) j i) l (v.wire j i) (subst (λ ls. EachIs (LetterIs gs (hours gs v) j i) (ls ++ v.wire j i)) (came_same j l) q)

      expects_on : (p : Phase) (h : Event) → Awaits gs v.told i x p (Some h) → expects p h ≡ true
      expects_on _ _ is_waking = refl
      expects_on _ _ (is_asking_root me) = refl
      expects_on _ _ (is_asking_page q pg there me no_c lq some st at set kp bs same bare) = refl
      expects_on _ _ (is_asking_cursor me no_c r at set kp bs rd) = refl
      expects_on _ _ (is_placing is f) = refl
      expects_on _ _ (is_placed is f at) = refl
      expects_on _ _ (is_noting m s k at le c some lo next empty) = refl
      expects_on _ _ (is_saving q k lq m same) = refl
      expects_on _ _ (is_going k at) = refl
      expects_on _ _ (is_reading_one k r l at hi) = refl
      expects_on _ _ (is_full k r at full) = refl
      expects_on _ _ (is_ending k r le) = refl
      expects_on _ _ (is_given j l lj ne k at) = refl

      event_on : (p : Phase) (h : Event) → x.pending ≡ Some h → Awaits gs v.told i x p (Some h) → EventSized h
      event_on _ _ e is_waking = lt
      event_on _ _ e (is_asking_root me) = (root_now.hour, root_now.pos)
      event_on _ _ e (is_asking_page q pg there me no_c lq some st at set kp bs same bare) = page_now some q lq pg there
      event_on _ _ e (is_asking_cursor me no_c r at set kp bs rd) = (hour_low i lt, o.slot)
      event_on _ _ e (is_placing is f) = tt
      event_on _ _ e (is_placed is f at) = tt
      event_on _ _ e (is_noting m s k at le c some lo next empty) = tt
      event_on _ _ e (is_saving q k lq m same) = tt
      event_on _ _ e (is_going k at) = tt
      event_on _ _ e (is_reading_one k r l at hi) = every_at a_reading (row gs i) x.memory.reader.pos no_reading l (row_fine gs i known.fine).readings
      event_on _ _ e (is_full k r at full) = tt
      event_on _ _ e (is_ending k r le) = tt
      event_on _ _ e (is_given j l lj ne k at) = let is = letter_in j l lj e in
          (lj, omega (arith, is.passed, hour_low j lj), word_sized i lt j (hours gs v i) lj l.says is.fact)

      not_done : (s : Stage) → is_reading s ≡ true → ReaderIs (row gs i) x.memory.reader.base x.memory.reader.pos x.memory.reader.tables s →
          x.memory.reader.pos < length (row gs i) → first_open s ≤ hour_at (row gs i) x.memory.reader.pos
      not_done (begun f) r is l = is.rest x.memory.reader.pos (omega arith) l
      not_done (whole c nx) r is l = absurd (both_ways _ refl r)
      not_done ended r is l = absurd (both_ways _ refl r)

      timely_on : (p : Phase) (h : Event) → Awaits gs v.told i x p (Some h) → Timely x.memory.reader.stage h
      timely_on _ _ is_waking = tt
      timely_on _ _ (is_asking_root me) = tt
      timely_on _ _ (is_asking_page q pg there me no_c lq some st at set kp bs same bare) = tt
      timely_on _ _ (is_asking_cursor me no_c r at set kp bs rd) = tt
      timely_on _ _ (is_placing is f) = tt
      timely_on _ _ (is_placed is f at) = tt
      timely_on _ _ (is_noting m s k at le c some lo next empty) = tt
      timely_on _ _ (is_saving q k lq m same) = tt
      timely_on _ _ (is_going k at) = tt
      timely_on _ _ (is_reading_one k r l at hi) = (r, not_done x.memory.reader.stage r k.memory.reader l)
      timely_on _ _ (is_full k r at full) = r
      timely_on _ _ (is_ending k r le) = r
      timely_on _ _ (is_given j l lj ne k at) = tt

  entry_low : (h k : ℕ) → EntrySized (entry_of_all gs h k)
  entry_low h k =
      let sums = sum_scaled 4294967296 0 (λ i. (row_entry (row gs i) h k).sum) (λ i. (row_entry (row gs i) h k).count) crew
      (λ i _. omega (arith, (most i).0)) in
      let counts = sum_scaled 0 longest (λ i. (row_entry (row gs i) h k).count) (λ _. 0) crew (λ i _. omega (arith, (most i).1, few i)) in
      subst EntrySized (sym (all_entry gs h k (eight gs known))) (omega (arith, sums, counts), omega (arith, counts), λ e. omega (arith, sums, e))
    where
      most : (i : ℕ) → ((row_entry (row gs i) h k).sum ≤ (row_entry (row gs i) h k).count * 4294967296) × ((row_entry (row gs i) h k).count ≤ length (row gs i))
      most i = subst (λ (e : Entry). (e.sum ≤ e.count * 4294967296) × (e.count ≤ length (row gs i))) (entry_whole (row gs i) h k)
          (entry_most (row gs i) (length (row gs i)) h k (row_fine gs i known.fine).readings)

  told_low : (v : World) (i : ℕ) (p : Phase) (b : Memory) (d : Act) → every (is_right gs) (acted gs v i p b d).told ≡ true → ToldSized d
  told_low v i p b more e = tt
  told_low v i p b (from at) e = tt
  told_low v i p b (let_go g) e = tt
  told_low v i p b (sends j l) e = tt
  told_low v i p b (keep_root r) e = tt
  told_low v i p b (keep_page s q pg) e = tt
  told_low v i p b (keep_cursor c) e = tt
  told_low v i p b recall_root e = tt
  told_low v i p b (recall_page s q) e = tt
  told_low v i p b recall_cursor e = tt
  told_low v i p b (tells h k s) e =
      let t : Told = record { hour = h; place = k; entry = s } in
      let right = and_parts (comes_up gs h k) (same_entry s (entry_of_all gs h k)) (every_end (is_right gs) v.told t e) in
      subst EntrySized (sym (same_is s (entry_of_all gs h k) right.1)) (entry_low h k)
  told_low v i p b rests e = tt

  -- EACH STEP HAS ROOM
  pub sized : (v : World) → In gs known v → (i : ℕ) → i < crew → (h : Event) → (v.node i).pending ≡ Some h → Sized (v.node i).phase (v.node i).memory h
  sized v k i lt h e =
      let u : World = one_step gs v i in
      let next : In gs known u = (keeps_step gs (eight gs known) (rows_fine gs known)).steps v i lt k in
      let d : Reaction = reacts (v.node i).phase (v.node i).memory h in
      let same : u ≡ done gs v i d = ap (told_next gs v i (v.node i).phase) e in
      let mind = (acted_mind gs v i d.phase d.memory d.act).mind (sym (ap (λ (w : World). w.fault) same) ∙ next.good.fault) in
      let told = told_low v i d.phase d.memory d.act (subst (λ (w : World). every (is_right gs) w.told ≡ true) same next.good.right) in
      let expected = expects_on v k.good i lt (v.node i).phase h (subst (Awaits gs v.told i (v.node i) (v.node i).phase) e (k.good.own i lt).awaits) in
      let after = subst₂ MemoryThere mind.0 mind.1 (subst (λ (w : World). MemoryThere (w.node i).phase (w.node i).memory) same (there_now u next.good i lt)) in
      record {
        expected = expected;
        before = there_now v k.good i lt;
        event = event_on v k.good i lt (v.node i).phase h e (subst (Awaits gs v.told i (v.node i) (v.node i).phase) e (k.good.own i lt).awaits);
        timely = timely_on v k.good i lt (v.node i).phase h (subst (Awaits gs v.told i (v.node i) (v.node i).phase) e (k.good.own i lt).awaits);
        after = after;
        act = (reacts_fine (v.node i).phase h expected (v.node i).memory).act after told;
      }
