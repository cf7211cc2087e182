-- A reader: what a reading, the end of the row and a letter leave of a booted memory, and that what it says is a fact.
use Rattle.std.proofs.Common.{◌≡◌, ℕ, suc, ◌+◌, ◌-◌, ◌*◌, ◌<◌, ◌≤◌, true, false, not, ◌⊎◌, eqb, leb, List, length, get_or, Some, None, Option, sym, refl, ◌∙◌, subst, inl, inr, ⊎_elim, arith}
use Rattle.std.proofs.lemmas.Bool.{and_parts, leb-true, leb-false, both_ways, cases_lt, cases_eq, not-true, not_from_false, ne_eqb, eq-eqb}
use Rattle.sums.specs.Cells.{slots}
use Rattle.sums.specs.Parts.{no_reading}
use Rattle.sums.specs.Sums.{or, Reading}
use Rattle.sums.proofs.Anys.{or_left, or_right}
use Rattle.sums.proofs.Picks.{pick_both}
use Rattle.protocol.specs.Adder.{passing}
use Rattle.protocol.specs.Bounds.{has_hour}
use Rattle.protocol.specs.Checkpoints.{pausing, saved, saved_root}
use Rattle.protocol.specs.Limits.{late, crew}
use Rattle.protocol.specs.Mail.{waits_for, with_news, with_letter, with_sent, unpaused}
use Rattle.protocol.specs.Memory.{Cursor, Memory, with_reader, with_cursor}
use Rattle.protocol.specs.OpenHours.{taking_in, hour_in, oldest, raised, sooner}
use Rattle.protocol.specs.Reader.{read_on, Stage, begun, whole, ended, is_reading, Root}
use Rattle.protocol.specs.Reading.{reads, reads_by, ends, ends_by}
use Rattle.protocol.specs.Searches.{put}
use Rattle.protocol.specs.Statements.{said_of, Letter}
use Rattle.protocol.specs.Tables.{Tables, taking, filled}
use Rattle.protocol.proofs.Puts.{put_each, put_same, put_other}
use Rattle.protocol.proofs.Searches.{on_find, or_split}
use Rattle.protocol.proofs.Tables.{hour_at, Taken, taken_more, taken_other, filled_if, filled_then, page_whole}
use Rattle.protocol_world.specs.Gauges.{hardly_falls}
use Rattle.protocol_world.proofs.Facts.{NoneIn, Near, Fact, NextIs, HasHour}
use Rattle.protocol_world.proofs.Invariant.{Began, ReaderIs, MemoryIs, MaySave}
use Rattle.protocol_world.proofs.Times.{late_hour}
use Rattle.protocol_world.proofs.Roots.{based_is}

-- what is known of a row before anything happens: its times hardly fall, and its places are there
pub record RowFine (row : List Reading) : Type 0 where
  pub times : hardly_falls 0 row ≡ true
  pub keys : (p : ℕ) → p < length row → (get_or row p no_reading).key < crew * slots

module _ (row : List Reading) (fine : RowFine row) where
  later_hour : (p q : ℕ) → p ≤ q → q < length row → hour_at row p ≤ hour_at row q + late
  later_hour p q le lt = late_hour row p q fine.times le lt

  -- THE OLDEST OPEN HOUR WITH READINGS
  pub record OldestIs (pos f c : ℕ) : Type 0 where
    pub from : f ≤ c
    pub here : HasHour row c
    pub first : (p : ℕ) → p < pos → f ≤ hour_at row p → c ≤ hour_at row p

  abbrev pub NoneOpen : (pos f : ℕ) → Type 0
  NoneOpen pos f = (p : ℕ) → p < pos → f ≤ hour_at row p → ⊥

  module _ (pos f : ℕ) (t : ℕ → Tables) (le : pos ≤ length row) (high : (p : ℕ) → p < pos → hour_at row p ≤ f + late)
      (d : (h : ℕ) → f ≤ h → Taken row pos h (t h)) where
    not_of : (h : ℕ) → f ≤ h → filled (t h) ≡ false → (p : ℕ) → p < pos → hour_at row p ≡ h → ⊥
    not_of h ge e = filled_if row pos h (t h) le fine.keys (d h ge) e

    pub on_oldest : (P : Option ℕ → Type 0) → ((c : ℕ) → OldestIs pos f c → P (Some c)) → (NoneOpen pos f → P None) → P (oldest t f)
    on_oldest P some none = on_find (λ d. filled (t (f + d))) (suc late) (λ o. P (hour_in f o))
        (λ k x. some (f + k) (record {
          from = omega arith;
          here = filled_then row pos (f + k) (t (f + k)) (d (f + k) (omega arith)) x.holds;
          first = λ p l ge. ⊎_elim
              (λ (lt : hour_at row p < f + k). absurd (not_of (f + (hour_at row p - f)) (omega arith) (x.first (hour_at row p - f) (omega arith)) p l
              (omega arith)))
              (λ (no : f + k ≤ hour_at row p). no)
              (cases_lt (hour_at row p) (f + k));
        }))
        (λ free. none (λ p l ge. not_of (f + (hour_at row p - f)) (omega arith) (free (hour_at row p - f) (omega (arith, high p l))) p l (omega arith)))

  module _ (base pos : ℕ) (t : ℕ → Tables) where
    -- WHAT IT SAYS IS SO
    module _ (j h : ℕ) (lj : j < crew) (before : (p : ℕ) → p < length row → hour_at row p < base → hour_at row p < h) where
      none_yet : (f : ℕ) → Began row base pos f t → NoneIn row h f
      none_yet f b p lt lo hi = absurd (omega (arith, before p lt (b.done p lt hi)))

      pub said_true : (s : Stage) → ReaderIs row base pos t s → Fact row j h (said_of s t j)
      said_true (begun f) r = (none_yet f r, r.near)
      said_true (whole c nx) r = record {
        page = page_whole row pos c j ((t c).page j) (λ q ge lt e. absurd (omega (arith, r.1.rest q ge lt))) (r.0.tables c (omega arith) j lj);
        before = none_yet c r.0;
        after = r.1.after;
        here = r.1.here;
      }
      said_true ended r = λ q lt. before q lt (r.1 q lt)

    module _ (f : ℕ) (b : Began row base pos f t) where
      -- the oldest hour is whole, if nothing of it comes any more
      whole_is : (c : ℕ) (nx : Option ℕ) → OldestIs pos f c → ((q : ℕ) → pos ≤ q → q < length row → c < hour_at row q) → NextIs row c nx →
          ReaderIs row base pos t (whole c nx)
      whole_is c nx old rest next = (
        record {
          within = b.within;
          above = omega (arith, b.above, old.from);
          done = λ p lt l. ⊎_elim
              (λ (l₁ : hour_at row p < f). b.done p lt l₁)
              (λ (ge : f ≤ hour_at row p). ⊎_elim (λ (l₂ : p < pos). absurd (omega (arith, old.first p l₂ ge)))
              (λ (ge₂ : pos ≤ p). absurd (omega (arith, rest p ge₂ lt))) (cases_lt p pos))
              (cases_lt (hour_at row p) f);
          rest = λ q ge lt. omega (arith, rest q ge lt);
          high = λ p l. omega (arith, b.high p l, old.from);
          tables = λ h le. b.tables h (omega (arith, old.from));
          near = let at = old.here in inr (at.0, at.1, omega (arith, at.2));
        },
        record { rest = rest; after = next; here = old.here },
      )

      on_next : (c : ℕ) → f ≤ c → (P : Option ℕ → Type 0) → ((d : ℕ) → OldestIs pos (suc c) d → P (Some d)) → (NoneOpen pos (suc c) → P None) →
          P (oldest t (suc c))
      on_next c le = on_oldest pos (suc c) t b.within (λ p l. omega (arith, b.high p l)) (λ h ge. b.tables h (omega arith))

      next_read : (c : ℕ) → f ≤ c → (lt : pos < length row) → c + late < hour_at row pos →
          NextIs row c (Some (sooner (oldest t (suc c)) (hour_at row pos - late)))
      next_read c le lt l = on_next c le (λ o. NextIs row c (Some (sooner o (hour_at row pos - late))))
          (λ d old. let at = old.here in
          pick_both (leb d (hour_at row pos - late)) d (hour_at row pos - late) (λ n. NextIs row c (Some n))
          (λ e. (
            λ p lp lo hi. ⊎_elim (λ (l₁ : p < pos). absurd (omega (arith, old.first p l₁ lo)))
                (λ (ge : pos ≤ p). absurd (omega (arith, later_hour pos p ge lp, leb-true d (hour_at row pos - late) e))) (cases_lt p pos),
            omega (arith, old.from),
            inr (at.0, at.1, omega (arith, at.2)),
          ))
          (λ e. (
            λ p lp lo hi. ⊎_elim (λ (l₁ : p < pos). absurd (omega (arith, old.first p l₁ lo, leb-false d (hour_at row pos - late) e)))
                (λ (ge : pos ≤ p). absurd (omega (arith, later_hour pos p ge lp))) (cases_lt p pos),
            omega arith,
            inr (pos, lt, omega arith),
          )))
          (λ free. (
            λ p lp lo hi. ⊎_elim (λ (l₁ : p < pos). free p l₁ lo) (λ (ge : pos ≤ p). absurd (omega (arith, later_hour pos p ge lp))) (cases_lt p pos),
            omega arith,
            inr (pos, lt, omega arith),
          ))

      next_end : (c : ℕ) → f ≤ c → length row ≤ pos → NextIs row c (oldest t (suc c))
      next_end c le end = on_next c le (NextIs row c)
          (λ d old. let at = old.here in (λ p lp lo hi. absurd (omega (arith, old.first p (omega arith) lo)), old.from, inr (at.0, at.1, omega (arith, at.2))))
          (λ free p lp. ⊎_elim (λ l. l) (λ ge. absurd (free p (omega arith) ge)) (cases_lt (hour_at row p) (suc c)))

      -- a reading is taken in
      module _ (lt : pos < length row) (low : (p : ℕ) → p < pos → f ≤ hour_at row p → hour_at row pos ≤ hour_at row p + late) where
        more_at : (g : ℕ) → f ≤ g → hour_at row pos ≤ g + late → (g ≡ f) ⊎ (g + late ≡ hour_at row pos) →
            Began row base (suc pos) g (taking_in t (get_or row pos no_reading))
        more_at g ge hi up = record {
          within = lt;
          above = omega (arith, b.above);
          done = λ p lp l. ⊎_elim
              (λ (l₁ : hour_at row p < f). b.done p lp l₁)
              (λ (ge₁ : f ≤ hour_at row p). ⊎_elim
              (λ e. absurd (omega arith))
              (λ e. ⊎_elim (λ (l₂ : p < pos). absurd (omega (arith, low p l₂ ge₁))) (λ (ge₂ : pos ≤ p). absurd (omega (arith, later_hour pos p ge₂ lp)))
              (cases_lt p pos))
              up)
              (cases_lt (hour_at row p) f);
          rest = λ q ge₁ lq. ⊎_elim (λ e. omega (arith, b.rest q (omega arith) lq)) (λ e. omega (arith, later_hour pos q (omega arith) lq)) up;
          high = λ p l. ⊎_elim (λ (e : p ≡ pos). subst (λ n. hour_at row n ≤ g + late) (sym e) hi)
              (λ ne. omega (arith, b.high p (omega arith))) (cases_eq p pos);
          tables = put_each t (hour_at row pos) (taking (t (hour_at row pos)) (get_or row pos no_reading)) (λ h x. g ≤ h → Taken row (suc pos) h x)
              (λ _. taken_more row pos (hour_at row pos) (t (hour_at row pos)) lt refl (b.tables (hour_at row pos) (b.rest pos (omega arith) lt)))
              (λ h ne le. taken_other row pos h (t h) lt (λ q. ne (sym q)) (b.tables h (omega arith)));
          near = ⊎_elim (λ e. subst (Near row) (sym e) b.near) (λ e. inr (pos, lt, omega arith)) up;
        }

        more_is : Began row base (suc pos) (raised f (hour_at row pos)) (taking_in t (get_or row pos no_reading))
        more_is = pick_both (leb (hour_at row pos) (f + late)) f (hour_at row pos - late)
            (λ g. Began row base (suc pos) g (taking_in t (get_or row pos no_reading)))
            (λ e. more_at f (omega arith) (leb-true (hour_at row pos) (f + late) e) (inl refl))
            (λ e. more_at (hour_at row pos - late) (omega (arith, leb-false (hour_at row pos) (f + late) e)) (omega arith)
            (inr (omega (arith, leb-false (hour_at row pos) (f + late) e))))

  -- WHAT A READING AND THE END LEAVE
  module _ (i : ℕ) (r₀ : Root) (c₀ : Cursor) (b : Memory) (is : MemoryIs row i r₀ c₀ b) where
    abbrev base : ℕ
    base = b.reader.base

    abbrev pos : ℕ
    pos = b.reader.pos

    abbrev t : ℕ → Tables
    t = b.reader.tables

    -- one reading more, and nothing else
    read_memory : (c : ℕ) (r : Reading) → ReaderIs row base (suc pos) (taking_in t r) (begun c) → MemoryIs row i r₀ c₀ (with_reader b (read_on b.reader c r))
    read_memory c r k = record {
      me = is.me;
      cursor = is.cursor;
      reader = k;
      set = is.set;
      kept = is.kept;
      finished = λ e. cc;
      flags = is.flags;
      others = is.others;
    }

    all_flags : (j : ℕ) → b.mail.woke j ≡ true → not (eqb j b.me) ≡ true
    all_flags j w = not_from_false (eqb j b.me) (ne_eqb j b.me (λ q. is.others j (is.flags j w) (q ∙ is.me)))

    all_others : (j : ℕ) → not (eqb j b.me) ≡ true → j ≡ i → ⊥
    all_others j e q = both_ways (eqb j b.me) (not-true _ e) (eq-eqb j b.me (q ∙ sym is.me))

    news_memory : (s : Stage) → ReaderIs row base pos t s → (s ≡ ended → r₀.pos ≡ pos) → MemoryIs row i r₀ c₀ (with_news b s)
    news_memory s r f = record {
      me = is.me;
      cursor = is.cursor;
      reader = r;
      set = is.set;
      kept = is.kept;
      finished = f;
      flags = all_flags;
      others = all_others;
    }

    pub moved_memory : (c : Cursor) → MemoryIs row i r₀ c (with_cursor b c)
    moved_memory c = record {
      me = is.me;
      cursor = refl;
      reader = is.reader;
      set = is.set;
      kept = is.kept;
      finished = is.finished;
      flags = is.flags;
      others = is.others;
    }

    pub passing_memory : (m : ℕ) → MemoryIs row i r₀ (record { hour = suc m; slot = 0 }) (passing b m)
    passing_memory m = record {
      me = is.me;
      cursor = refl;
      reader = is.reader;
      set = is.set;
      kept = is.kept;
      finished = is.finished;
      flags = λ j w. or_left (b.mail.due j) (waits_for b m j) (is.flags j w);
      others = λ j e. ⊎_elim (λ d. is.others j d) (λ d. all_others j (and_parts (not (eqb j b.me)) (has_hour m (b.mail.word j)) d).0)
          (or_split (b.mail.due j) (waits_for b m j) e);
    }

    pub pausing_memory : MemoryIs row i r₀ c₀ (pausing b)
    pausing_memory = record {
      me = is.me;
      cursor = is.cursor;
      reader = is.reader;
      set = is.set;
      kept = is.kept;
      finished = is.finished;
      flags = is.flags;
      others = is.others;
    }

    pub goes_memory : (c : ℕ) (nx : Option ℕ) → ReaderIs row base pos t (whole c nx) → Began row (suc c) pos (suc c) t
    goes_memory c nx r = record {
      within = r.0.within;
      above = omega arith;
      done = λ p lt l. l;
      rest = λ q ge lt. r.1.rest q ge lt;
      high = λ p l. omega (arith, r.0.high p l);
      tables = λ h le. r.0.tables h (omega arith);
      near = let at = r.1.here in inr (at.0, at.1, omega (arith, at.2));
    }

    pub unpaused_memory : MemoryIs row i r₀ c₀ (unpaused b)
    unpaused_memory = record {
      me = is.me;
      cursor = is.cursor;
      reader = is.reader;
      set = is.set;
      kept = is.kept;
      finished = is.finished;
      flags = is.flags;
      others = is.others;
    }

    pub saved_memory : (n : ℕ) → MaySave n b b.reader.stage → MemoryIs row i (saved_root b) c₀ (saved b)
    saved_memory n m = record {
      me = is.me;
      cursor = is.cursor;
      reader = based_is row base pos t n b b.reader.stage m is.reader;
      set = refl;
      kept = refl;
      finished = λ e. cc;
      flags = is.flags;
      others = is.others;
    }

    -- the memory after it, and where the next reading is
    abbrev Reads : Memory → Type 0
    Reads b₁ = MemoryIs row i r₀ c₀ b₁ × (is_reading b₁.reader.stage ≡ true → suc pos ≡ b₁.reader.pos) × (pos ≤ b₁.reader.pos) × (b₁.reader.pos ≤ suc pos)

    pub reads_one : pos < length row → (s : Stage) → ReaderIs row base pos t s → is_reading s ≡ true → Reads (reads b s (get_or row pos no_reading))
    reads_one lt (begun f) r e = on_oldest pos f t r.within r.high r.tables (λ o. Reads (reads_by b f o (get_or row pos no_reading)))
        (λ c old. pick_both (leb (hour_at row pos) (c + late)) _ _ Reads
        (λ q. taken (λ p l ge. omega (arith, old.first p l ge, leb-true (hour_at row pos) (c + late) q)))
        (λ q. let over : c + late < hour_at row pos = leb-false (hour_at row pos) (c + late) q in (
          news_memory (whole c (Some (sooner (oldest t (suc c)) (hour_at row pos - late))))
              (whole_is base pos t f r c (Some (sooner (oldest t (suc c)) (hour_at row pos - late))) old
              (λ p ge lp. omega (arith, later_hour pos p ge lp, over)) (next_read base pos t f r c old.from lt over)) (λ e. cc),
          λ g. absurd (both_ways _ refl g),
          omega arith,
          omega arith,
        )))
        (λ free. taken (λ p l ge. absurd (free p l ge)))
      where
        taken : ((p : ℕ) → p < pos → f ≤ hour_at row p → hour_at row pos ≤ hour_at row p + late) →
            Reads (with_reader b (read_on b.reader (raised f (hour_at row pos)) (get_or row pos no_reading)))
        taken low = (read_memory (raised f (hour_at row pos)) (get_or row pos no_reading) (more_is base pos t f r lt low), λ _. refl, omega arith, omega arith)
    reads_one lt (whole c nx) r e = absurd (both_ways _ refl e)
    reads_one lt ended r e = absurd (both_ways _ refl e)

    abbrev Ends : Memory → Type 0
    Ends b₁ = MemoryIs row i r₀ c₀ b₁ × (is_reading b₁.reader.stage ≡ false) × (b₁.reader.pos ≡ pos)

    pub ends_here : r₀.pos ≡ pos → length row ≤ pos → (s : Stage) → ReaderIs row base pos t s → is_reading s ≡ true → Ends (ends b s)
    ends_here at le (begun f) r e = on_oldest pos f t r.within r.high r.tables (λ o. Ends (ends_by b o))
        (λ c old. (
          news_memory (whole c (oldest t (suc c))) (whole_is base pos t f r c (oldest t (suc c)) old
              (λ q ge lq. absurd (omega arith)) (next_end base pos t f r c old.from le)) (λ e. cc),
          refl,
          refl,
        ))
        (λ free. (
          news_memory ended (
            omega (arith, r.within),
            λ p lp. ⊎_elim (λ (l : hour_at row p < f). r.done p lp l)
                (λ (ge : f ≤ hour_at row p). absurd (free p (omega arith) ge)) (cases_lt (hour_at row p) f),
          ) (λ _. at),
          refl,
          refl,
        ))
    ends_here at le (whole c nx) r e = absurd (both_ways _ refl e)
    ends_here at le ended r e = absurd (both_ways _ refl e)

    -- LETTERS
    pub letter_memory : (j : ℕ) (l : Letter) → (j ≡ i → ⊥) → MemoryIs row i r₀ c₀ (with_letter b j l)
    letter_memory j l ne = record {
      me = is.me;
      cursor = is.cursor;
      reader = is.reader;
      set = is.set;
      kept = is.kept;
      finished = is.finished;
      flags = put_each b.mail.due j (or l.woke (b.mail.due j)) (λ k d. b.mail.woke k ≡ true → d ≡ true)
          (λ w. or_right l.woke (b.mail.due j) (is.flags j w)) (λ k _. is.flags k);
      others = put_each b.mail.due j (or l.woke (b.mail.due j)) (λ k d. d ≡ true → k ≡ i → ⊥) (λ _. ne) (λ k _. is.others k);
    }

    pub sent_memory : (j : ℕ) → MemoryIs row i r₀ c₀ (with_sent b j)
    sent_memory j = record {
      me = is.me;
      cursor = is.cursor;
      reader = is.reader;
      set = is.set;
      kept = is.kept;
      finished = is.finished;
      flags = λ k. put_each b.mail.due j false (λ n d. put b.mail.woke j false n ≡ true → d ≡ true)
          (λ w. absurd (both_ways _ (put_same b.mail.woke j false) w))
          (λ n ne w. is.flags n (sym (put_other b.mail.woke j false n ne) ∙ w)) k;
      others = put_each b.mail.due j false (λ k d. d ≡ true → k ≡ i → ⊥) (λ e. absurd (both_ways _ refl e)) (λ k _. is.others k);
    }
