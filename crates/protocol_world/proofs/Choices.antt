-- What a machine chooses leaves a good world good.
use Rattle.std.proofs.Common.{◌≡◌, ℕ, suc, ◌+◌, ◌<◌, ◌≤◌, true, false, not, ◌&&◌, eqb, leb, ltb, List, [], ◌∷◌, ◌++◌, length, get_or, Some, None, Option, sym, refl, ap, ◌∙◌, subst, ⊎_elim, arith}
use Rattle.std.proofs.lemmas.Bool.{eqb-true, both_ways, and_from, and_parts, cases_Bool, cases_lt, ne_eqb, le-leb, leb-true, leb-false, ltb-true, lt-ltb, not_from_false}
use Rattle.sums.specs.Cells.{slots}
use Rattle.sums.specs.Parts.{no_reading}
use Rattle.sums.specs.Sums.{Gauges}
use Rattle.sums.proofs.Picks.{pick_both, pick_true}
use Rattle.protocol.specs.Adder.{entry_heard, place, tells_slot, passing}
use Rattle.protocol.specs.Choose.{chooses}
use Rattle.protocol.specs.GoingOn.{goes_on, may_go_on}
use Rattle.protocol.specs.Limits.{crew}
use Rattle.protocol.specs.Mail.{sends_next, with_sent, unpaused, letter_to}
use Rattle.protocol.specs.Memory.{Cursor, Memory, heard_of, passed_of, with_reader}
use Rattle.protocol.specs.Phases.{Phase, ready, noting, Event, comes, later, at_end, go, Reaction, more, rests, does}
use Rattle.protocol.specs.Reader.{first_open, Stage, begun, whole, ended, is_reading, reads_on}
use Rattle.protocol.specs.Statements.{statement}
use Rattle.protocol.proofs.Choosing.{on_chooses, slot_left, Waits, quiet_then, HourIs}
use Rattle.protocol.proofs.Searches.{Found, NoneBelow, all_at}
use Rattle.protocol.proofs.Tables.{hour_at}
use Rattle.protocol_world.specs.Wall.{Told}
use Rattle.protocol_world.specs.Worlds.{Node, World, with_node, after, reading_next, reading_from, with_drawer, done}
use Rattle.protocol_world.proofs.Facts.{NoneIn, Fact}
use Rattle.protocol_world.proofs.Invariant.{reached, ReaderIs, MemoryIs, row, CursorIs, NextRow, AtWork, Awaits, is_noting, is_going, is_reading_one, is_full, is_ending, is_resting, is_pausing, Own, hours, Knows, Good}
use Rattle.protocol_world.proofs.Readers.{passing_memory, RowFine, said_true, goes_memory, sent_memory, unpaused_memory}
use Rattle.protocol_world.proofs.Telling.{empty_before, cursor_more, tells_right, hour_told, hour_some, next_row, not_past}
use Rattle.protocol_world.proofs.Changes.{like, no_letter, set_good, send_good, tell_good, own_as, same_drawers, Change}

module _ (gs : Gauges) (eight : length gs ≡ crew) (fine : (i : ℕ) → i < crew → RowFine (row gs i)) where
  module _ (w : World) (i : ℕ) (lt : i < crew) (g : Good gs w) where
    abbrev x : Node
    x = w.node i

    abbrev H : ℕ → ℕ
    H = hours gs w

    abbrev o : Own gs w.told i x
    o = g.own i lt

    module _ (b : Memory) (is : MemoryIs (row gs i) i x.root x.cursor b) (knows : Knows gs H i b) (clear : x.gone ≡ x.root.pos)
        (room : b.reader.pos ≤ x.gone + 4096) (newer : x.root.pos ≤ b.reader.pos) (at : is_reading b.reader.stage ≡ true → x.reads_at ≡ b.reader.pos) where
      abbrev Next : Reaction → Type 0
      Next d = Good gs (done gs w i d)

      work : (ts : List Told) (p : Phase) (ev : Option Event) (n : ℕ) → AtWork gs ts i (like x p b ev n)
      work ts p ev n = record { memory = is; clear = clear; room = room; newer = newer }

      said : (j : ℕ) → j < crew → Fact (row gs i) j (H j) (statement b.reader j)
      said j lj = said_true (row gs i) (fine i lt) b.reader.base b.reader.pos b.reader.tables j (H j) lj (knows.behind j lj) b.reader.stage is.reader

      pub truth : (a : ℕ) → a < crew → Fact (row gs a) i b.cursor.hour (heard_of b a)
      truth a la = pick_both (eqb a b.me) (statement b.reader b.me) (b.mail.word a) (Fact (row gs a) i b.cursor.hour)
          (λ e. let q : a ≡ i = eqb-true a b.me e ∙ is.me in
          subst (λ k. Fact (row gs k) i b.cursor.hour (statement b.reader b.me)) (sym q)
          (subst (λ k. Fact (row gs i) i b.cursor.hour (statement b.reader k)) (sym is.me)
          (subst (λ (c : Cursor). Fact (row gs i) i c.hour (statement b.reader i)) (sym is.cursor) (said i lt))))
          (λ _. subst (λ (c : Cursor). Fact (row gs a) i c.hour (b.mail.word a)) (sym is.cursor) (knows.words a la))

      cursor_now : CursorIs gs w.told i b.cursor.hour b.cursor.slot
      cursor_now = subst (λ (c : Cursor). CursorIs gs w.told i c.hour c.slot) (sym is.cursor) o.cursor

      same : (p : Phase) (ev : Option Event) (n : ℕ) → Change gs w i lt g (like x p b ev n)
      same p ev n = same_drawers gs w i lt g _ refl (omega arith) knows

      choose_reads : reads_on b.reader ≡ true → Next (does ready b more)
      choose_reads on = let r : is_reading b.reader.stage ≡ true = (and_parts (is_reading b.reader.stage) (not b.reader.paused) on).0 in
          pick_both (leb (length (row gs i)) x.reads_at) _ _ (Good gs)
          (λ end. set_good gs w i lt g (after x ready b (Some at_end)) (same ready (Some at_end) x.reads_at) (λ _. refl)
          (own_as gs w i lt g w.told ready b (Some at_end) x.reads_at o.cursor
          (is_ending (work w.told ready (Some at_end) x.reads_at) r (omega (arith, leb-true (length (row gs i)) x.reads_at end, at r)))))
          (λ there. let in_row : b.reader.pos < length (row gs i) = omega (arith, leb-false (length (row gs i)) x.reads_at there, at r) in
          pick_both (ltb x.reads_at (x.gone + 4096)) _ _ (Good gs)
          (λ few. set_good gs w i lt g (reading_next (row gs i) x ready b) (same ready _ (suc x.reads_at)) (λ _. refl)
          (own_as gs w i lt g w.told ready b _ (suc x.reads_at) o.cursor
          (subst (λ n. Awaits gs w.told i (reading_next (row gs i) x ready b) ready (Some (comes (get_or (row gs i) n no_reading)))) (sym (at r))
          (is_reading_one (work w.told ready _ (suc x.reads_at)) r in_row (ap suc (at r)) (omega (arith, at r, ltb-true x.reads_at (x.gone + 4096) few))))))
          (λ _. set_good gs w i lt g (after x ready b (Some later)) (same ready (Some later) x.reads_at) (λ _. refl)
          (own_as gs w i lt g w.told ready b (Some later) x.reads_at o.cursor
          (is_full (work w.told ready (Some later) x.reads_at) r (at r) in_row))))

      choose_tells : (m : ℕ) → HourIs b m → (s : ℕ) → Found (slot_left b m) slots s → Next (tells_slot b m (Some s))
      choose_tells m hour s f =
          let t : Told = record { hour = m; place = place b s; entry = entry_heard b m (place b s) } in
          let k = tells_right gs eight i lt b is.me truth m hour w.told cursor_now s f in
          tell_good gs w i lt g (after x (noting m s) b (Some go)) (same (noting m s) (Some go) x.reads_at) t no_letter k.right
          (own_as gs w i lt g (w.told ++ t ∷ []) (noting m s) b (Some go) x.reads_at (cursor_more gs w.told (t ∷ []) i x.cursor.hour x.cursor.slot o.cursor)
          (is_noting m s (work (w.told ++ t ∷ []) (noting m s) (Some go) x.reads_at) at
          (subst (λ (c : Cursor). c.hour ≤ m) is.cursor (not_past gs eight i lt b is.me truth m hour)) k.behind
          (hour_some gs eight i lt b is.me truth m hour) f.below
          (subst (λ c. NextRow gs i c m s) is.cursor (next_row gs eight i lt b is.me truth m hour s f))
          (λ a la. subst (λ (c : Cursor). NoneIn (row gs a) c.hour m) is.cursor (empty_before gs eight i lt b is.me truth m hour a la))))

      choose_passes : (m : ℕ) → HourIs b m → NoneBelow (slot_left b m) slots → Next (tells_slot b m None)
      choose_passes m hour f =
          let past = not_past gs eight i lt b is.me truth m hour in
          let le : x.cursor.hour ≤ m = subst (λ (c : Cursor). c.hour ≤ m) is.cursor past in
          let c : Cursor = record { hour = suc m; slot = 0 } in
          set_good gs w i lt g (with_drawer x ready (passing b m) c) (same_drawers gs w i lt g _ refl (omega arith) (record {
            words = knows.words;
            passed = knows.passed;
            behind = knows.behind;
          })) no_letter
          (record {
            low = o.low;
            high = o.high;
            root = o.root;
            cursor = hour_told gs eight i lt b is.me truth m hour w.told cursor_now f;
            hour = reached m (hour_some gs eight i lt b is.me truth m hour) (omega arith);
            slot = omega arith;
            awaits = is_going (record {
              memory = passing_memory (row gs i) (fine i lt) i x.root x.cursor b is m;
              clear = clear;
              room = room;
              newer = newer;
            }) at;
          })

      told_by : (c j : ℕ) → j < crew → ltb c (passed_of b j) ≡ true → c < H j
      told_by c j lj e = pick_both (eqb j b.me) b.cursor.hour (b.mail.passed j) (λ n. c < n → c < H j)
          (λ q l. let q₁ : i ≡ j = sym (eqb-true j b.me q ∙ is.me) in subst (λ k. c < H k) q₁ (subst (λ (d : Cursor). c < d.hour) is.cursor l))
          (λ _ l. omega (arith, knows.passed j lj)) (ltb-true c (passed_of b j) e)

      choose_goes : may_go_on b b.reader.stage ≡ true → Next (goes_on b)
      choose_goes may =
          pick_true (leb x.gone b.reader.pos && leb b.reader.pos (x.gone + 4096)) _ _ (Good gs)
          (and_from (leb x.gone b.reader.pos) (leb b.reader.pos (x.gone + 4096)) (le-leb _ _ (omega arith)) (le-leb _ _ room))
          (goes_by b.reader.stage is.reader may)
        where
          gone_on : Stage → Memory
          gone_on s = with_reader b (record {
            stage = begun (first_open s);
            pos = b.reader.pos;
            tables = b.reader.tables;
            set = b.reader.set;
            paused = false;
            kept = b.reader.kept;
            base = first_open s;
          })

          goes_by : (s : Stage) → ReaderIs (row gs i) b.reader.base b.reader.pos b.reader.tables s → may_go_on b s ≡ true →
              Good gs (with_node w i (reading_from x ready (gone_on s) b.reader.pos))
          goes_by (begun f) r e = absurd (both_ways _ refl e)
          goes_by ended r e = absurd (both_ways _ refl e)
          goes_by (whole c nx) r e =
              set_good gs w i lt g (reading_from x ready (gone_on (whole c nx)) b.reader.pos)
              (same_drawers gs w i lt g _ refl (omega arith) (record {
                words = knows.words;
                passed = knows.passed;
                behind = λ j lj p lp l. ⊎_elim
                    (λ (l₁ : hour_at (row gs i) p < c). knows.behind j lj p lp (r.0.done p lp l₁))
                    (λ (ge : c ≤ hour_at (row gs i) p). omega (arith, told_by c j lj (all_at (λ n. ltb c (passed_of b n)) crew e j lj)))
                    (cases_lt (hour_at (row gs i) p) c);
              }))
              no_letter
              (own_as gs w i lt g w.told ready (gone_on (whole c nx)) (Some go) b.reader.pos o.cursor
              (is_going (record {
                memory = record {
                  me = is.me;
                  cursor = is.cursor;
                  reader = goes_memory (row gs i) (fine i lt) i x.root x.cursor b is c nx r;
                  set = is.set;
                  kept = is.kept;
                  finished = λ q. cc;
                  flags = is.flags;
                  others = is.others;
                };
                clear = clear;
                room = room;
                newer = newer;
              }) (λ _. refl)))

      choose_sends : (j : ℕ) → Found b.mail.due crew j → Next (sends_next b (Some j))
      choose_sends j f =
          let apart : i ≡ j → ⊥ = λ q. is.others j f.holds (sym q) in
          pick_true (ltb j crew && not (eqb i j)) _ _ (Good gs)
          (and_from (ltb j crew) (not (eqb i j)) (lt-ltb j crew f.below) (not_from_false (eqb i j) (ne_eqb i j apart)))
          (send_good gs w i lt g (after x ready (with_sent b j) (Some go)) (same_drawers gs w i lt g _ refl (omega arith) (record {
            words = knows.words;
            passed = knows.passed;
            behind = knows.behind;
          })) j (letter_to b j) no_letter f.below
          (record { fact = said j f.below; passed = subst (λ (c : Cursor). b.cursor.hour ≤ c.hour) is.cursor (omega arith); apart = apart })
          (own_as gs w i lt g w.told ready (with_sent b j) (Some go) x.reads_at o.cursor
          (is_going (record { memory = sent_memory (row gs i) (fine i lt) i x.root x.cursor b is j; clear = clear; room = room; newer = newer }) at)))

      choose_rests : Waits b → Next (does ready (unpaused b) rests)
      choose_rests q = set_good gs w i lt g (after x ready (unpaused b) None) (same_drawers gs w i lt g _ refl (omega arith) (record {
        words = knows.words;
        passed = knows.passed;
        behind = knows.behind;
      })) (λ _. refl)
          (own_as gs w i lt g w.told ready (unpaused b) None x.reads_at o.cursor
          (⊎_elim
          (λ r. is_pausing still r at)
          (λ r. is_resting still (quiet_then b q r))
          (cases_Bool (is_reading b.reader.stage))))
        where
          still : AtWork gs w.told i (like x ready (unpaused b) None x.reads_at)
          still = record { memory = unpaused_memory (row gs i) (fine i lt) i x.root x.cursor b is; clear = clear; room = room; newer = newer }

      pub chooses_good : Next (chooses b)
      chooses_good = on_chooses b Next (record {
        reads = choose_reads;
        tells = choose_tells;
        passes = choose_passes;
        goes = choose_goes;
        sends = choose_sends;
        rests = choose_rests;
      })
