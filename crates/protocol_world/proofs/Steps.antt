-- Whatever a machine does, a poke, a letter that comes and a strike leave a good world good: nothing is at fault, and what is told is right.
use Rattle.std.proofs.Common.{◌≡◌, ℕ, suc, ◌+◌, ◌<◌, true, ◌&&◌, eqb, leb, ltb, List, [], ◌∷◌, ◌++◌, length, Some, None, Option, sym, refl, ap, ◌∙◌, subst, arith}
use Rattle.std.proofs.lemmas.Bool.{both_ways, and_from, le-leb, leb-true, ltb-true, ltb-false}
use Rattle.sums.specs.Sums.{pick, or, Gauges}
use Rattle.sums.proofs.Picks.{pick_both, pick_true}
use Rattle.protocol.specs.Boot.{booted_memory}
use Rattle.protocol.specs.Checkpoints.{pausing}
use Rattle.protocol.specs.Limits.{crew, half_roll}
use Rattle.protocol.specs.Memory.{Cursor, Memory, with_cursor, new_memory}
use Rattle.protocol.specs.Phases.{Phase, asks_root, ready, Event, letter, root_is, go}
use Rattle.protocol.specs.Reader.{Stage, begun, whole, ended, is_reading}
use Rattle.protocol.specs.Searches.{put₂}
use Rattle.protocol.specs.Statements.{Letter}
use Rattle.protocol_world.specs.Runs.{with_bringing, waking, poked, poked_by, delivered, brought, fallen}
use Rattle.protocol_world.specs.Worlds.{Node, World, after, letting_go, with_drawer, done, told_next, one_step}
use Rattle.protocol_world.proofs.Invariant.{MaySave, reached, EachIs, came, ReaderIs, row, AtWork, Awaits, is_waking, is_asking_root, is_asking_page, is_asking_cursor, is_placing, is_placed, is_noting, is_saving, is_going, is_reading_one, is_full, is_ending, is_given, is_resting, is_pausing, Own, hours, LetterIs, Knows, Good}
use Rattle.protocol_world.proofs.Letters.{each_none, each_head}
use Rattle.protocol_world.proofs.Queues.{bring_queue}
use Rattle.protocol_world.proofs.Roots.{booted_is}
use Rattle.protocol_world.proofs.Readers.{RowFine, moved_memory}
use Rattle.protocol_world.proofs.Changes.{no_letter, changed, wires_good, queues, set_good, own_as, same_drawers}
use Rattle.protocol_world.proofs.Checkpoints.{page_good, saves_good}
use Rattle.protocol_world.proofs.Choices.{chooses_good}
use Rattle.protocol_world.proofs.Events.{taken_chooses, takes_reading, takes_pause, takes_end, takes_letter_in}
use Rattle.protocol_world.proofs.Boots.{places, rooted_good, paged_good}

module _ (gs : Gauges) (eight : length gs ≡ crew) (fine : (i : ℕ) → i < crew → RowFine (row gs i)) where
  module _ (w : World) (i : ℕ) (lt : i < crew) (g : Good gs w) where
    abbrev x : Node
    x = w.node i

    abbrev H : ℕ → ℕ
    H = hours gs w

    abbrev o : Own gs w.told i x
    o = g.own i lt

    more_read : (s : Stage) → x.root.pos < x.memory.reader.pos → is_reading s ≡ true → MaySave x.root.pos x.memory s
    more_read (begun f) l e = l
    more_read (whole c nx) l e = absurd (both_ways _ refl e)
    more_read ended l e = absurd (both_ways _ refl e)

    module _ (k : Knows gs H i x.memory) where
      steps_on : (p : Phase) (ev : Option Event) → x.pending ≡ ev → Awaits gs w.told i x p ev → Good gs (told_next gs w i p ev)
      steps_on _ _ e is_waking =
          set_good gs w i lt g (after x asks_root (new_memory i) (Some (root_is x.root)))
          (same_drawers gs w i lt g _ refl (omega arith) (record {
            words = λ _ _. tt;
            passed = λ _ _. omega arith;
            behind = λ _ _ _ _ l. absurd (omega arith);
          }))
          (λ _. refl)
          (own_as gs w i lt g w.told asks_root (new_memory i) (Some (root_is x.root)) x.reads_at o.cursor (is_asking_root refl))
      steps_on _ _ e (is_asking_root me) = rooted_good gs w i lt g k (ap (λ (b : Memory). b.me) me) (ap (λ (b : Memory). b.cursor) me) x.root.set refl
      steps_on _ _ e (is_asking_page q pg there me no_c lq some st at set kp bs same bare) =
          paged_good gs w i lt g k q pg there me no_c lq some st at set kp bs same bare
      steps_on _ _ e (is_asking_cursor me no_c r at set kp bs rd) =
          places gs w i lt g (booted_memory x.memory x.cursor) (record { words = k.words; passed = k.passed; behind = k.behind })
          (booted_is (row gs i) i x.root x.memory x.cursor me
          (subst (λ n. ReaderIs (row gs i) n x.memory.reader.pos x.memory.reader.tables x.memory.reader.stage) (sym bs) r) rd set kp) at
      steps_on _ _ e (is_placing is f) = places gs w i lt g x.memory k is f
      steps_on _ _ e (is_placed is q at) =
          pick_true (leb x.gone x.memory.reader.pos && leb x.memory.reader.pos x.reads_at) _ _ (Good gs)
          (and_from (leb x.gone x.memory.reader.pos) (leb x.memory.reader.pos x.reads_at) (le-leb _ _ (omega (arith, o.low))) (le-leb _ _ (omega arith)))
          (set_good gs w i lt g (letting_go x ready x.memory x.memory.reader.pos) (same_drawers gs w i lt g _ refl (omega arith) k) no_letter
          (record {
            low = omega arith;
            high = omega arith;
            root = o.root;
            cursor = o.cursor;
            hour = o.hour;
            slot = o.slot;
            awaits = is_going (record { memory = is; clear = q; room = omega arith; newer = omega arith }) (λ _. at ∙ sym q);
          }))
      steps_on _ _ e (is_noting m s a at le c some few next empty) =
          let d : Cursor = record { hour = m; slot = suc s } in
          set_good gs w i lt g (with_drawer x ready (with_cursor x.memory d) d)
          (same_drawers gs w i lt g _ refl le (record { words = k.words; passed = k.passed; behind = k.behind })) no_letter
          (record {
            low = o.low;
            high = o.high;
            root = o.root;
            cursor = c;
            hour = reached m some (omega arith);
            slot = few;
            awaits = is_going (record {
              memory = moved_memory (row gs i) (fine i lt) i x.root x.cursor x.memory a.memory d;
              clear = a.clear;
              room = a.room;
              newer = a.newer;
            }) at;
          })
      steps_on _ _ e (is_saving q a lq m same) = saves_good gs fine w i lt g x.memory a.memory k a.clear a.room a.newer q m same
      steps_on _ _ e (is_going a at) = chooses_good gs eight fine w i lt g x.memory a.memory k a.clear a.room a.newer at
      steps_on _ _ e (is_reading_one a r l at hi) = taken_chooses gs eight fine w i lt g _ (takes_reading gs eight fine w i lt g k a r l at hi)
      steps_on _ _ e (is_full a r at full) = pick_both (leb (x.memory.reader.kept + half_roll) x.memory.reader.pos) _ _ (λ d. Good gs (done gs w i d))
          (λ t. page_good gs fine w i lt g x.memory a.memory k a.clear a.room a.newer 0 (omega arith)
          (more_read x.memory.reader.stage (omega (arith, a.memory.kept, leb-true (x.memory.reader.kept + half_roll) x.memory.reader.pos t)) r)
          (λ j l. absurd (omega arith)))
          (λ _. taken_chooses gs eight fine w i lt g (pausing x.memory) (takes_pause gs eight fine w i lt g k a at))
      steps_on _ _ e (is_ending a r le) = pick_both (ltb x.memory.reader.kept x.memory.reader.pos) _ _ (λ d. Good gs (done gs w i d))
          (λ t. page_good gs fine w i lt g x.memory a.memory k a.clear a.room a.newer 0 (omega arith)
          (more_read x.memory.reader.stage (omega (arith, a.memory.kept, ltb-true x.memory.reader.kept x.memory.reader.pos t)) r) (λ j l. absurd (omega arith)))
          (λ t. taken_chooses gs eight fine w i lt g _ (takes_end gs eight fine w i lt g k a (omega (
            arith,
            a.memory.kept,
            a.newer,
            ltb-false x.memory.reader.kept x.memory.reader.pos t,
          )) r le))
      steps_on _ _ e (is_given j l lj ne a at) = taken_chooses gs eight fine w i lt g _ (takes_letter_in gs eight fine w i lt g k a j l lj ne at e)
      steps_on _ _ e (is_resting a q) = g
      steps_on _ _ e (is_pausing a r at) = g

    pub step_good : Good gs (one_step gs w i)
    step_good = steps_on (g.cross.knows i lt) x.phase x.pending refl o.awaits

    -- A POKE
    poke_on : (p : Phase) (ev : Option Event) → Awaits gs w.told i x p ev → x.phase ≡ p → Good gs (poked_by w i ev)
    poke_on _ _ (is_resting a q) e =
        set_good gs w i lt g (after x x.phase x.memory (Some go)) (same_drawers gs w i lt g _ refl (omega arith) (g.cross.knows i lt)) no_letter
        (own_as gs w i lt g w.told x.phase x.memory (Some go) x.reads_at o.cursor
        (subst (λ p. Awaits gs w.told i (after x x.phase x.memory (Some go)) p (Some go)) (sym e)
        (is_going (record { memory = a.memory; clear = a.clear; room = a.room; newer = a.newer }) (λ r. absurd (both_ways _ q.idle r)))))
    poke_on _ _ (is_pausing a r at) e =
        set_good gs w i lt g (after x x.phase x.memory (Some go)) (same_drawers gs w i lt g _ refl (omega arith) (g.cross.knows i lt)) no_letter
        (own_as gs w i lt g w.told x.phase x.memory (Some go) x.reads_at o.cursor
        (subst (λ p. Awaits gs w.told i (after x x.phase x.memory (Some go)) p (Some go)) (sym e)
        (is_going (record { memory = a.memory; clear = a.clear; room = a.room; newer = a.newer }) at)))
    poke_on p (Some ev) a e = g

    pub poke_good : Good gs (poked w i)
    poke_good = poke_on x.phase x.pending o.awaits refl

    -- A LETTER COMES
    module _ (a : ℕ) (la : a < crew) (l : Letter) (ls : List Letter) (here : w.wire a i ≡ l ∷ ls) (rests_now : x.pending ≡ None) where
      first_good : LetterIs gs H a i l
      first_good =
          each_head (LetterIs gs H a i) l ls
          (subst (EachIs (LetterIs gs H a i)) (ap (λ ev. came a ev ++ w.wire a i) rests_now ∙ here) (g.cross.letters a i la lt))

      given_as : AtWork gs w.told i x → (is_reading x.memory.reader.stage ≡ true → x.reads_at ≡ x.memory.reader.pos) → x.phase ≡ ready →
          Awaits gs w.told i (after x x.phase x.memory (Some (letter a l))) x.phase (Some (letter a l))
      given_as k at e =
          subst (λ p. Awaits gs w.told i (after x x.phase x.memory (Some (letter a l))) p (Some (letter a l))) (sym e)
          (is_given a l la first_good.apart (record { memory = k.memory; clear = k.clear; room = k.room; newer = k.newer }) at)

      given_on : (p : Phase) (ev : Option Event) → Awaits gs w.told i x p ev → ev ≡ None → x.phase ≡ p →
          Awaits gs w.told i (after x x.phase x.memory (Some (letter a l))) x.phase (Some (letter a l))
      given_on _ _ (is_resting k q) e e₁ = given_as k (λ r. absurd (both_ways _ q.idle r)) e₁
      given_on _ _ (is_pausing k r at) e e₁ = given_as k at e₁
      given_on p (Some ev) k e e₁ = cc

      bring_good : Good gs (with_bringing w a i l ls)
      bring_good =
          changed gs w i lt g (after x x.phase x.memory (Some (letter a l))) (same_drawers gs w i lt g _ refl (omega arith) (g.cross.knows i lt))
          (put₂ w.wire a i ls) w.told g.right
          (own_as gs w i lt g w.told x.phase x.memory (Some (letter a l)) x.reads_at o.cursor (given_on x.phase x.pending o.awaits rests_now refl)) g.own
          (λ b c lb lc. subst (EachIs (LetterIs gs H b c)) (sym (bring_queue w i a l ls here rests_now b c)) (g.cross.letters b c lb lc))

    -- A FALL
    pub fall_good : Good gs (fallen w i)
    fall_good =
        changed gs w i lt g (waking x i) (same_drawers gs w i lt g _ refl (omega arith) (record {
          words = λ _ _. tt;
          passed = λ _ _. omega arith;
          behind = λ _ _ _ _ l. absurd (omega arith);
        }))
        (λ a b. pick (or (eqb a i) (eqb b i)) [] (w.wire a b)) w.told g.right
        (record { low = o.low; high = o.high; root = o.root; cursor = o.cursor; hour = o.hour; slot = o.slot; awaits = is_waking }) g.own
        (queues gs w i lt g (waking x i) (same_drawers gs w i lt g _ refl (omega arith) (record {
          words = λ _ _. tt;
          passed = λ _ _. omega arith;
          behind = λ _ _ _ _ l. absurd (omega arith);
        })) _ w.told (λ _. refl)
        (λ a b la lb. pick_both (or (eqb a i) (eqb b i)) [] (w.wire a b) (EachIs (LetterIs gs H a b)) (λ _. each_none (LetterIs gs H a b))
        (λ _. wires_good gs w i lt g (waking x i) (same_drawers gs w i lt g _ refl (omega arith) (record {
          words = λ _ _. tt;
          passed = λ _ _. omega arith;
          behind = λ _ _ _ _ l. absurd (omega arith);
        })) a b la lb)))

  -- WHAT HAPPENS TO ONE OF THE CREW
  deliver_on : (w : World) (i j : ℕ) → i < crew → j < crew → Good gs w → (ev : Option Event) (ls : List Letter) → (w.node j).pending ≡ ev → w.wire i j ≡ ls →
      Good gs (brought w i j ev ls)
  deliver_on w i j li lj g (Some e) ls q₁ q₂ = g
  deliver_on w i j li lj g None [] q₁ q₂ = g
  deliver_on w i j li lj g None (l ∷ ls) q₁ q₂ = bring_good w j lj g i li l ls q₂ q₁

  pub deliver_good : (w : World) (i j : ℕ) → i < crew → j < crew → Good gs w → Good gs (delivered w i j)
  deliver_good w i j li lj g = deliver_on w i j li lj g _ _ refl refl
