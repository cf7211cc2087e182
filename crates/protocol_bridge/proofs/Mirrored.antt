-- An engine that mirrors the machine of records, as views read it, implements that machine: its memories stand for all those that are the same where they are
-- looked at.
use Rattle.std.proofs.Common.{◌≤◌, ◌≡◌, ℕ, ◌⊎◌, true, List, Some, sym, refl, subst, inl, inr}
use Rattle.std.proofs.lemmas.Bool.{both_ways}
use Rattle.machine.specs.Run.{Engine, Steady}
use Rattle.machine.specs.Run as given
use Rattle.protocol.specs.Memory.{Memory, new_memory}
use Rattle.protocol.specs.Phases.{Phase, asleep, asks_root, asks_page, ready, Event, wakes, comes, later, at_end, letter, root_is, page_is, cursor_is, go, Act, more, from, let_go, sends, keep_root, keep_page, keep_cursor, recall_root, recall_page, recall_cursor, tells, rests, Reaction}
use Rattle.protocol.specs.Reader.{Stage}
use Rattle.protocol.specs.Statements.{Letter}
use Rattle.protocol.specs.Step.{reacts}
use Rattle.protocol_world.specs.Sizes.{top, MemoryThere, EventSized, Timely, ActSized, WordSized, Sized, expects}
use Rattle.protocol_bridge.specs.Engines.{Code, EventIs, ActIs, Implements}
use Rattle.protocol_bridge.specs.Same.{SameLetter, same_letter, SameMemory}
use Rattle.protocol_bridge.specs.Views.{Views, EventSeen, LetterSeen, PageSeen, ActSeen, StepSeen, Mirrors, MirrorsWhole, MirrorsToldTwiceIfStruck}
use Rattle.protocol_bridge.proofs.AlikeChoices.{SameEvent, same_event, same_given, same_page, SameAct, same_act, same_sends, same_keeps, SameReaction, same_done}
use Rattle.protocol_bridge.proofs.AlikeSteps.{reacts_same, new_same}
use Rattle.protocol_bridge.proofs.Engines.{whole}
use Rattle.protocol_bridge.proofs.OnceGiven.{told_twice_if_struck}
use Rattle.protocol_bridge.proofs.Same.{letter_trans, memory_trans, page_trans, page_sized, word_sized, stage_same, there_same}

-- ONE STEP, from memories that are the same
-- a memory that wakes is not looked at
asleep_as : (b c : Memory) (h g : Event) → SameEvent h g → EventSized h → expects asleep h ≡ true → SameReaction (reacts asleep b h) (reacts asleep c g)
asleep_as b c _ _ (same_event (wakes i)) hs ex = same_done asks_root (new_memory i) (new_memory i) recall_root recall_root (new_same i hs)
    (same_act recall_root)
asleep_as b c _ _ (same_event h) hs ex = absurd (both_ways _ refl ex)
asleep_as b c _ _ (same_given j l m e) hs ex = absurd (both_ways _ refl ex)
asleep_as b c _ _ (same_page p q e) hs ex = absurd (both_ways _ refl ex)

abbrev AsFar : Phase → Memory → Memory → Type 0
AsFar p b c = (p ≡ asleep) ⊎ SameMemory b c

step_as : (p : Phase) (b c : Memory) (h g : Event) → AsFar p b c → SameEvent h g → Sized p b h → SameReaction (reacts p b h) (reacts p c g)
step_as p b c h g (inl e) s z = subst (λ q. EventSized h → expects q h ≡ true → SameReaction (reacts q b h) (reacts q c g)) (sym e) (asleep_as b c h g s)
    z.event z.expected
step_as p b c h g (inr e) s z = reacts_same p h g s z.event z.expected b c z.before e

-- IT HAS ROOM TOO
letter_sized : (l k : Letter) → SameLetter l k → (l.passed ≤ top) × WordSized l.says → (k.passed ≤ top) × WordSized k.says
letter_sized _ _ (same_letter w p s t e) z = (z.0, word_sized s t e z.1)

event_sized : (h g : Event) → SameEvent h g → EventSized h → EventSized g
event_sized _ _ (same_event h) z = z
event_sized _ _ (same_given j l k e) z = let small = letter_sized l k e (z.1, z.2) in (z.0, small.0, small.1)
event_sized _ _ (same_page p q e) z = page_sized p q e z

event_expected : (p : Phase) (h g : Event) → SameEvent h g → expects p h ≡ true → expects p g ≡ true
event_expected p _ _ (same_event h) ex = ex
event_expected ready _ _ (same_given j l k e) ex = refl
event_expected (asks_page q) _ _ (same_page x y e) ex = refl
event_expected p _ _ _ ex = absurd (both_ways _ refl ex)

event_timely : (s : Stage) (h g : Event) → SameEvent h g → Timely s h → Timely s g
event_timely s _ _ (same_event h) z = z
event_timely s _ _ (same_given j l k e) z = tt
event_timely s _ _ (same_page p q e) z = tt

act_sized : (d e : Act) → SameAct d e → ActSized d → ActSized e
act_sized _ _ (same_act d) z = z
act_sized _ _ (same_sends j l k e) z = let k = letter_sized l k e (z.1, z.2) in (z.0, k.0, k.1)
act_sized _ _ (same_keeps w j p q e) z = (z.0, page_sized p q e z.1)

pub record Left (d : Reaction) : Type 0 where
  pub after : MemoryThere d.phase d.memory
  pub act : ActSized d.act

pub left_same : (d e : Reaction) → SameReaction d e → Left d → Left e
left_same _ _ (same_done p b c d e sb sd) z = record { after = there_same p b c sb z.after; act = act_sized d e sd z.act }

before_same : (p : Phase) (b c : Memory) → AsFar p b c → MemoryThere p b → MemoryThere p c
before_same p b c (inl e) z = subst (λ q. MemoryThere q c) (sym e) tt
before_same p b c (inr e) z = there_same p b c e z

timely_same : (p : Phase) (b c : Memory) (h : Event) → AsFar p b c → expects p h ≡ true → Timely b.reader.stage h → Timely c.reader.stage h
timely_same p b c h (inl e) ex z = on h (subst (λ q. expects q h ≡ true) e ex)
  where
    on : (h : Event) → expects asleep h ≡ true → Timely c.reader.stage h
    on (wakes i) ex = tt
    on h ex = absurd (both_ways _ refl ex)
timely_same p b c h (inr e) ex z = subst (λ s. Timely s h) (stage_same b c e) z

sized_same : (p : Phase) (b c : Memory) (h g : Event) → AsFar p b c → SameEvent h g → Sized p b h → Sized p c g
sized_same p b c h g far s z =
    let left = left_same (reacts p b h) (reacts p c g) (step_as p b c h g far s z) (record { after = z.after; act = z.act }) in
    record {
      expected = event_expected p h g s z.expected;
      before = before_same p b c far z.before;
      event = event_sized h g s z.event;
      timely = event_timely c.reader.stage h g s (timely_same p b c h far z.expected z.timely);
      after = left.after;
      act = left.act;
    }

module _ (v : Views) where
  -- WHAT STANDS FOR WHAT
  pub record Stands (m : List ℕ) (p : Phase) (b : Memory) : Type 0 where
    pub phase : v.phase_of m ≡ p
    pub sound : v.sound m ≡ true
    pub memory : AsFar p b (v.memory_of m)

  abbrev pub code : Code
  code = record { memory = Stands; letter = LetterSeen v; root = λ bs r. v.root_of bs ≡ r; page = PageSeen v; cursor = λ bs c. v.cursor_of bs ≡ c }

  -- what is heard, as it is seen
  abbrev Heard : Event → given.Event → Type 0
  Heard h ev = (g : Event) × SameEvent h g × EventSeen v g ev

  heard : (p : Phase) (h : Event) (ev : given.Event) → expects p h ≡ true → EventIs code h ev → Heard h ev
  heard p (wakes i) ev ex e = (wakes i, same_event (wakes i), e)
  heard p (comes r) ev ex e = (comes r, same_event (comes r), e)
  heard p later ev ex e = (later, same_event later, e)
  heard p at_end ev ex e = (at_end, same_event at_end, e)
  heard p (letter j l) ev ex e = (letter j e.2.0, same_given j l e.2.0 e.2.2, (e.0, e.1, e.2.1))
  heard p (root_is r) ev ex e = (root_is r, same_event (root_is r), e)
  heard (asks_page q) (page_is (Some x)) ev ex e = (page_is (Some e.2.0), same_page x e.2.0 e.2.2, (e.0, e.1, e.2.1))
  heard p (cursor_is c) ev ex e = (cursor_is c, same_event (cursor_is c), e)
  heard p go ev ex e = (go, same_event go, e)
  heard p h ev ex e = absurd (both_ways _ refl ex)

  -- what is done
  act_plain : (d : Act) (a : given.Act) → ActSeen v d a → ActIs code d a
  act_plain more a k = k
  act_plain (from p) a k = k
  act_plain (let_go p) a k = k
  act_plain (sends j l) a k = k
  act_plain (keep_root r) a k = k
  act_plain (keep_page s q p) a k = k
  act_plain (keep_cursor c) a k = k
  act_plain recall_root a k = k
  act_plain (recall_page s q) a k = k
  act_plain recall_cursor a k = k
  act_plain (tells h p s) a k = k
  act_plain rests a k = k

  act_as : (d e : Act) (a : given.Act) → SameAct d e → ActSeen v e a → ActIs code d a
  act_as _ _ a (same_act d) k = act_plain d a k
  act_as _ _ a (same_sends j l m e) k = (k.0, k.1, (k.2.0, k.2.1, letter_trans l m k.2.0 e k.2.2), k.3)
  act_as _ _ a (same_keeps w j p q e) k = (k.0, k.1, (k.2.0, k.2.1, page_trans p q k.2.0 e k.2.2), k.3)

  record Done (d : Reaction) (s : given.Step) : Type 0 where
    memory : Stands s.memory d.phase d.memory
    act : ActIs code d.act s.act

  done_as : (d e : Reaction) (s : given.Step) → SameReaction d e → StepSeen v e s → Done d s
  done_as _ _ s (same_done p b c d e sb sd) k = record {
    memory = record { phase = k.phase; sound = k.sound; memory = inr (memory_trans b c (v.memory_of s.memory) sb k.memory) };
    act = act_as d e s.act sd k.act;
  }

  module _ (e : Engine) (mirrors : Mirrors v e) where
    steps : (m : List ℕ) (b : Memory) (h : Event) (ev : given.Event) → v.sound m ≡ true → AsFar (v.phase_of m) b (v.memory_of m) → EventIs code h ev →
        Sized (v.phase_of m) b h → Done (reacts (v.phase_of m) b h) (e.step m ev)
    steps m b h ev ok far is z =
        let seen : Heard h ev = heard (v.phase_of m) h ev z.expected is in
        done_as (reacts (v.phase_of m) b h) (reacts (v.phase_of m) (v.memory_of m) seen.0) (e.step m ev)
        (step_as (v.phase_of m) b (v.memory_of m) h seen.0 far seen.1 z)
        (mirrors.step m seen.0 ev ok seen.2 (sized_same (v.phase_of m) b (v.memory_of m) h seen.0 far seen.1 z))

    steps_so : (m : List ℕ) (p : Phase) (b : Memory) (h : Event) (ev : given.Event) → Stands m p b → EventIs code h ev → Sized p b h →
        Done (reacts p b h) (e.step m ev)
    steps_so m p b h ev k is z = subst (λ q. AsFar q b (v.memory_of m) → Sized q b h → Done (reacts q b h) (e.step m ev)) k.phase
        (λ far z. steps m b h ev k.sound far is z) k.memory z

    pub implements : Implements code e
    implements = record {
      start = record { phase = mirrors.start; sound = mirrors.start_sound; memory = inl refl };
      memory = λ m p b h ev k is z. (steps_so m p b h ev k is z).memory;
      act = λ m p b h ev k is z. (steps_so m p b h ev k is z).act;
      empty_root = mirrors.no_root;
      empty_cursor = mirrors.no_cursor;
    }

pub mirrors_whole : MirrorsWhole
unfolding MirrorsWhole
mirrors_whole v e mirrors steady = whole (code v) e (implements v e mirrors) steady

pub mirrors_told_twice_if_struck : MirrorsToldTwiceIfStruck
unfolding MirrorsToldTwiceIfStruck
mirrors_told_twice_if_struck v e mirrors = told_twice_if_struck (code v) e (implements v e mirrors)
