-- An engine whose memories, letters and drawers are read as records, by views; and what it is for such an engine to mirror the machine of records. Assumes
-- nothing: these are definitions.
use Rattle.store.specs.Drawers.{root_drawer, cursor_drawer}
use Rattle.std.specs.Prelude.{◌≡◌, ℕ, Bool, true, List, [], Some, Option}
use Rattle.machine.specs.Run.{Engine, Steady, bytes}
use Rattle.machine.specs.Run as given
use Rattle.protocol.specs.Memory.{Cursor, Memory, no_cursor}
use Rattle.protocol.specs.Phases.{Phase, asleep, Event, wakes, comes, later, at_end, letter, root_is, page_is, cursor_is, go, Act, more, from, let_go, sends, keep_root, keep_page, keep_cursor, recall_root, recall_page, recall_cursor, tells, rests, Reaction}
use Rattle.protocol.specs.Reader.{Root, blank_root}
use Rattle.protocol.specs.Statements.{Letter}
use Rattle.protocol.specs.Step.{reacts}
use Rattle.protocol.specs.Tables.{Page}
use Rattle.protocol_world.specs.Drawers.{page_drawer}
use Rattle.protocol_world.specs.Sizes.{Sized}
use Rattle.promise.specs.Once.{ToldTwiceIfStruck}
use Rattle.promise.specs.Promise.{Whole, everything}
use Rattle.protocol_bridge.specs.Same.{SamePage, SameLetter, SameMemory}

-- what the numbers of a memory, and bytes, are read as
pub record Views : Type 0 where
  pub phase_of : List ℕ → Phase
  pub memory_of : List ℕ → Memory
  pub letter_of : List ℕ → Option Letter  -- none: the bytes are no letter
  pub page_of : List ℕ → Option Page  -- none: the drawer holds no page
  pub root_of : List ℕ → Root
  pub cursor_of : List ℕ → Cursor
  pub sound : List ℕ → Bool  -- what the engine keeps of its memories besides

-- an event of the engine is seen as one of records
abbrev pub EventSeen : Views → Event → given.Event → Type 0
EventSeen v (wakes i) ev = ev ≡ given.wakes i
EventSeen v (comes r) ev = ev ≡ given.comes r.time r.key r.value
EventSeen v later ev = ev ≡ given.later
EventSeen v at_end ev = ev ≡ given.ends
EventSeen v (letter j l) ev = (bs : List ℕ) × (ev ≡ given.letter j bs) × (v.letter_of bs ≡ Some l)
EventSeen v (root_is r) ev = (bs : List ℕ) × (ev ≡ given.slot bs) × (v.root_of bs ≡ r)
EventSeen v (page_is p) ev = (bs : List ℕ) × (ev ≡ given.slot bs) × (v.page_of bs ≡ p)
EventSeen v (cursor_is c) ev = (bs : List ℕ) × (ev ≡ given.slot bs) × (v.cursor_of bs ≡ c)
EventSeen v go ev = ev ≡ given.next

-- bytes that are read as this letter, or this page, as far as anything of it is looked at
abbrev pub LetterSeen : Views → List ℕ → Letter → Type 0
LetterSeen v bs l = (k : Letter) × (v.letter_of bs ≡ Some k) × SameLetter l k

abbrev pub PageSeen : Views → List ℕ → Page → Type 0
PageSeen v bs p = (q : Page) × (v.page_of bs ≡ Some q) × SamePage p q

-- an act of the engine does what one of records does
abbrev pub ActSeen : Views → Act → given.Act → Type 0
ActSeen v more a = a ≡ given.more
ActSeen v (from p) a = a ≡ given.from p
ActSeen v (let_go p) a = a ≡ given.let_go p
ActSeen v (sends j l) a = (bs : List ℕ) × (a ≡ given.sends j bs) × LetterSeen v bs l × (bytes bs ≡ true)
ActSeen v (keep_root r) a = (bs : List ℕ) × (a ≡ given.keep root_drawer bs) × (v.root_of bs ≡ r) × (bytes bs ≡ true)
ActSeen v (keep_page s q p) a = (bs : List ℕ) × (a ≡ given.keep (page_drawer s q) bs) × PageSeen v bs p × (bytes bs ≡ true)
ActSeen v (keep_cursor c) a = (bs : List ℕ) × (a ≡ given.keep cursor_drawer bs) × (v.cursor_of bs ≡ c) × (bytes bs ≡ true)
ActSeen v recall_root a = a ≡ given.recall root_drawer
ActSeen v (recall_page s q) a = a ≡ given.recall (page_drawer s q)
ActSeen v recall_cursor a = a ≡ given.recall cursor_drawer
ActSeen v (tells h k s) a = a ≡ given.tells h k s.sum
ActSeen v rests a = a ≡ given.rests

-- a step of the engine does what a reaction of records does
pub record StepSeen (v : Views) (r : Reaction) (s : given.Step) : Type 0 where
  pub phase : v.phase_of s.memory ≡ r.phase
  pub memory : SameMemory r.memory (v.memory_of s.memory)
  pub sound : v.sound s.memory ≡ true
  pub act : ActSeen v r.act s.act

-- each step that can come about, from a memory and at an event that are seen as records, does what those do
pub record Mirrors (v : Views) (e : Engine) : Type 0 where
  pub start : v.phase_of e.start ≡ asleep
  pub start_sound : v.sound e.start ≡ true
  pub step : (m : List ℕ) (h : Event) (ev : given.Event) → v.sound m ≡ true → EventSeen v h ev → Sized (v.phase_of m) (v.memory_of m) h →
      StepSeen v (reacts (v.phase_of m) (v.memory_of m) h) (e.step m ev)
  pub no_root : v.root_of [] ≡ blank_root 0
  pub no_cursor : v.cursor_of [] ≡ no_cursor

-- THE MAIN PROMISE, of any engine that mirrors the machine of records, whatever the gauges have
unfoldable pub MirrorsWhole : Type 0
MirrorsWhole = (v : Views) (e : Engine) → Mirrors v e → Steady e → Whole everything e

unfoldable pub MirrorsToldTwiceIfStruck : Type 0
MirrorsToldTwiceIfStruck = (v : Views) (e : Engine) → Mirrors v e → ToldTwiceIfStruck e
