-- What it is for an engine, which works on lists of numbers, to implement the machine of records: each memory stands for a phase and a memory of records, and
-- each step leaves one that stands for what the step on records leaves. Assumes nothing: these are definitions.
use Rattle.std.specs.Prelude.{◌≡◌, ℕ, true, List, [], Some, None, Option}
use Rattle.store.specs.Drawers.{root_drawer, cursor_drawer}
use Rattle.machine.specs.Run.{Engine, bytes}
use Rattle.machine.specs.Run as given
use Rattle.protocol.specs.Memory.{Cursor, Memory, new_memory}
use Rattle.protocol.specs.Phases.{Phase, asleep, Event, wakes, comes, later, at_end, letter, root_is, page_is, cursor_is, go, Act, more, from, let_go, sends, keep_root, keep_page, keep_cursor, recall_root, recall_page, recall_cursor, tells, rests}
use Rattle.protocol.specs.Reader.{Root, blank_root}
use Rattle.protocol.specs.Statements.{Letter}
use Rattle.protocol.specs.Step.{reacts}
use Rattle.protocol.specs.Tables.{Page}
use Rattle.protocol_world.specs.Drawers.{page_drawer}
use Rattle.protocol_world.specs.Sizes.{Sized}

-- how things are written as lists of numbers: relations, so that a memory may hold what no one reads
pub record Code : Type 1 where
  pub memory : List ℕ → Phase → Memory → Type 0
  pub letter : List ℕ → Letter → Type 0
  pub root : List ℕ → Root → Type 0
  pub page : List ℕ → Page → Type 0
  pub cursor : List ℕ → Cursor → Type 0

-- the bytes of a page's drawer, which has none if it has never been kept
abbrev pub DrawerIs : Code → List ℕ → Option Page → Type 0
DrawerIs c bs None = bs ≡ []
DrawerIs c bs (Some p) = c.page bs p

abbrev pub EventIs : Code → Event → given.Event → Type 0
EventIs c (wakes i) ev = ev ≡ given.wakes i
EventIs c (comes r) ev = ev ≡ given.comes r.time r.key r.value
EventIs c later ev = ev ≡ given.later
EventIs c at_end ev = ev ≡ given.ends
EventIs c (letter j l) ev = (bs : List ℕ) × (ev ≡ given.letter j bs) × c.letter bs l
EventIs c (root_is p) ev = (bs : List ℕ) × (ev ≡ given.slot bs) × c.root bs p
EventIs c (page_is o) ev = (bs : List ℕ) × (ev ≡ given.slot bs) × DrawerIs c bs o
EventIs c (cursor_is k) ev = (bs : List ℕ) × (ev ≡ given.slot bs) × c.cursor bs k
EventIs c go ev = ev ≡ given.next

abbrev pub ActIs : Code → Act → given.Act → Type 0
ActIs c more a = a ≡ given.more
ActIs c (from p) a = a ≡ given.from p
ActIs c (let_go p) a = a ≡ given.let_go p
ActIs c (sends j l) a = (bs : List ℕ) × (a ≡ given.sends j bs) × c.letter bs l × (bytes bs ≡ true)
ActIs c (keep_root p) a = (bs : List ℕ) × (a ≡ given.keep root_drawer bs) × c.root bs p × (bytes bs ≡ true)
ActIs c (keep_page s q p) a = (bs : List ℕ) × (a ≡ given.keep (page_drawer s q) bs) × c.page bs p × (bytes bs ≡ true)
ActIs c (keep_cursor k) a = (bs : List ℕ) × (a ≡ given.keep cursor_drawer bs) × c.cursor bs k × (bytes bs ≡ true)
ActIs c recall_root a = a ≡ given.recall root_drawer
ActIs c (recall_page s q) a = a ≡ given.recall (page_drawer s q)
ActIs c recall_cursor a = a ≡ given.recall cursor_drawer
ActIs c (tells h k s) a = a ≡ given.tells h k s.sum
ActIs c rests a = a ≡ given.rests

pub record Implements (c : Code) (e : Engine) : Type 0 where
  pub start : c.memory e.start asleep (new_memory 0)
  pub memory : (m : List ℕ) (p : Phase) (b : Memory) (h : Event) (ev : given.Event) → c.memory m p b → EventIs c h ev → Sized p b h →
      c.memory (e.step m ev).memory (reacts p b h).phase (reacts p b h).memory
  pub act : (m : List ℕ) (p : Phase) (b : Memory) (h : Event) (ev : given.Event) → c.memory m p b → EventIs c h ev → Sized p b h →
      ActIs c (reacts p b h).act (e.step m ev).act
  pub empty_root : c.root [] (blank_root 0)
  pub empty_cursor : c.cursor [] (record { hour = 0; slot = 0 })
