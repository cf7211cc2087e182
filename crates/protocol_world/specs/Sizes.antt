-- How large the numbers are that a step meets. Assumes nothing: these are definitions.
use Rattle.std.specs.Prelude.{◌≡◌, Bool, false, ℕ, ◌+◌, ◌<◌, ◌≤◌, true, Some, None, Option}
use Rattle.sums.specs.Cells.{slots}
use Rattle.sums.specs.Sums.{a_reading, hour_of}
use Rattle.protocol.specs.Entries.{Entry, nothing_yet}
use Rattle.protocol.specs.Limits.{late, crew, kept_pages}
use Rattle.protocol.specs.Memory.{Memory}
use Rattle.protocol.specs.Phases.{Phase, asleep, asks_root, asks_page, asks_cursor, placing, placed, ready, noting, saving, Event, wakes, comes, later, at_end, letter, root_is, page_is, cursor_is, go, Act, more, from, let_go, sends, keep_root, keep_page, keep_cursor, recall_root, recall_page, recall_cursor, tells, rests}
use Rattle.protocol.specs.Reader.{Stage, begun, whole, ended, first_open, is_reading}
use Rattle.protocol.specs.Statements.{Statement, nothing, has_begun, is_whole, has_ended}
use Rattle.protocol.specs.Step.{reacts}
use Rattle.protocol.specs.Tables.{Tables, Page}

-- hours are below this number
abbrev pub top : ℕ
top = 4611686018427387904

-- rows are no longer than this
abbrev pub longest : ℕ
longest = 268435456

-- AN ENTRY, a page, and the tables of the open hours
abbrev pub EntrySized : Entry → Type 0
EntrySized e = (e.sum < 18446744073709551616) × (e.count < 4294967296) × (e.count ≡ 0 → e.sum ≡ 0)

pub record PageSized (p : Page) : Type 0 where
  pub entries : (s : ℕ) → s < slots → EntrySized (p.entries s)

-- A STAGE
abbrev pub NextSized : Option ℕ → Type 0
NextSized None = Unit {0}
NextSized (Some n) = n < top

abbrev pub StageSized : Stage → Type 0
StageSized (begun c) = c < top
StageSized (whole c nx) = (c < top) × NextSized nx
StageSized ended = Unit {0}

abbrev pub PageBlank : Page → Type 0
PageBlank p = (s : ℕ) → s < slots → p.entries s ≡ nothing_yet

-- the open hours' pages; of later hours there is nothing
abbrev pub OpenFrom : (ℕ → Tables) → (f : ℕ) → Type 0
OpenFrom t f = ((h j : ℕ) → f ≤ h → j < crew → PageSized ((t h).page j)) × ((h j : ℕ) → f + late < h → j < crew → PageBlank ((t h).page j))

abbrev pub OpenSized : (ℕ → Tables) → Stage → Type 0
OpenSized t (begun f) = OpenFrom t f
OpenSized t (whole c nx) = OpenFrom t c
OpenSized t ended = Unit {0}

abbrev pub WordSized : Statement → Type 0
WordSized nothing = Unit {0}
WordSized (has_begun c) = c < top
WordSized (is_whole c nx p) = (c < top) × NextSized nx × PageSized p
WordSized has_ended = Unit {0}

pub record MemorySized (b : Memory) : Type 0 where
  pub me : b.me < crew
  pub stage : StageSized b.reader.stage
  pub pos : b.reader.pos ≤ longest
  pub kept : b.reader.kept ≤ longest
  pub pages : OpenSized b.reader.tables b.reader.stage
  pub finished : b.reader.stage ≡ ended → b.reader.kept ≡ b.reader.pos
  pub hour : b.cursor.hour ≤ top
  pub slot : b.cursor.slot ≤ slots
  pub words : (a : ℕ) → a < crew → WordSized (b.mail.word a)
  pub passed : (a : ℕ) → a < crew → b.mail.passed a ≤ top

-- AN EVENT, a memory with its phase, and what is told
abbrev pub EventSized : Event → Type 0
EventSized (wakes i) = i < crew
EventSized (comes r) = a_reading r ≡ true
EventSized later = Unit {0}
EventSized at_end = Unit {0}
EventSized (letter j l) = (j < crew) × (l.passed ≤ top) × WordSized l.says
EventSized (root_is r) = (r.hour < top) × (r.pos ≤ longest)
EventSized (page_is None) = Unit {0}
EventSized (page_is (Some p)) = PageSized p
EventSized (cursor_is c) = (c.hour ≤ top) × (c.slot ≤ slots)
EventSized go = Unit {0}

-- (of a memory that sleeps nothing is read)
abbrev pub MemoryThere : Phase → Memory → Type 0
MemoryThere asleep b = Unit {0}
MemoryThere asks_root b = MemorySized b
MemoryThere (asks_page q) b = MemorySized b × (q < kept_pages)
MemoryThere asks_cursor b = MemorySized b
MemoryThere placing b = MemorySized b
MemoryThere placed b = MemorySized b
MemoryThere ready b = MemorySized b
MemoryThere (noting m s) b = MemorySized b × (m < top) × (s < slots)
MemoryThere (saving q) b = MemorySized b × (q < kept_pages) × (is_reading b.reader.stage ≡ true)

-- what is sent, kept and told
abbrev pub ActSized : Act → Type 0
ActSized more = Unit {0}
ActSized (from p) = Unit {0}
ActSized (let_go p) = Unit {0}
ActSized (sends j l) = (j < crew) × (l.passed ≤ top) × WordSized l.says
ActSized (keep_root r) = (r.hour < top) × (r.pos ≤ longest)
ActSized (keep_page s q p) = (q < kept_pages) × PageSized p
ActSized (keep_cursor c) = (c.hour ≤ top) × (c.slot ≤ slots)
ActSized recall_root = Unit {0}
ActSized (recall_page s q) = Unit {0}
ActSized recall_cursor = Unit {0}
ActSized (tells h k s) = EntrySized s
ActSized rests = Unit {0}

-- a reading, and that none comes for now or any more, is told to a reader that reads; and a reading is of no hour that is done
abbrev pub Timely : Stage → Event → Type 0
Timely s (wakes i) = Unit {0}
Timely s (comes r) = (is_reading s ≡ true) × (first_open s ≤ hour_of r)
Timely s later = is_reading s ≡ true
Timely s at_end = is_reading s ≡ true
Timely s (letter j l) = Unit {0}
Timely s (root_is r) = Unit {0}
Timely s (page_is o) = Unit {0}
Timely s (cursor_is c) = Unit {0}
Timely s go = Unit {0}

-- what a machine may be told in a phase
abbrev pub expects : Phase → Event → Bool
expects p (wakes i) = true
expects asks_root (root_is r) = true
expects (asks_page q) (page_is (Some p)) = true
expects asks_cursor (cursor_is c) = true
expects placing go = true
expects placed go = true
expects (noting m s) go = true
expects (saving q) go = true
expects ready (comes r) = true
expects ready later = true
expects ready at_end = true
expects ready (letter j l) = true
expects ready go = true
expects p h = false

-- an event that may come, and numbers before the step and after it
pub record Sized (p : Phase) (b : Memory) (h : Event) : Type 0 where
  pub expected : expects p h ≡ true
  pub before : MemoryThere p b
  pub event : EventSized h
  pub timely : Timely b.reader.stage h
  pub after : MemoryThere (reacts p b h).phase (reacts p b h).memory
  pub act : ActSized (reacts p b h).act
