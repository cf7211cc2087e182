-- What holds whenever the world is looked at. A node's own part: its drawers stand for something true, and so does its memory once it has booted. The part
-- between nodes: what each has heard of the others, and what is on the wires, is true. It is stated with the hours below which each has told.
use Rattle.std.proofs.Common.{◌≡◌, ℕ, suc, ◌+◌, ◌-◌, ◌*◌, ◌/◌, ◌%◌, ◌<◌, ◌≤◌, true, false, ◌⊎◌, eqb, leb, List, [], ◌∷◌, ◌++◌, length, get_or, Some, None, Option}
use Rattle.sums.specs.Cells.{slots}
use Rattle.sums.specs.Parts.{no_reading}
use Rattle.sums.specs.Sums.{pick, every, Reading, Gauges, comes_up}
use Rattle.machine.specs.Run.{nth_row}
use Rattle.protocol.specs.Checkpoints.{page_kept}
use Rattle.protocol.specs.Limits.{late, crew, kept_pages}
use Rattle.protocol.specs.Memory.{Cursor, Memory, no_cursor, new_memory}
use Rattle.protocol.specs.OpenHours.{no_tables, page_at}
use Rattle.protocol.specs.Phases.{Phase, asleep, asks_root, asks_page, asks_cursor, placing, placed, ready, noting, saving, Event, wakes, comes, later, at_end, letter, root_is, page_is, cursor_is, go}
use Rattle.protocol.specs.Reader.{Stage, begun, whole, ended, is_reading, PageSet, no_set, first_set, second_set, other_set, Root}
use Rattle.protocol.specs.Statements.{Letter}
use Rattle.protocol.specs.Tables.{Tables, Page, blank_page, blank}
use Rattle.protocol.proofs.Choosing.{Quiet}
use Rattle.protocol.proofs.Tables.{hour_at, Taken}
use Rattle.protocol_world.specs.Wall.{Told, has_told, is_right}
use Rattle.protocol_world.specs.Worlds.{Node, World}
use Rattle.protocol_world.proofs.Facts.{NoneIn, Near, NextIs, Fact, HasHour}

-- LISTS OF LETTERS
unfoldable pub EachIs : (Letter → Type 0) → List Letter → Type 0
EachIs P [] = Unit {0}
EachIs P (l ∷ ls) = P l × EachIs P ls

-- a letter that came, and is not taken in yet
abbrev pub came : (sender : ℕ) → Option Event → List Letter
came a None = []
came a (Some (letter b l)) = pick (eqb b a) (l ∷ []) []
came a (Some ev) = []

-- all letters from the one to the other
abbrev pub queue : World → ℕ → ℕ → List Letter
queue w a b = came a (w.node b).pending ++ w.wire a b

-- ONE ROW
module _ (row : List Reading) where
  -- the first pos places are read, and f is the first hour that is not done; hours below base are told by all
  pub record Began (base pos f : ℕ) (t : ℕ → Tables) : Type 0 where
    pub within : pos ≤ length row
    pub above : base ≤ f
    pub done : (p : ℕ) → p < length row → hour_at row p < f → hour_at row p < base
    pub rest : (q : ℕ) → pos ≤ q → q < length row → f ≤ hour_at row q
    pub high : (p : ℕ) → p < pos → hour_at row p ≤ f + late
    pub tables : (h : ℕ) → f ≤ h → Taken row pos h (t h)
    pub near : Near row f

  -- hour c is whole
  pub record Over (pos c : ℕ) (nx : Option ℕ) : Type 0 where
    pub rest : (q : ℕ) → pos ≤ q → q < length row → c < hour_at row q
    pub after : NextIs row c nx
    pub here : HasHour row c

  abbrev pub ReaderIs : (base pos : ℕ) (t : ℕ → Tables) → Stage → Type 0
  ReaderIs base pos t (begun f) = Began base pos f t
  ReaderIs base pos t (whole c nx) = Began base pos c t × Over pos c nx
  ReaderIs base pos t ended = (pos ≡ length row) × ((p : ℕ) → p < length row → hour_at row p < base)

  -- the tables of a root record
  abbrev pub kept_tables : (ℕ → Page) → (f : ℕ) → ℕ → Tables
  kept_tables pages f h = pick (leb h (f + late)) (record { page = λ j. pages (crew * (h - f) + j) }) blank

  abbrev pub root_tables : (page : ℕ → Page) → PageSet → (f : ℕ) → ℕ → Tables
  root_tables page no_set f = no_tables
  root_tables page first_set f = kept_tables page f
  root_tables page second_set f = kept_tables page f

  -- what the root record says, with the pages that it names, all of which have been kept
  pub record RootIs (pages : PageSet → ℕ → Option Page) (set : PageSet) (hour pos : ℕ) : Type 0 where
    pub page : ℕ → Page
    pub there : (set ≡ no_set → ⊥) → (q : ℕ) → q < kept_pages → pages set q ≡ Some (page q)
    pub began : Began hour pos hour (root_tables page set hour)

  -- a booted memory, by the drawers
  pub record MemoryIs (i : ℕ) (r : Root) (c : Cursor) (b : Memory) : Type 0 where
    pub me : b.me ≡ i
    pub cursor : b.cursor ≡ c
    pub reader : ReaderIs b.reader.base b.reader.pos b.reader.tables b.reader.stage
    pub set : b.reader.set ≡ r.set
    pub kept : b.reader.kept ≡ r.pos
    pub finished : b.reader.stage ≡ ended → r.pos ≡ b.reader.pos
    pub flags : (j : ℕ) → b.mail.woke j ≡ true → b.mail.due j ≡ true
    pub others : (j : ℕ) → b.mail.due j ≡ true → j ≡ i → ⊥

-- why the pages are being kept: something has been read since the root record
abbrev pub MaySave : (root : ℕ) → Memory → Stage → Type 0
MaySave n b (begun f) = n < b.reader.pos
MaySave n b (whole c nx) = ⊥
MaySave n b ended = ⊥

module _ (gs : Gauges) where
  abbrev pub row : ℕ → List Reading
  row i = nth_row gs i

  -- place k of hour g stands before slot s of hour h
  abbrev pub Before : (g k h s : ℕ) → Type 0
  Before g k h s = (g < h) ⊎ ((g ≡ h) × (k / crew < s))

  -- of adder i's places that come up, those before slot s of hour h have T
  abbrev pub Covers : (T : ℕ → ℕ → Type 0) → (i h s : ℕ) → Type 0
  Covers T i h s = (g k : ℕ) → k % crew ≡ i → k < crew * slots → Before g k h s → comes_up gs g k ≡ true → T g k

  -- of adder i's places, those of earlier hours are told, and of this hour those of slots before s
  abbrev pub CursorIs : (ts : List Told) (i h s : ℕ) → Type 0
  CursorIs ts i h s = Covers (λ g k. has_told ts g k ≡ true) i h s

  -- between the cursor and slot s of hour m nothing comes up
  abbrev pub NextRow : (i : ℕ) → Cursor → (m s : ℕ) → Type 0
  NextRow i c m s = Covers (λ g k. Before g k c.hour c.slot) i m s

  -- an hour of some row; and one that is no later than the first after some reading's
  abbrev pub SomeHour : ℕ → Type 0
  SomeHour m = (a : ℕ) × (a < crew) × HasHour (row a) m

  pub data Reached (h : ℕ) : Type 0 where
    at_start : h ≡ 0 → Reached h
    reached : (m : ℕ) → SomeHour m → h ≤ suc m → Reached h

  module _ (ts : List Told) (i : ℕ) (x : Node) where
    pub record AtWork : Type 0 where
      pub memory : MemoryIs (row i) i x.root x.cursor x.memory
      pub clear : x.gone ≡ x.root.pos
      pub room : x.memory.reader.pos ≤ x.gone + 4096
      pub newer : x.root.pos ≤ x.memory.reader.pos

    -- where it reads, the next reading is the one that is asked for next
    abbrev pub InPlace : Type 0
    InPlace = is_reading x.memory.reader.stage ≡ true → x.reads_at ≡ x.memory.reader.pos

    -- by its phase, and what it is told next
    pub data Awaits : Phase → Option Event → Type 0 where
      is_waking : Awaits asleep (Some (wakes i))
      is_asking_root : x.memory ≡ new_memory i → Awaits asks_root (Some (root_is x.root))
      is_asking_page : (q : ℕ) (pg : Page) → x.pages x.root.set q ≡ Some pg → x.memory.me ≡ i → x.memory.cursor ≡ no_cursor → q < kept_pages →
          (x.root.set ≡ no_set → ⊥) → x.memory.reader.stage ≡ begun x.root.hour → x.memory.reader.pos ≡ x.root.pos →
          x.memory.reader.set ≡ x.root.set → x.memory.reader.kept ≡ x.root.pos →
          x.memory.reader.base ≡ x.root.hour →
          ((j : ℕ) → j < q → x.pages x.root.set j ≡ Some (page_at x.memory.reader.tables x.root.hour j)) →
          ((h j : ℕ) → x.root.hour ≤ h → j < crew → q ≤ crew * (h - x.root.hour) + j → (x.memory.reader.tables h).page j ≡ blank_page) →
          Awaits (asks_page q) (Some (page_is (Some pg)))
      is_asking_cursor : x.memory.me ≡ i → x.memory.cursor ≡ no_cursor →
          ReaderIs (row i) x.root.hour x.memory.reader.pos x.memory.reader.tables x.memory.reader.stage → x.memory.reader.pos ≡ x.root.pos →
          x.memory.reader.set ≡ x.root.set → x.memory.reader.kept ≡ x.root.pos → x.memory.reader.base ≡ x.root.hour →
          is_reading x.memory.reader.stage ≡ true → Awaits asks_cursor (Some (cursor_is x.cursor))
      is_placing : MemoryIs (row i) i x.root x.cursor x.memory → x.memory.reader.pos ≡ x.root.pos → Awaits placing (Some go)
      is_placed : MemoryIs (row i) i x.root x.cursor x.memory → x.memory.reader.pos ≡ x.root.pos → x.reads_at ≡ x.root.pos → Awaits placed (Some go)
      is_noting : (m s : ℕ) → AtWork → InPlace → x.cursor.hour ≤ m → CursorIs ts i m (suc s) → SomeHour m → s < slots → NextRow i x.cursor m s →
          ((a : ℕ) → a < crew → NoneIn (row a) x.cursor.hour m) → Awaits (noting m s) (Some go)
      is_saving : (q : ℕ) → AtWork → q < kept_pages → MaySave x.root.pos x.memory x.memory.reader.stage →
          ((j : ℕ) → j < suc q → x.pages (other_set x.memory.reader.set) j ≡ Some (page_kept x.memory j)) → Awaits (saving q) (Some go)
      is_going : AtWork → InPlace → Awaits ready (Some go)
      is_reading_one : AtWork → is_reading x.memory.reader.stage ≡ true → x.memory.reader.pos < length (row i) → x.reads_at ≡ suc x.memory.reader.pos →
          x.memory.reader.pos < x.gone + 4096 →
          Awaits ready (Some (comes (get_or (row i) x.memory.reader.pos no_reading)))
      is_full : AtWork → is_reading x.memory.reader.stage ≡ true → x.reads_at ≡ x.memory.reader.pos → x.memory.reader.pos < length (row i) →
          Awaits ready (Some later)
      is_ending : AtWork → is_reading x.memory.reader.stage ≡ true → length (row i) ≤ x.memory.reader.pos → Awaits ready (Some at_end)
      is_given : (j : ℕ) (l : Letter) → j < crew → (j ≡ i → ⊥) → AtWork → InPlace → Awaits ready (Some (letter j l))
      is_resting : AtWork → Quiet x.memory → Awaits ready None
      is_pausing : AtWork → is_reading x.memory.reader.stage ≡ true → InPlace → Awaits ready None

    pub record Own : Type 0 where
      pub low : x.gone ≤ x.root.pos
      pub high : x.root.pos ≤ x.gone + 4096
      pub root : RootIs (row i) x.pages x.root.set x.root.hour x.root.pos
      pub cursor : CursorIs ts i x.cursor.hour x.cursor.slot
      pub hour : Reached x.cursor.hour
      pub slot : x.cursor.slot ≤ slots
      pub awaits : Awaits x.phase x.pending

  -- BETWEEN NODES
  -- the hours below which each has told all of its places: they never fall
  abbrev pub hours : World → ℕ → ℕ
  hours w i = (w.node i).cursor.hour

  module _ (H : ℕ → ℕ) where
    pub record LetterIs (a b : ℕ) (l : Letter) : Type 0 where
      pub fact : Fact (row a) b (H b) l.says
      pub passed : l.passed ≤ H a
      pub apart : a ≡ b → ⊥

    pub record Knows (i : ℕ) (b : Memory) : Type 0 where
      pub words : (a : ℕ) → a < crew → Fact (row a) i (H i) (b.mail.word a)
      pub passed : (a : ℕ) → a < crew → b.mail.passed a ≤ H a
      pub behind : (j : ℕ) → j < crew → (p : ℕ) → p < length (row i) → hour_at (row i) p < b.reader.base → hour_at (row i) p < H j

    pub record Cross (w : World) : Type 0 where
      pub before : (i j : ℕ) → i < crew → j < crew → (p : ℕ) → p < length (row i) → hour_at (row i) p < (w.node i).root.hour → hour_at (row i) p < H j
      pub knows : (i : ℕ) → i < crew → Knows i (w.node i).memory
      pub letters : (a b : ℕ) → a < crew → b < crew → EachIs (LetterIs a b) (queue w a b)

  pub record Good (w : World) : Type 0 where
    pub fault : w.fault ≡ false
    pub right : every (is_right gs) w.told ≡ true
    pub own : (i : ℕ) → i < crew → Own w.told i (w.node i)
    pub cross : Cross (hours w) w
