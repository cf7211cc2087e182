-- What a machine does next, what it is told, and what it does. Assumes nothing: these are definitions.
use Rattle.std.specs.Prelude.{ℕ, Option}
use Rattle.sums.specs.Sums.{Reading}
use Rattle.protocol.specs.Entries.{Entry}
use Rattle.protocol.specs.Memory.{Cursor, Memory}
use Rattle.protocol.specs.Reader.{PageSet, Root}
use Rattle.protocol.specs.Statements.{Letter}
use Rattle.protocol.specs.Tables.{Page}

-- what it does when it is next told to go on
pub data Phase : Type 0 where
  asleep : Phase  -- struck: all is forgotten
  asks_root : Phase  -- boot: the root record has been asked for
  asks_page : ℕ → Phase  -- this page of it
  asks_cursor : Phase  -- the cursor
  placing : Phase  -- the root record has been kept: the row is to be read from its place
  placed : Phase  -- and what lies before may be released
  ready : Phase  -- nothing is half done
  noting : ℕ → ℕ → Phase  -- the row of this hour and slot has been told: the cursor is to be kept behind it
  saving : ℕ → Phase  -- a checkpoint: this page has been kept, and those before it

-- what a machine is told
pub data Event : Type 0 where
  wakes : ℕ → Event  -- it wakes, and is this machine
  comes : Reading → Event
  later : Event  -- there is no reading for now
  at_end : Event  -- the row has no more
  letter : ℕ → Letter → Event  -- from this machine
  root_is : Root → Event  -- what has been recalled
  page_is : Option Page → Event  -- none: this page has never been kept
  cursor_is : Cursor → Event
  go : Event

-- what it does
pub data Act : Type 0 where
  more : Act  -- it asks for the next reading
  from : ℕ → Act  -- the row is to be read from here on
  let_go : ℕ → Act  -- readings before this place may be released
  sends : ℕ → Letter → Act
  keep_root : Root → Act
  keep_page : PageSet → ℕ → Page → Act
  keep_cursor : Cursor → Act
  recall_root : Act
  recall_page : PageSet → ℕ → Act
  recall_cursor : Act
  tells : ℕ → ℕ → Entry → Act  -- a row of the wall: hour, place, entry
  rests : Act

-- what a step leaves, and does
pub record Reaction : Type 0 where
  pub phase : Phase
  pub memory : Memory
  pub act : Act

abbrev pub does : Phase → Memory → Act → Reaction
does p b d = record { phase = p; memory = b; act = d }
