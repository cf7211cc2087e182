-- When two pages, statements, letters or memories are the same as far as anything is looked at: below the numbers of machines and slots, and of the hours that
-- a stage looks at. Assumes nothing: these are definitions.
use Rattle.sums.specs.Cells.{slots}
use Rattle.std.specs.Prelude.{◌≡◌, ℕ, ◌<◌, ◌≤◌, Bool, Option}
use Rattle.protocol.specs.Limits.{crew}
use Rattle.protocol.specs.Memory.{Cursor, Mail, Memory}
use Rattle.protocol.specs.Reader.{Stage, begun, whole, ended, PageSet, Reader}
use Rattle.protocol.specs.Statements.{Statement, nothing, has_begun, is_whole, has_ended, Letter}
use Rattle.protocol.specs.Tables.{Page, Tables}

pub record SamePage (p q : Page) : Type 0 where
  pub entries : (s : ℕ) → s < slots → p.entries s ≡ q.entries s

abbrev pub SameTables : Tables → Tables → Type 0
SameTables t u = (j : ℕ) → j < crew → SamePage (t.page j) (u.page j)

-- tables of the hours from lo on, and those that a stage looks at
abbrev pub SameFrom : (lo : ℕ) → (ℕ → Tables) → (ℕ → Tables) → Type 0
SameFrom lo t u = (h j : ℕ) → lo ≤ h → j < crew → SamePage ((t h).page j) ((u h).page j)

abbrev pub SameOpen : Stage → (ℕ → Tables) → (ℕ → Tables) → Type 0
SameOpen (begun f) t u = SameFrom f t u
SameOpen (whole c nx) t u = SameFrom c t u
SameOpen ended t u = Unit {0}

pub data SameWord : Statement → Statement → Type 0 where
  same_nothing : SameWord nothing nothing
  same_begun : (c : ℕ) → SameWord (has_begun c) (has_begun c)
  same_whole : (c : ℕ) (nx : Option ℕ) (p q : Page) → SamePage p q → SameWord (is_whole c nx p) (is_whole c nx q)
  same_ended : SameWord has_ended has_ended

pub record SameMail (m n : Mail) : Type 0 where
  pub word : (j : ℕ) → j < crew → SameWord (m.word j) (n.word j)
  pub passed : (j : ℕ) → j < crew → m.passed j ≡ n.passed j
  pub due : (j : ℕ) → j < crew → m.due j ≡ n.due j
  pub woke : (j : ℕ) → j < crew → m.woke j ≡ n.woke j

-- a reader with tables
abbrev pub reader_with : Stage → ℕ → (ℕ → Tables) → PageSet → Bool → (kept base : ℕ) → Reader
reader_with s p t w pa k o = record { stage = s; pos = p; tables = t; set = w; paused = pa; kept = k; base = o }

pub data SameMemory : Memory → Memory → Type 0 where
  -- the base is for the proof only
  same_memory : (me : ℕ) (s : Stage) (p : ℕ) (t u : ℕ → Tables) (w : PageSet) (pa : Bool) (k o₁ o₂ : ℕ) (c : Cursor) (m n : Mail) → me < crew → SameOpen s t u →
      SameMail m n →
      SameMemory (record { me = me; reader = reader_with s p t w pa k o₁; cursor = c; mail = m }) (record {
        me = me;
        reader = reader_with s p u w pa k o₂;
        cursor = c;
        mail = n;
      })

pub data SameLetter : Letter → Letter → Type 0 where
  same_letter : (w : Bool) (p : ℕ) (s t : Statement) → SameWord s t → SameLetter (record { woke = w; passed = p; says = s }) (record {
    woke = w;
    passed = p;
    says = t;
  })
