-- What the cells of a memory stand for: a phase, a reader with its tables, a cursor, what was heard of each machine. Each number stands for something, also in a
-- memory that no machine has. Assumes nothing: these are definitions.
use Rattle.std.specs.Prelude.{ℕ, Bool, ◌+◌, ◌*◌, cond, not, List, Some, None, Option, ◌==◌}
use Rattle.sums.specs.Cells.{slots}
use Rattle.protocol.specs.Entries.{Entry}
use Rattle.protocol.specs.Memory.{Cursor, Mail, Memory}
use Rattle.protocol.specs.Phases.{Phase, asleep, asks_root, asks_page, asks_cursor, placing, placed, ready, noting, saving}
use Rattle.protocol.specs.Reader.{Stage, begun, whole, ended, PageSet, no_set, first_set, second_set, Reader}
use Rattle.protocol.specs.Statements.{Statement, nothing, has_begun, is_whole, has_ended}
use Rattle.protocol.specs.Tables.{Page, Tables, blank}
use Rattle.gauge.specs.Memory.{at, phase_at, index_at, telling_at, me_at, stage_at, hour_at, next_at, pos_at, set_at, paused_at, kept_at, cursor_hour_at, cursor_slot_at, word_at, word_hour_at, word_next_at, passed_at, due_at, woke_at, sums_at, counts_at, word_sums_at, word_counts_at, no_next}

abbrev pub phase_of : (number index telling : ℕ) → Phase
phase_of n i t =
    cond (n == 1) asks_root
    (cond (n == 2) (asks_page i)
    (cond (n == 3) asks_cursor
    (cond (n == 4) placing
    (cond (n == 5) placed
    (cond (n == 6) ready
    (cond (n == 7) (noting t i)
    (cond (n == 8) (saving i) asleep)))))))

abbrev pub phase_in : List ℕ → Phase
phase_in m = phase_of (at m phase_at) (at m index_at) (at m telling_at)

abbrev pub next_of : (number : ℕ) → Option ℕ
next_of n = cond (n == no_next) None (Some n)

abbrev pub stage_of : (number hour next : ℕ) → Stage
stage_of n h x = cond (n == 0) (begun h) (cond (n == 1) (whole h (next_of x)) ended)

abbrev pub stage_in : List ℕ → Stage
stage_in m = stage_of (at m stage_at) (at m hour_at) (at m next_at)

abbrev pub set_of : (number : ℕ) → PageSet
set_of n = cond (n == 1) first_set (cond (n == 2) second_set no_set)

-- a page whose sums and counts stand from two cells on
abbrev pub entry_in : List ℕ → (sums counts slot : ℕ) → Entry
entry_in m a b s = record { sum = at m (a + s); count = at m (b + s) }

abbrev pub page_in : List ℕ → (sums counts : ℕ) → Page
page_in m a b = record { entries = entry_in m a b }

-- the tables of the hour at hand; those of other hours are blank
abbrev pub table_in : List ℕ → Tables
table_in m = record { page = λ j. page_in m (sums_at + slots * j) (counts_at + slots * j) }

abbrev pub tables_in : List ℕ → ℕ → Tables
tables_in m h = cond (h == at m hour_at) (table_in m) blank

abbrev pub flag_in : List ℕ → ℕ → Bool
flag_in m c = not (at m c == 0)

abbrev pub reader_in : List ℕ → Reader
reader_in m =
    record { stage = stage_in m; pos = at m pos_at; tables = tables_in m; set = set_of (at m set_at); paused = flag_in m paused_at; kept = at m kept_at; base = 0 }

abbrev pub cursor_in : List ℕ → Cursor
cursor_in m = record { hour = at m cursor_hour_at; slot = at m cursor_slot_at }

abbrev pub word_of : (number hour next : ℕ) → Page → Statement
word_of n h x p =
    cond (n == 1) (has_begun h) (cond (n == 2) (is_whole h (next_of x) p) (cond (n == 3) has_ended nothing))

abbrev pub word_in : List ℕ → ℕ → Statement
word_in m i =
    word_of (at m (word_at + i)) (at m (word_hour_at + i)) (at m (word_next_at + i)) (page_in m (word_sums_at + slots * i) (word_counts_at + slots * i))

abbrev pub mail_in : List ℕ → Mail
mail_in m = record { word = word_in m; passed = λ i. at m (passed_at + i); due = λ i. flag_in m (due_at + i); woke = λ i. flag_in m (woke_at + i) }

abbrev pub memory_of : List ℕ → Memory
memory_of m = record { me = at m me_at; reader = reader_in m; cursor = cursor_in m; mail = mail_in m }
