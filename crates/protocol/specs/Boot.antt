-- Boot: the root record is recalled, the pages that it names, then the cursor. Assumes nothing: these are definitions.
use Rattle.std.specs.Prelude.{ℕ, suc, not, ◌==◌, nat_lt}
use Rattle.sums.specs.Sums.{pick}
use Rattle.protocol.specs.Limits.{kept_pages}
use Rattle.protocol.specs.Memory.{Cursor, Memory, with_reader}
use Rattle.protocol.specs.OpenHours.{with_page_at}
use Rattle.protocol.specs.Phases.{asks_page, asks_cursor, recall_page, recall_cursor, Reaction, does}
use Rattle.protocol.specs.Reader.{PageSet, no_set, first_set, second_set, Root, first_open, reader_at}
use Rattle.protocol.specs.Tables.{Page}

-- the root record has come
abbrev pub rooted : Memory → Root → PageSet → Reaction
rooted b r no_set = does asks_cursor (with_reader b (reader_at r)) recall_cursor
rooted b r first_set = does (asks_page 0) (with_reader b (reader_at r)) (recall_page first_set 0)
rooted b r second_set = does (asks_page 0) (with_reader b (reader_at r)) (recall_page second_set 0)

-- page q has come
abbrev pub paged : Memory → (q : ℕ) → Page → Memory
paged b q p = with_reader b
    (record {
      stage = b.reader.stage;
      pos = b.reader.pos;
      tables = with_page_at b.reader.tables (first_open b.reader.stage) q p;
      set = b.reader.set;
      paused = b.reader.paused;
      kept = b.reader.kept;
      base = b.reader.base;
    })

abbrev pub asks_next : Memory → ℕ → Reaction
asks_next b q = pick (nat_lt (suc q) kept_pages) (does (asks_page (suc q)) b (recall_page b.reader.set (suc q))) (does asks_cursor b recall_cursor)

-- the cursor has come: this machine has booted, and says to each other that it woke
abbrev pub booted_memory : Memory → Cursor → Memory
booted_memory b c =
    record {
      me = b.me;
      reader = b.reader;
      cursor = c;
      mail = record { word = b.mail.word; passed = b.mail.passed; due = λ j. not (j == b.me); woke = λ j. not (j == b.me) };
    }
