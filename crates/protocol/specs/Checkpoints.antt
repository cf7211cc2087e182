-- A checkpoint: the pages of the open hours into the shadow set, then the root record that names it. Assumes nothing: these are definitions.
use Rattle.std.specs.Prelude.{ℕ, suc, true, nat_lt}
use Rattle.sums.specs.Sums.{pick}
use Rattle.protocol.specs.Limits.{kept_pages}
use Rattle.protocol.specs.Memory.{Memory, with_reader}
use Rattle.protocol.specs.OpenHours.{page_at}
use Rattle.protocol.specs.Phases.{placing, saving, keep_root, keep_page, Reaction, does}
use Rattle.protocol.specs.Reader.{begun, other_set, Root, is_reading, first_open, with_pause}
use Rattle.protocol.specs.Tables.{Page}

-- the pages that are to be kept
abbrev pub page_kept : Memory → (q : ℕ) → Page
page_kept b q = page_at b.reader.tables (first_open b.reader.stage) q

-- it begins with the first of them
abbrev pub saves : Memory → Reaction
saves b = does (saving 0) b (keep_page (other_set b.reader.set) 0 (page_kept b 0))

-- what the root record says, and the memory once it is kept
abbrev pub saved_root : Memory → Root
saved_root b = record { set = other_set b.reader.set; hour = first_open b.reader.stage; pos = b.reader.pos }

abbrev pub saved : Memory → Memory
saved b = record {
  me = b.me;
  reader = record {
    stage = begun (first_open b.reader.stage);
    pos = b.reader.pos;
    tables = b.reader.tables;
    set = other_set b.reader.set;
    paused = is_reading b.reader.stage;
    kept = b.reader.pos;
    base = b.reader.base;
  };
  cursor = b.cursor;
  mail = b.mail;
}

-- once page q is kept: the next page, or the root record
abbrev pub saves_next : Memory → ℕ → Reaction
saves_next b q = pick (nat_lt (suc q) kept_pages)
    (does (saving (suc q)) b (keep_page (other_set b.reader.set) (suc q) (page_kept b (suc q))))
    (does placing (saved b) (keep_root (saved_root b)))

-- where less than half a roll has been read since the root record nothing is kept; it pauses all the same
abbrev pub pausing : Memory → Memory
pausing b = with_reader b (with_pause b.reader true)
