-- What the machine's bytes and memories stand for. Assumes nothing: these are definitions.
use Rattle.std.specs.Prelude.{ℕ, Bool, true, false, cond, not, ◌&&◌, List, length, Some, None, Ok, Err, Option, Result, ◌==◌, slice_index}
use Rattle.sums.specs.Pages.{page_sums, page_counts}
use Rattle.sums.specs.Sums.{or}
use Rattle.machine.specs.Boot.{page_fits}
use Rattle.machine.specs.Run.{all_small}
use Rattle.protocol.specs.Memory as protocol
use Rattle.protocol.specs.Phases.{Phase, asleep, asks_root, asks_page, asks_cursor, placing, placed, ready, noting, saving}
use Rattle.protocol.specs.Reader.{PageSet, no_set, first_set, second_set, Root}
use Rattle.protocol.specs.Statements.{Letter}
use Rattle.protocol.specs.Tables.{Page, filled}
use Rattle.store.specs.Records.{root_of, cursor_of}
use Rattle.store.specs.declared.records.Cursor.{Cursor}
use Rattle.store.specs.declared.records.PageSet.TheVariants as store_set
use Rattle.store.specs.declared.records.PageSet as store
use Rattle.store.specs.declared.records.Root as store_root
use Rattle.gauge.specs.Memory.{at, cells, stage_at, set_at, filled_at}
use Rattle.gauge.specs.Views.{flag_in, table_in, phase_in, memory_of}
use Rattle.protocol_bridge.specs.Views.{Views}
use Rattle.exchange.specs.Letters.{head_of}
use Rattle.exchange.specs.Mail.{numbers_beside_fit}
use Rattle.exchange.specs.Words.{as_statement}
use Rattle.exchange.specs.declared.error.LetterError.{LetterError}
use Rattle.exchange.specs.declared.statement.Head.{Head}

-- PAGES, of sums and counts side by side
abbrev pub page_of_rows : (sums counts : List ℕ) → Page
page_of_rows ss cs = record { entries = λ s. record { sum = slice_index ss s; count = slice_index cs s } }

abbrev pub page_seen : List ℕ → Option Page
page_seen bs = cond (page_fits bs) (Some (page_of_rows (page_sums bs) (page_counts bs))) None

-- RECORDS
abbrev pub set_seen : store.PageSet → PageSet
set_seen store_set.None = no_set
set_seen store_set.First = first_set
set_seen store_set.Second = second_set

abbrev pub as_root : store_root.Root → Root
as_root r = record { set = set_seen r.set; hour = r.hour; pos = r.pos }

abbrev pub root_seen : List ℕ → Root
root_seen bs = as_root (root_of bs)

abbrev pub as_cursor : Cursor → protocol.Cursor
as_cursor c = record { hour = c.hour; slot = c.cell }

abbrev pub cursor_seen : List ℕ → protocol.Cursor
cursor_seen bs = as_cursor (cursor_of bs)

-- LETTERS
abbrev pub letter_of_head : Result (Head × List ℕ) LetterError → Option Letter
letter_of_head (Ok p) =
    cond (numbers_beside_fit p.0.statement p.1)
    (Some (record { woke = p.0.woke; passed = p.0.passed; says = as_statement p.0.statement (page_of_rows (page_sums p.1) (page_counts p.1)) })) None
letter_of_head (Err e) = None

abbrev pub letter_seen : List ℕ → Option Letter
letter_seen bs = letter_of_head (head_of bs)

-- MEMORIES: of its length, of numbers below 2^64; once it has booted, the tables have a reading where the flag says so; and what a boot is in the midst of
abbrev pub is_up : Phase → Bool
is_up asleep = false
is_up asks_root = false
is_up (asks_page q) = false
is_up asks_cursor = false
is_up placing = true
is_up placed = true
is_up ready = true
is_up (noting m s) = true
is_up (saving q) = true

abbrev pub filled_as_said : List ℕ → Bool
filled_as_said m = cond (filled (table_in m)) (flag_in m filled_at) (not (flag_in m filled_at))

-- while pages are recalled the reader is at the beginning of its hour, and the root record names a set of pages
abbrev pub recalls_pages : Phase → Bool
recalls_pages asleep = false
recalls_pages asks_root = false
recalls_pages (asks_page q) = true
recalls_pages asks_cursor = false
recalls_pages placing = false
recalls_pages placed = false
recalls_pages ready = false
recalls_pages (noting m s) = false
recalls_pages (saving q) = false

abbrev pub names_set : (number : ℕ) → Bool
names_set n = or (n == 1) (n == 2)

abbrev pub begun_with_set : List ℕ → Bool
begun_with_set m = at m stage_at == 0 && names_set (at m set_at)

abbrev pub sound : List ℕ → Bool
sound m =
    length m == cells && (all_small m && (or (not (is_up (phase_in m))) (filled_as_said m) && or (not (recalls_pages (phase_in m))) (begun_with_set m)))

-- THE MACHINE, as the bridge reads it
abbrev pub own_views : Views
own_views = record { phase_of = phase_in; memory_of = memory_of; letter_of = letter_seen; page_of = page_seen; root_of = root_seen; cursor_of = cursor_seen; sound = sound }
