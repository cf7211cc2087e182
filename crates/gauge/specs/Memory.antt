-- The memory of a machine: named cells, a row of eight for each thing that is known of the eight machines, the tables of the hour at hand, and the page of
-- each machine's last statement. Assumes nothing: these are definitions.
use Rattle.std.specs.Prelude.{ℕ, ◌+◌, ◌*◌, List, take, drop, slice_index}
use Rattle.sums.specs.Cells.{places, pages, slots}

-- WHERE EACH CELL IS
-- what is done next, by the number of the phase; with the page, or the slot and the hour, that it is about
abbrev pub phase_at : ℕ
phase_at = 0

abbrev pub index_at : ℕ
index_at = 1

abbrev pub telling_at : ℕ
telling_at = 2

-- which machine it is
abbrev pub me_at : ℕ
me_at = 3

-- the reader: its stage, by number, with its hour and the next; how many readings are in the tables or told; the page set that the root record names; whether it
-- is paused; the root record's place; whether the tables have a reading
abbrev pub stage_at : ℕ
stage_at = 4

abbrev pub hour_at : ℕ
hour_at = 5

abbrev pub next_at : ℕ
next_at = 6

abbrev pub pos_at : ℕ
pos_at = 7

abbrev pub set_at : ℕ
set_at = 8

abbrev pub paused_at : ℕ
paused_at = 9

abbrev pub kept_at : ℕ
kept_at = 10

abbrev pub filled_at : ℕ
filled_at = 11

-- the cursor: every earlier hour is told, and of this hour what is in earlier slots
abbrev pub cursor_hour_at : ℕ
cursor_hour_at = 12

abbrev pub cursor_slot_at : ℕ
cursor_slot_at = 13

-- the mail, a cell for each machine: its last statement, by number, with its hour and the next; its last H; whether something is due to it; whether it is to be
-- told that this one woke
abbrev pub word_at : ℕ
word_at = 14

abbrev pub word_hour_at : ℕ
word_hour_at = 22

abbrev pub word_next_at : ℕ
word_next_at = 30

abbrev pub passed_at : ℕ
passed_at = 38

abbrev pub due_at : ℕ
due_at = 46

abbrev pub woke_at : ℕ
woke_at = 54

-- the tables of the hour at hand: the sums, then the counts, page by page
abbrev pub sums_at : ℕ
sums_at = 62

abbrev pub counts_at : ℕ
counts_at = 1086

-- the pages of the last statements: the sums, then the counts, machine by machine
abbrev pub word_sums_at : ℕ
word_sums_at = 2110

abbrev pub word_counts_at : ℕ
word_counts_at = 3134

abbrev pub cells : ℕ
cells = 4158

-- no next hour
abbrev pub no_next : ℕ
no_next = 18446744073709551615

-- numbers of the memory are below this
abbrev pub limit : ℕ
limit = 18446744073709551616

-- WHAT A CELL HAS
abbrev pub at : List ℕ → ℕ → ℕ
at m c = slice_index m c

-- so many numbers side by side
unfoldable pub row_in : List ℕ → (from count : ℕ) → List ℕ
row_in m a n = take n (drop a m)

-- a page's part of the tables, and that of a machine's statement
abbrev pub page_sums_in : List ℕ → (page : ℕ) → List ℕ
page_sums_in m p = row_in m (sums_at + slots * p) slots

abbrev pub page_counts_in : List ℕ → (page : ℕ) → List ℕ
page_counts_in m p = row_in m (counts_at + slots * p) slots

-- PHASES, by their numbers
abbrev pub asleep : ℕ
asleep = 0

abbrev pub asks_root : ℕ
asks_root = 1

abbrev pub asks_page : ℕ
asks_page = 2

abbrev pub asks_cursor : ℕ
asks_cursor = 3

abbrev pub placing : ℕ
placing = 4

abbrev pub placed : ℕ
placed = 5

abbrev pub ready : ℕ
ready = 6

abbrev pub noting : ℕ
noting = 7

abbrev pub saving : ℕ
saving = 8

-- STAGES of a reader, by their numbers: any other is that of one that has ended
abbrev pub begun : ℕ
begun = 0

abbrev pub whole : ℕ
whole = 1

abbrev pub ended : ℕ
ended = 2

-- STATEMENTS, by their numbers: any other is none
abbrev pub says_nothing : ℕ
says_nothing = 0

abbrev pub says_begun : ℕ
says_begun = 1

abbrev pub says_whole : ℕ
says_whole = 2

abbrev pub says_ended : ℕ
says_ended = 3
