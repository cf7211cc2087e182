-- The mail, by the memory's cells: a letter is sent, and one that comes is taken in. Assumes nothing: these are definitions.
use Rattle.std.specs.Prelude.{◌≡◌, ℕ, ◌+◌, ◌*◌, Bool, true, cond, List, length, Some, None, Ok, Err, Option, Result, ◌==◌, nat_lt, slice_set}
use Rattle.sums.specs.Cells.{slots}
use Rattle.sums.specs.Pages.{page_length, page_sums, page_counts, numbers_fit}
use Rattle.sums.specs.Written.{written}
use Rattle.protocol.specs.Limits.{crew}
use Rattle.gauge.specs.Memory.{at, no_next, says_begun, says_whole, says_ended, stage_at, hour_at, next_at, cursor_hour_at, word_at, word_hour_at, word_next_at, passed_at, due_at, woke_at, word_sums_at, word_counts_at, page_sums_in, page_counts_in}
use Rattle.gauge.specs.Views.{next_of, flag_in}
use Rattle.gauge.specs.Deeds.{sends, Done, does}
use Rattle.exchange.specs.Letters.{letter_bytes, head_of}
use Rattle.exchange.specs.declared.error.LetterError.{LetterError}
use Rattle.exchange.specs.declared.statement.Head.{Head}
use Rattle.exchange.specs.declared.statement.Statement.{Statement}
use Rattle.exchange.specs.declared.statement.Statement.TheVariants.{Begun, Whole, Ended}

-- SENT
abbrev pub said_of : (stage hour next : ℕ) → Statement
said_of n h x = cond (n == 0) (Begun h) (cond (n == 1) (Whole h (next_of x)) Ended)

-- what is said to machine j, but for the page
abbrev pub head_for : List ℕ → (j : ℕ) → Head
head_for m j = record { woke = flag_in m (woke_at + j); passed = at m cursor_hour_at; statement = said_of (at m stage_at) (at m hour_at) (at m next_at) }

abbrev pub letter_sent : List ℕ → (j : ℕ) → Done
letter_sent m j =
    does (slice_set (slice_set m (due_at + j) 0) (woke_at + j) 0) (sends j (letter_bytes (head_for m j) (page_sums_in m j) (page_counts_in m j)))

-- HEARD
abbrev pub next_number : Option ℕ → ℕ
next_number None = no_next
next_number (Some n) = n

abbrev pub with_page : List ℕ → (j : ℕ) → (page : List ℕ) → List ℕ
with_page m j bs = written (written m (word_sums_at + slots * j) (page_sums bs)) (word_counts_at + slots * j) (page_counts bs)

-- the bytes beside a statement are those of a page, where it has one
abbrev pub PageBeside : Statement → (page : List ℕ) → Type 0
PageBeside (Begun h) bs = Unit {0}
PageBeside (Whole h n) bs = length bs ≡ page_length
PageBeside Ended bs = Unit {0}

abbrev pub with_word : List ℕ → (j : ℕ) → Statement → (page : List ℕ) → List ℕ
with_word m j (Begun h) bs = slice_set (slice_set m (word_at + j) says_begun) (word_hour_at + j) h
with_word m j (Whole h n) bs =
    with_page (slice_set (slice_set (slice_set m (word_at + j) says_whole) (word_hour_at + j) h) (word_next_at + j) (next_number n)) j bs
with_word m j Ended bs = slice_set m (word_at + j) says_ended

-- what machine j said last, its H, and that something is due to it if it woke
abbrev pub with_head : List ℕ → (j : ℕ) → Head → (page : List ℕ) → List ℕ
with_head m j h bs =
    cond h.woke (slice_set (slice_set (with_word m j h.statement bs) (passed_at + j) h.passed) (due_at + j) 1)
    (slice_set (with_word m j h.statement bs) (passed_at + j) h.passed)

-- the numbers of a page that is read have room in their columns, as those of any bytes do
abbrev pub numbers_beside_fit : Statement → (page : List ℕ) → Bool
numbers_beside_fit (Begun h) bs = true
numbers_beside_fit (Whole h n) bs = numbers_fit bs
numbers_beside_fit Ended bs = true

abbrev pub with_letter_read : List ℕ → (j : ℕ) → Result (Head × List ℕ) LetterError → Option (List ℕ)
with_letter_read m j (Ok p) = cond (numbers_beside_fit p.0.statement p.1) (Some (with_head m j p.0 p.1)) None
with_letter_read m j (Err e) = None

-- the memory with a letter from machine j taken in; none where there is no such machine, or it is no letter
abbrev pub with_letter : List ℕ → (j : ℕ) → List ℕ → Option (List ℕ)
with_letter m j bs = cond (nat_lt j crew) (with_letter_read m j (head_of bs)) None
