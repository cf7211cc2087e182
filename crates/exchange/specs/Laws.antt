-- What a letter's bytes and what it says have to do with each other. Assumes nothing: these are definitions.
use Rattle.std.specs.Prelude.{◌≡◌, ℕ, ◌<◌, ◌≤◌, true, List, length, Some, None, Ok, Option, nat_lt}
use Rattle.sums.specs.Cells.{slots}
use Rattle.sums.specs.Digits.{fits}
use Rattle.sums.specs.Pages.{sum_width, count_width, page_sums, page_counts, numbers_fit}
use Rattle.sums.specs.Sums.{every}
use Rattle.exchange.specs.Letters.{top, beside, letter_bytes, head_of, said, sums_left, counts_left}
use Rattle.exchange.specs.declared.statement.Head.{Head}
use Rattle.exchange.specs.declared.statement.Statement.{Statement}
use Rattle.exchange.specs.declared.statement.Statement.TheVariants.{Begun, Whole, Ended}

abbrev pub NextFits : Option ℕ → Type 0
NextFits None = Unit {0}
NextFits (Some n) = n < top

abbrev pub StatementFits : Statement → Type 0
StatementFits (Begun h) = h < top
StatementFits (Whole h n) = (h < top) × NextFits n
StatementFits Ended = Unit {0}

pub record HeadFits (h : Head) : Type 0 where
  pub passed : h.passed ≤ top
  pub statement : StatementFits h.statement

-- a page's rows: a number for each slot, and each fits its column
pub record RowsFit (ss cs : List ℕ) : Type 0 where
  pub sums_length : length ss ≡ slots
  pub counts_length : length cs ≡ slots
  pub sums : every (fits sum_width) ss ≡ true
  pub counts : every (fits count_width) cs ≡ true

abbrev pub AllBytes : List ℕ → Type 0
AllBytes bs = every (λ b. nat_lt b 256) bs ≡ true

-- A letter is of bytes, at most 4,096 of them; and what is read of it is just what was written, the rows of a whole hour among it.
unfoldable pub LetterRoundTrip : Type 0
LetterRoundTrip =
    (h : Head) (ss cs : List ℕ) → HeadFits h → RowsFit ss cs →
    (length (letter_bytes h ss cs) ≤ 4096)
    × AllBytes (letter_bytes h ss cs)
    × (said (head_of (letter_bytes h ss cs)) ≡ Ok h)
    × ((os oc : List ℕ) → (sums_left (head_of (letter_bytes h ss cs)) os ≡ beside h.statement ss os) × (counts_left (head_of (letter_bytes h ss cs)) oc ≡ beside h.statement cs oc))

-- Whatever is read as a letter is spelled just as it would be written, and its numbers fit.
unfoldable pub ReadAsSpelled : Type 0
ReadAsSpelled =
    (bs page : List ℕ) (h : Head) → AllBytes bs → head_of bs ≡ Ok (h, page) →
    HeadFits h × (letter_bytes h (page_sums page) (page_counts page) ≡ bs) × (numbers_fit page ≡ true)
