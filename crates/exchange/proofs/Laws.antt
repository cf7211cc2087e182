-- The laws of letters: what is written is read, and what is read was written so.
use Rattle.std.proofs.Common.{◌≡◌, ℕ, ◌<◌, ◌≤◌, Bool, true, false, List, [], ◌++◌, length, Some, None, Ok, sym, refl, ap, ◌∙◌, arith, lit<, length-append}
use Rattle.std.proofs.lemmas.Bool.{and_from, lt-ltb}
use Rattle.std.proofs.lemmas.List.{nil_from_length}
use Rattle.std.proofs.lemmas.Result.{IfOk-at_ok}
use Rattle.sums.specs.Digits.{widest}
use Rattle.sums.specs.Pages.{page_length, page_bytes, page_sums, page_counts}
use Rattle.sums.specs.Sums.{every}
use Rattle.sums.proofs.Columns.{length_page, page_all_bytes, sums_back, counts_back}
use Rattle.sums.proofs.Digits.{row_all_bytes}
use Rattle.sums.proofs.Everys.{every_append}
use Rattle.exchange.specs.Kinds.{kind_of, kind_number}
use Rattle.exchange.specs.Laws.{HeadFits, RowsFit, AllBytes, LetterRoundTrip, ReadAsSpelled}
use Rattle.exchange.specs.Letters.{flag, head_numbers, head_bytes, beside, letter_bytes, page_size, head_of, said, sums_left, counts_left}
use Rattle.exchange.specs.declared.statement.Head.{Head}
use Rattle.exchange.specs.declared.statement.Statement.{Statement}
use Rattle.exchange.specs.declared.statement.Statement.TheVariants.{Begun, Whole, Ended}
use Rattle.exchange.proofs.Reading.{Said, head_back, head_if}
use Rattle.exchange.proofs.Spelling.{Low, low_bytes, spelled_page, page_numbers_fit}
use Rattle.exchange.proofs.Writing.{head_within}

kind_byte : (s : Statement) → kind_number (kind_of s) < 256
kind_byte (Begun h) = lit< tt
kind_byte (Whole h (Some n)) = lit< tt
kind_byte (Whole h None) = lit< tt
kind_byte Ended = lit< tt

flag_byte : (b : Bool) → flag b < 256
flag_byte true = lit< tt
flag_byte false = lit< tt

head_all_bytes : (h : Head) → AllBytes (head_bytes h)
unfolding head_bytes every
head_all_bytes h = and_from _ _ (lt-ltb _ _ (kind_byte h.statement)) (and_from _ _ (lt-ltb _ _ (flag_byte h.woke)) (row_all_bytes widest (head_numbers h)))

module _ (ss cs : List ℕ) (fits : RowsFit ss cs) where
  page : Statement → List ℕ
  page s = beside s (page_bytes ss cs) []

  length_beside : (s : Statement) → length (page s) ≡ page_size s
  unfolding page
  length_beside (Begun h) = refl
  length_beside (Whole h n) = length_page ss cs fits.sums_length fits.counts_length
  length_beside Ended = refl

  page_within : (s : Statement) → page_size s ≤ page_length
  page_within (Begun h) = omega arith
  page_within (Whole h n) = omega arith
  page_within Ended = omega arith

  bytes_beside : (s : Statement) → AllBytes (page s)
  unfolding page every
  bytes_beside (Begun h) = refl
  bytes_beside (Whole h n) = page_all_bytes ss cs
  bytes_beside Ended = refl

  -- what a row holds once the letter's page is read
  sums_beside : (s : Statement) (os : List ℕ) → beside s (page_sums (page s)) os ≡ beside s ss os
  unfolding page
  sums_beside (Begun h) os = refl
  sums_beside (Whole h n) os = sums_back ss cs fits.sums_length fits.sums
  sums_beside Ended os = refl

  counts_beside : (s : Statement) (oc : List ℕ) → beside s (page_counts (page s)) oc ≡ beside s cs oc
  unfolding page
  counts_beside (Begun h) oc = refl
  counts_beside (Whole h n) oc = counts_back ss cs fits.sums_length fits.counts_length fits.counts
  counts_beside Ended oc = refl

  letter_back : (h : Head) → HeadFits h → head_of (letter_bytes h ss cs) ≡ Ok (h, page h.statement)
  unfolding letter_bytes page
  letter_back h small = head_back h (page h.statement) small (length_beside h.statement)

  letter_within : (h : Head) → length (letter_bytes h ss cs) ≤ 4096
  unfolding letter_bytes page
  letter_within h = rw length-append (omega (arith, head_within h, length_beside h.statement, page_within h.statement))

  letter_all_bytes : (h : Head) → AllBytes (letter_bytes h ss cs)
  unfolding letter_bytes page
  letter_all_bytes h = every_append _ (head_bytes h) (page h.statement) (head_all_bytes h) (bytes_beside h.statement)

pub letter_round_trip : LetterRoundTrip
unfolding LetterRoundTrip
letter_round_trip h ss cs small fits =
    let back = letter_back ss cs fits h small in (
      letter_within ss cs fits h,
      letter_all_bytes ss cs fits h,
      ap said back,
      λ os oc. (ap (λ r. sums_left r os) back ∙ sums_beside ss cs fits h.statement os, ap (λ r. counts_left r oc) back ∙ counts_beside ss cs fits h.statement oc),
    )

-- a page that was read is spelled as it is written
page_spelled : (s : Statement) (page : List ℕ) → Low page → length page ≡ page_size s → beside s (page_bytes (page_sums page) (page_counts page)) [] ≡ page
page_spelled (Begun h) page low len = sym (nil_from_length page len)
page_spelled (Whole h n) page low len = spelled_page page low len
page_spelled Ended page low len = sym (nil_from_length page len)

pub read_as_spelled : ReadAsSpelled
unfolding ReadAsSpelled letter_bytes
read_as_spelled bs page h all e =
    let s : Said bs h page = IfOk-at_ok (λ q. Said bs q.0 q.1) e (head_if bs (low_bytes bs all)) in
    (s.fits, ap (λ zs. head_bytes h ++ zs) (page_spelled h.statement page s.low s.size) ∙ sym s.bytes, page_numbers_fit page s.low)
