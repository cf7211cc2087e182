use Rattle.std.proofs.Common.{◌≡◌, ℕ, ◌+◌, ◌*◌, ◌<◌, ◌≤◌, true, false, eqb, List, ◌++◌, length, drop, is_ok, Ok, Err, Result, OnOk, if◌then◌else◌, cond, length-drop, refl, sym, ap, ◌∙◌, ⊎_elim, arith}
use borrow.Rule.Slice.PartMut.{mid_of, put_mid, put_same}
use Rattle.std.proofs.lemmas.Bool.{eq-eqb, and_from, cases_Bool}
use Rattle.std.proofs.lemmas.List.{length-take-le}
use Rattle.sums.specs.Cells.{places, pages, slots}
use Rattle.sums.specs.Pages.{page_length, page_sums, page_counts, decode_answer, sums_read, counts_read, numbers_fit, rows_fit}
use Rattle.sums.specs.Written.{written}
use Rattle.sums.specs.declared.pages.PageError.{PageError}
use Rattle.sums.specs.declared.pages.PageError.TheVariants.{ByteLength}
use Rattle.sums.proofs.Columns.{decoded_length, length_sums, length_counts}
use Rattle.sums.proofs.Overwrites.{put_mid_written, length_written, written_left, written_right}
use Rattle.gauge.specs.Memory.{sums_at, counts_at}
use Rattle.machine.specs.Boot.{page_fits, page_read}
use Rattle.machine.proofs.boot.read_page.Goals as goal

-- The memory m split into f and b, and joined again once a page is read into the parts ss and cs of them, which are ss' and cs' then, or is refused.
module _ (m f b bs ss cs ss' cs' : List ℕ) (p k l : ℕ) (lt : p < pages) (em : m ≡ f ++ b) (ef : length f ≡ counts_at) (eb : places ≤ length b)
    (ek : k ≡ slots) (el : l ≡ slots) (es : ss ≡ mid_of (sums_at + slots * p) k f) (ec : cs ≡ mid_of (slots * p) l b)
    (es' : ss' ≡ sums_read bs ss cs) (ec' : cs' ≡ counts_read bs ss cs) where
  rows : rows_fit ss cs ≡ true
  rows =
      let s : length ss ≡ slots = ap length es ∙ length-take-le k (drop (sums_at + slots * p) f) (simp length-drop (omega arith)) ∙ ek in
      let c : length cs ≡ slots = ap length ec ∙ length-take-le l (drop (slots * p) b) (simp length-drop (omega arith)) ∙ el in
      and_from _ _ (eq-eqb (length ss) slots s) (eq-eqb (length cs) slots c)

  joined : (r : Result (Unit {0}) PageError) → r ≡ decode_answer bs ss cs → OnOk r (numbers_fit bs ≡ true) →
      put_mid (sums_at + slots * p) k f ss' ++ put_mid (slots * p) l b cs' ≡ if page_fits bs then page_read m p bs else m
  joined (Ok u) told small =
      let done : is_ok (decode_answer bs ss cs) ≡ true = ap is_ok (sym told) in
      let whole = eq-eqb (length bs) page_length (decoded_length bs ss cs done) in
      let fits : page_fits bs ≡ true = and_from _ _ whole small in
      let sums : ss' ≡ page_sums bs = es' ∙ simp done in
      let counts : cs' ≡ page_counts bs = ec' ∙ simp done in
      let s = put_mid_written f (sums_at + slots * p) k (page_sums bs) (length_sums bs ∙ sym ek) in
      let t = put_mid_written b (slots * p) l (page_counts bs) (length_counts bs ∙ sym el) in
      let long = length_written f (sums_at + slots * p) (page_sums bs) (omega (arith, length_sums bs)) in
      let left = written_left f b (sums_at + slots * p) (page_sums bs) (omega (arith, length_sums bs)) in
      let right = written_right (written f (sums_at + slots * p) (page_sums bs)) b (counts_at + slots * p) (slots * p) (page_counts bs) (omega arith) in
      simp fits cc
  joined (Err e) told small =
      let refused : is_ok (decode_answer bs ss cs) ≡ false = ap is_ok (sym told) in
      let answer : Err e ≡ cond (eqb (length bs) page_length) (Ok tt) (Err ByteLength) = simp rows at told in
      let short : eqb (length bs) page_length ≡ false = ⊎_elim (λ (t : eqb (length bs) page_length ≡ true). absurd (let no = simp t at answer in cc)) (λ t. t) (cases_Bool (eqb (length bs) page_length)) in
      let sums : ss' ≡ ss = es' ∙ simp refused in
      let counts : cs' ≡ cs = ec' ∙ simp refused in
      let s = put_same (sums_at + slots * p) k f in
      let t = put_same (slots * p) l b in
      simp short cc

pub returns-clause-read : goal.returns-clause-read
returns-clause-read c =
    let apart = c.split_at_mut-front.ensures in
    let page = c.decode_page.ensures in
    joined c.args.memory.now _ _ c.args.bytes.now _ _ _ _ c.args.page _ _ c.requires apart.value apart.front_len (omega arith) (omega arith) (omega arith) refl refl
    page.sums page.counts c.decode_page.result page.told page.small
