use Rattle.std.proofs.Common.{◌≡◌, ℕ, ◌+◌, ◌*◌, ◌<◌, true, List, ◌++◌, length, drop, is_ok, length-drop, refl, sym, ap, ◌∙◌, arith}
use borrow.Rule.Slice.PartMut.{mid_of, put_mid}
use Rattle.std.proofs.lemmas.Bool.{eq-eqb, and_from}
use Rattle.std.proofs.lemmas.List.{length-take-le}
use Rattle.sums.specs.Cells.{places, pages, slots}
use Rattle.sums.specs.Pages.{page_length, page_sums, page_counts, decode_answer, sums_read, counts_read, rows_fit}
use Rattle.sums.specs.Written.{written}
use Rattle.sums.proofs.Columns.{length_sums, length_counts}
use Rattle.sums.proofs.Overwrites.{put_mid_written, length_written, written_left, written_right}
use Rattle.gauge.specs.Memory.{word_sums_at, word_counts_at}
use Rattle.exchange.specs.Mail.{with_page}
use Rattle.exchange.proofs.mail.take_page.Goals as goal

-- The memory m split into f and b, and joined again once a page is read into the parts ss and cs of them, which are ss' and cs' then.
module _ (m f b bs ss cs ss' cs' : List ℕ) (p k l : ℕ) (lt : p < pages) (em : m ≡ f ++ b) (ef : length f ≡ word_counts_at) (eb : length b ≡ places)
    (ek : k ≡ slots) (el : l ≡ slots) (es : ss ≡ mid_of (word_sums_at + slots * p) k f) (ec : cs ≡ mid_of (slots * p) l b)
    (es' : ss' ≡ sums_read bs ss cs) (ec' : cs' ≡ counts_read bs ss cs) (long : length bs ≡ page_length) where
  rows : rows_fit ss cs ≡ true
  rows =
      let s : length ss ≡ slots = ap length es ∙ length-take-le k (drop (word_sums_at + slots * p) f) (simp length-drop (omega arith)) ∙ ek in
      let c : length cs ≡ slots = ap length ec ∙ length-take-le l (drop (slots * p) b) (simp length-drop (omega arith)) ∙ el in
      and_from _ _ (eq-eqb (length ss) slots s) (eq-eqb (length cs) slots c)

  pub joined : put_mid (word_sums_at + slots * p) k f ss' ++ put_mid (slots * p) l b cs' ≡ with_page m p bs
  joined =
      let whole = eq-eqb (length bs) page_length long in
      let done : is_ok (decode_answer bs ss cs) ≡ true = simp (rows, whole) refl in
      let sums : ss' ≡ page_sums bs = es' ∙ simp done refl in
      let counts : cs' ≡ page_counts bs = ec' ∙ simp done refl in
      let s = put_mid_written f (word_sums_at + slots * p) k (page_sums bs) (length_sums bs ∙ sym ek) in
      let t = put_mid_written b (slots * p) l (page_counts bs) (length_counts bs ∙ sym el) in
      let short = length_written f (word_sums_at + slots * p) (page_sums bs) (omega (arith, length_sums bs)) in
      let left = written_left f b (word_sums_at + slots * p) (page_sums bs) (omega (arith, length_sums bs)) in
      let right = written_right (written f (word_sums_at + slots * p) (page_sums bs)) b (word_counts_at + slots * p) (slots * p) (page_counts bs) (omega arith) in
      cc

pub returns-clause-memory : goal.returns-clause-memory
returns-clause-memory c =
    let apart = c.split_at_mut-front.ensures in
    let page = c.decode_page.ensures in
    joined c.args.memory.now _ _ c.args.page.now _ _ _ _ c.args.from _ _ c.requires.from apart.value apart.front_len (omega arith) (omega arith) (omega arith) refl refl
    page.sums page.counts c.requires.page

pub returns-clause-fits : goal.returns-clause-fits
returns-clause-fits c = rw c.unwrap.ensures at c.decode_page.ensures.small
