-- Parts of a memory that are left as they are: the reader's tables and the mail; and memories that are the same part by part.
use Rattle.std.proofs.Common.{◌≡◌, ℕ, ◌+◌, ◌*◌, ◌<◌, ◌≤◌, Bool, true, false, cond, not, eqb, List, refl, sym, ap, ap₂, subst, arith}
use Rattle.sums.specs.Cells.{slots}
use Rattle.protocol.specs.Limits.{crew}
use Rattle.protocol.specs.Memory.{Cursor, Mail, Memory}
use Rattle.protocol.specs.Reader.{Stage, begun, whole, ended, PageSet}
use Rattle.protocol.specs.Statements.{nothing, has_begun, is_whole, has_ended}
use Rattle.protocol.specs.Tables.{Page, Tables, blank}
use Rattle.protocol_bridge.specs.Same.{SamePage, SameFrom, SameOpen, SameWord, same_nothing, same_begun, same_whole, same_ended, SameMail, reader_with, SameMemory, same_memory}
use Rattle.gauge.specs.Memory.{at, cells, hour_at, word_at, word_hour_at, word_next_at, passed_at, due_at, woke_at, sums_at, counts_at, word_sums_at, word_counts_at}
use Rattle.gauge.specs.Views.{page_in, table_in, tables_in, next_of, word_of, word_in, mail_in}

-- from cell a on, up to cell b, nothing has changed
abbrev pub Kept : (a b : ℕ) → (m n : List ℕ) → Type 0
Kept a b m n = (c : ℕ) → a ≤ c → c < b → at n c ≡ at m c

pub page_kept : (m n : List ℕ) (a b : ℕ) → Kept a (a + slots) m n → Kept b (b + slots) m n → SamePage (page_in m a b) (page_in n a b)
page_kept m n a b ka kb = record {
  entries = λ s ls. ap₂ (λ x y. record { sum = x; count = y }) (sym (ka (a + s) (omega arith) (omega arith))) (sym (kb (b + s) (omega arith) (omega arith)));
}

pub word_same : (t h x : ℕ) (p q : Page) → SamePage p q → SameWord (word_of t h x p) (word_of t h x q)
word_same t h x p q e = on (eqb t 1) (eqb t 2) (eqb t 3)
  where
    on : (a b c : Bool) → SameWord (cond a (has_begun h) (cond b (is_whole h (next_of x) p) (cond c has_ended nothing)))
        (cond a (has_begun h) (cond b (is_whole h (next_of x) q) (cond c has_ended nothing)))
    on true b c = same_begun h
    on false true c = same_whole h (next_of x) p q e
    on false false true = same_ended
    on false false false = same_nothing

-- the word of a machine whose cells and page are as they were
pub word_kept : (m n : List ℕ) (i : ℕ) → i < crew → Kept word_at passed_at m n → Kept word_sums_at cells m n → SameWord (word_in m i) (word_in n i)
word_kept m n i lt kw kp =
    let t = kw (word_at + i) (omega arith) (omega arith) in
    let h = kw (word_hour_at + i) (omega arith) (omega arith) in
    let x = kw (word_next_at + i) (omega arith) (omega arith) in
    let page = page_kept m n (word_sums_at + slots * i) (word_counts_at + slots * i) (λ c le l. kp c (omega arith) (omega arith)) (λ c le l. kp c (omega arith) (omega arith)) in
    let same = word_same (at m (word_at + i)) (at m (word_hour_at + i)) (at m (word_next_at + i)) _ _ page in
    subst (λ v. SameWord (word_in m i) (word_of v (at n (word_hour_at + i)) (at n (word_next_at + i)) (page_in n (word_sums_at + slots * i) (word_counts_at + slots * i)))) (sym t)
    (subst (λ v. SameWord (word_in m i) (word_of (at m (word_at + i)) v (at n (word_next_at + i)) (page_in n (word_sums_at + slots * i) (word_counts_at + slots * i)))) (sym h)
    (subst (λ v. SameWord (word_in m i) (word_of (at m (word_at + i)) (at m (word_hour_at + i)) v (page_in n (word_sums_at + slots * i) (word_counts_at + slots * i)))) (sym x) same))

pub mail_kept : (m n : List ℕ) → Kept word_at sums_at m n → Kept word_sums_at cells m n → SameMail (mail_in m) (mail_in n)
mail_kept m n kw kp = record {
  word = λ j lj. word_kept m n j lj (λ c le l. kw c le (omega arith)) kp;
  passed = λ j lj. sym (kw (passed_at + j) (omega arith) (omega arith));
  due = λ j lj. ap (λ v. not (eqb v 0)) (sym (kw (due_at + j) (omega arith) (omega arith)));
  woke = λ j lj. ap (λ v. not (eqb v 0)) (sym (kw (woke_at + j) (omega arith) (omega arith)));
}

pub tables_kept : (m n : List ℕ) → at n hour_at ≡ at m hour_at → Kept sums_at word_sums_at m n → (lo : ℕ) → SameFrom lo (tables_in m) (tables_in n)
tables_kept m n e kt lo h j le lj =
    subst (λ f. SamePage ((tables_in m h).page j) ((cond (eqb h f) (table_in n) blank).page j)) (sym e) (on (eqb h (at m hour_at)))
  where
    on : (b : Bool) → SamePage ((cond b (table_in m) blank).page j) ((cond b (table_in n) blank).page j)
    on true = page_kept m n (sums_at + slots * j) (counts_at + slots * j) (λ c le l. kt c (omega arith) (omega arith)) (λ c le l. kt c (omega arith) (omega arith))
    on false = record { entries = λ s ls. refl }

-- from hour lo on, for each stage
pub open_of : (s : Stage) (t u : ℕ → Tables) → ((lo : ℕ) → SameFrom lo t u) → SameOpen s t u
open_of (begun f) t u e = e f
open_of (whole c nx) t u e = e c
open_of ended t u e = tt

-- memories that are the same part by part
abbrev pub memory_by : (me : ℕ) → Stage → ℕ → (ℕ → Tables) → PageSet → Bool → (kept base : ℕ) → Cursor → Mail → Memory
memory_by me s p t w pa k o cu m = record { me = me; reader = reader_with s p t w pa k o; cursor = cu; mail = m }

pub same_by : (b c : Memory) → b.me < crew → b.me ≡ c.me → b.reader.stage ≡ c.reader.stage → b.reader.pos ≡ c.reader.pos → b.reader.set ≡ c.reader.set →
    b.reader.paused ≡ c.reader.paused → b.reader.kept ≡ c.reader.kept → b.cursor ≡ c.cursor → SameOpen b.reader.stage b.reader.tables c.reader.tables →
    SameMail b.mail c.mail → SameMemory b c
same_by b c lt e₁ e₂ e₃ e₄ e₅ e₆ e₇ tables mail =
    let r = c.reader in
    subst (λ v. SameMemory b (memory_by v r.stage r.pos r.tables r.set r.paused r.kept r.base c.cursor c.mail)) e₁
    (subst (λ v. SameMemory b (memory_by b.me v r.pos r.tables r.set r.paused r.kept r.base c.cursor c.mail)) e₂
    (subst (λ v. SameMemory b (memory_by b.me b.reader.stage v r.tables r.set r.paused r.kept r.base c.cursor c.mail)) e₃
    (subst (λ v. SameMemory b (memory_by b.me b.reader.stage b.reader.pos r.tables v r.paused r.kept r.base c.cursor c.mail)) e₄
    (subst (λ v. SameMemory b (memory_by b.me b.reader.stage b.reader.pos r.tables b.reader.set v r.kept r.base c.cursor c.mail)) e₅
    (subst (λ v. SameMemory b (memory_by b.me b.reader.stage b.reader.pos r.tables b.reader.set b.reader.paused v r.base c.cursor c.mail)) e₆
    (subst (λ v. SameMemory b (memory_by b.me b.reader.stage b.reader.pos r.tables b.reader.set b.reader.paused b.reader.kept r.base v c.mail)) e₇
    (same_memory b.me b.reader.stage b.reader.pos b.reader.tables r.tables b.reader.set b.reader.paused b.reader.kept b.reader.base r.base b.cursor b.mail c.mail lt tables mail)))))))
