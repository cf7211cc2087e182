-- A letter that is taken in writes small numbers, whatever its bytes are, and only cells of the mail.
use Rattle.std.proofs.Common.{◌≡◌, ℕ, zero, suc, ◌+◌, ◌*◌, ◌^◌, ◌<◌, ◌≤◌, Bool, true, false, cond, ltb, leb, List, [], ◌∷◌, ◌++◌, length, get_or, set, take, drop, Some, None, Ok, Err, Option, Result, refl, sym, ap, ◌∙◌, arith, lit<}
use Rattle.std.proofs.lemmas.Bool.{and_parts, cond_both, lt-ltb, ltb-true, leb-true}
use Rattle.std.proofs.lemmas.List.{length-set, get_or-set_other, get_or-take, length-take-le}
use Rattle.sums.specs.Cells.{slots}
use Rattle.sums.specs.Digits.{fits}
use Rattle.sums.specs.Pages.{page_sums, page_counts, sum_width, count_width}
use Rattle.sums.specs.Sums.{every}
use Rattle.sums.specs.Written.{written}
use Rattle.sums.proofs.Columns.{length_sums, length_counts}
use Rattle.sums.proofs.Everys.{every_weaker}
use Rattle.sums.proofs.Overwrites.{length_written}
use Rattle.protocol.specs.Limits.{crew}
use Rattle.gauge.specs.Answers.{Absorbed}
use Rattle.gauge.specs.Memory.{at, cells, limit, me_at, word_at, word_hour_at, word_next_at, passed_at, due_at, word_sums_at, word_counts_at, says_begun, says_whole, says_ended}
use Rattle.gauge.specs.declared.memory.Garbled.{Garbled}
use Rattle.exchange.specs.Kinds.{kind_in}
use Rattle.exchange.specs.Letters.{top, then, number_in, passed_in, hour_in, flag_in, statement_in, page_size, sized, head_of}
use Rattle.exchange.specs.Mail.{next_number, with_word, with_head, with_letter_read, with_letter, numbers_beside_fit}
use Rattle.exchange.specs.declared.error.LetterError.{LetterError}
use Rattle.exchange.specs.declared.error.LetterError.TheVariants.{TooShort, TooLong}
use Rattle.exchange.specs.declared.kind.Kind.{Kind}
use Rattle.exchange.specs.declared.kind.Kind.TheVariants as kind
use Rattle.exchange.specs.declared.statement.Head.{Head}
use Rattle.exchange.specs.declared.statement.Statement.{Statement}
use Rattle.exchange.specs.declared.statement.Statement.TheVariants.{Begun, Whole, Ended}

abbrev On : {A : Type 0} → (A → Type 0) → Result A LetterError → Type 0
On P (Ok a) = P a
On P (Err e) = Unit {0}

any : {A : Type 0} (r : Result A LetterError) → On (λ _. Unit {0}) r
any (Ok a) = tt
any (Err e) = tt

on_then : {A B : Type 0} (P : A → Type 0) (Q : B → Type 0) (r : Result A LetterError) (f : A → Result B LetterError) → On P r → ((a : A) → P a → On Q (f a)) → On Q (then r f)
on_then P Q (Ok a) f p step = step a p
on_then P Q (Err e) f p step = tt

abbrev SmallNext : Option ℕ → Type 0
SmallNext (Some n) = n < limit
SmallNext None = Unit {0}

abbrev SmallStatement : Statement → Type 0
SmallStatement (Begun h) = h < limit
SmallStatement (Whole h n) = (h < limit) × SmallNext n
SmallStatement Ended = Unit {0}

abbrev SmallHead : Head × List ℕ → Type 0
SmallHead p = (p.0.passed < limit) × SmallStatement p.0.statement

hour_small : (bs : List ℕ) → On (λ p. p.0 < limit) (hour_in bs)
hour_small bs =
    on_then (λ _. Unit {0}) (λ (p : ℕ × List ℕ). p.0 < limit) (number_in bs) _ (any (number_in bs))
    (λ p _. cond_both (ltb p.0 top) _ _ (On (λ (q : ℕ × List ℕ). q.0 < limit)) (λ e. let l = ltb-true _ _ e in omega arith) (λ _. tt))

passed_small : (bs : List ℕ) → On (λ p. p.0 < limit) (passed_in bs)
passed_small bs =
    on_then (λ _. Unit {0}) (λ (p : ℕ × List ℕ). p.0 < limit) (number_in bs) _ (any (number_in bs))
    (λ p _. cond_both (leb p.0 top) _ _ (On (λ (q : ℕ × List ℕ). q.0 < limit)) (λ e. let l = leb-true _ _ e in omega arith) (λ _. tt))

statement_small : (k : Kind) (bs : List ℕ) → On (λ q. SmallStatement q.0) (statement_in k bs)
statement_small kind.Begun bs = on_then _ (λ (q : Statement × List ℕ). SmallStatement q.0) (hour_in bs) _ (hour_small bs) (λ p lt. lt)
statement_small kind.Whole bs =
    on_then _ (λ (q : Statement × List ℕ). SmallStatement q.0) (hour_in bs) _ (hour_small bs)
    (λ p lt. on_then _ (λ (q : Statement × List ℕ). SmallStatement q.0) (hour_in p.1) _ (hour_small p.1) (λ q lt'. (lt, lt')))
statement_small kind.Last bs = on_then _ (λ (q : Statement × List ℕ). SmallStatement q.0) (hour_in bs) _ (hour_small bs) (λ p lt. (lt, tt))
statement_small kind.Ended bs = tt

sized_small : (n : ℕ) (bs : List ℕ) (a : Head × List ℕ) → SmallHead a → On SmallHead (sized n bs a)
sized_small n bs a small =
    cond_both (ltb (length bs) n) (Err TooShort) (cond (ltb n (length bs)) (Err TooLong) (Ok a)) (On SmallHead) (λ _. tt)
    (λ _. cond_both (ltb n (length bs)) (Err TooLong) (Ok a) (On SmallHead) (λ _. tt) (λ _. small))

head_small : (bs : List ℕ) → On SmallHead (head_of bs)
unfolding head_of
head_small bs =
    cond_both (ltb (length bs) 2) _ _ (On SmallHead) (λ _. tt)
    (λ _. on_then (λ _. Unit {0}) SmallHead (kind_in (get_or bs 0 0)) _ (any (kind_in (get_or bs 0 0)))
    (λ k _. on_then (λ _. Unit {0}) SmallHead (flag_in (get_or bs 1 0)) _ (any (flag_in (get_or bs 1 0)))
    (λ w _. on_then _ SmallHead (passed_in (drop 2 bs)) _ (passed_small (drop 2 bs))
    (λ p lt. on_then _ SmallHead (statement_in k p.1) _ (statement_small k p.1)
    (λ q s.
    let small : SmallHead (record { woke = w; passed = p.0; statement = q.0 }, q.1) = (lt, s) in
    sized_small (page_size q.0) q.1 _ small)))))

next_small : (n : Option ℕ) → SmallNext n → next_number n < limit
next_small (Some n) lt = lt
next_small None lt = lit< tt

abbrev pub OnSome : (List ℕ → Type 0) → Option (List ℕ) → Type 0
OnSome P (Some x) = P x
OnSome P None = Unit {0}

-- So what such writes keep, a letter that is taken in keeps.
module _ (P : List ℕ → Type 0) (sets : (x : List ℕ) (i n : ℕ) → word_at ≤ i → n < limit → P x → P (set x i n))
    (rows : (x : List ℕ) (i : ℕ) (ys : List ℕ) → word_sums_at ≤ i → i + slots ≤ cells → length ys ≡ slots → every (λ n. ltb n limit) ys ≡ true → P x → P (written x i ys))
    (m : List ℕ) (start : P m) (j : ℕ) where
  word_keeps : j < crew → (s : Statement) (bs : List ℕ) → SmallStatement s → numbers_beside_fit s bs ≡ true → P (with_word m j s bs)
  word_keeps lt (Begun h) bs small fit = sets _ (word_hour_at + j) h (omega arith) small (sets m (word_at + j) says_begun (omega arith) (lit< tt) start)
  word_keeps lt (Whole h n) bs small fit =
      let numbers = and_parts (every (fits sum_width) (page_sums bs)) (every (fits count_width) (page_counts bs)) fit in
      let counts : every (λ n. ltb n limit) (page_counts bs) ≡ true =
      every_weaker (fits count_width) (λ n. ltb n limit) (λ n f. let l : n < 4294967296 = ltb-true n (256 ^ count_width) f in lt-ltb n limit (omega arith)) (page_counts bs)
      numbers.1 in
      rows _ (word_counts_at + slots * j) (page_counts bs) (omega arith) (omega arith) (length_counts bs) counts
      (rows _ (word_sums_at + slots * j) (page_sums bs) (omega arith) (omega arith) (length_sums bs) numbers.0
      (sets _ (word_next_at + j) (next_number n) (omega arith) (next_small n small.1)
      (sets _ (word_hour_at + j) h (omega arith) small.0 (sets m (word_at + j) says_whole (omega arith) (lit< tt) start))))
  word_keeps lt Ended bs small fit = sets m (word_at + j) says_ended (omega arith) (lit< tt) start

  head_keeps : j < crew → (h : Head) (bs : List ℕ) → SmallHead (h, bs) → numbers_beside_fit h.statement bs ≡ true → P (with_head m j h bs)
  head_keeps lt h bs small fit =
      let passed = sets _ (passed_at + j) h.passed (omega arith) small.0 (word_keeps lt h.statement bs small.1 fit) in
      cond_both h.woke _ _ P (λ _. sets _ (due_at + j) 1 (omega arith) (lit< tt) passed) (λ _. passed)

  read_keeps : j < crew → (r : Result (Head × List ℕ) LetterError) → On SmallHead r → OnSome P (with_letter_read m j r)
  read_keeps lt (Ok p) small = cond_both (numbers_beside_fit p.0.statement p.1) _ _ (OnSome P) (λ fit. head_keeps lt p.0 p.1 small fit) (λ _. tt)
  read_keeps lt (Err e) small = tt

  pub letter_keeps : (bs : List ℕ) → OnSome P (with_letter m j bs)
  letter_keeps bs = cond_both (ltb j crew) _ _ (OnSome P) (λ e. read_keeps (ltb-true _ _ e) (head_of bs) (head_small bs)) (λ _. tt)

-- The machine is the same.
get_front : (x ys : List ℕ) (c : ℕ) → c < length x → get_or (x ++ ys) c 0 ≡ get_or x c 0
get_front [] ys c lt = absurd (omega arith)
get_front (a ∷ x) ys zero lt = refl
get_front (a ∷ x) ys (suc c) lt = get_front x ys c (omega arith)

abbrev SameMe : (m x : List ℕ) → Type 0
SameMe m x = (length x ≡ cells) × (at x me_at ≡ at m me_at)

me_set : (m x : List ℕ) (i n : ℕ) → word_at ≤ i → n < limit → SameMe m x → SameMe m (set x i n)
me_set m x i n le lt s = (length-set x i n ∙ s.0, get_or-set_other x i me_at n 0 (omega arith) ∙ s.1)

me_written : (m x : List ℕ) (i : ℕ) (ys : List ℕ) → word_sums_at ≤ i → i + slots ≤ cells → length ys ≡ slots → every (λ n. ltb n limit) ys ≡ true → SameMe m x → SameMe m (written x i ys)
me_written m x i ys le fits long small s = (
  length_written x i ys (omega (arith, s.0, long)) ∙ s.0,
  get_front (take i x) (ys ++ drop (i + length ys) x) me_at (omega (arith, length-take-le i x (omega (arith, s.0)))) ∙ get_or-take i x me_at 0 (omega arith) ∙ s.1,
)

pub me_stays : (m m₁ : List ℕ) (j : ℕ) (bs : List ℕ) (u : Unit {0}) → length m ≡ cells → Absorbed (with_letter m j bs) m (Ok u) m₁ → at m₁ me_at ≡ at m me_at
me_stays m m₁ j bs u len did = go (with_letter m j bs) (letter_keeps (SameMe m) (me_set m) (me_written m) m (len, refl) j bs) did
  where
    go : (o : Option (List ℕ)) → OnSome (SameMe m) o → Absorbed o m (Ok u) m₁ → at m₁ me_at ≡ at m me_at
    go (Some n) s a = ap (λ l. at l me_at) a.1 ∙ s.1
    go None s a = absurd (let no = a.1 in cc)
