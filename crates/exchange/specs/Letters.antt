-- Letters as bytes, and what bytes say as a letter. Assumes nothing: these are definitions.
use Rattle.std.specs.Prelude.{ℕ, ◌+◌, ◌*◌, Bool, true, false, cond, List, [], ◌∷◌, ◌++◌, length, take, drop, Some, None, Ok, Err, Result, ◌==◌, nat_le, nat_lt, slice_index}
use Rattle.sums.specs.Digits.{widest, value, row_bytes}
use Rattle.sums.specs.Pages.{page_length, page_bytes, page_sums, page_counts}
use Rattle.exchange.specs.Kinds.{kind_of, kind_number, kind_in}
use Rattle.exchange.specs.declared.error.LetterError.{LetterError}
use Rattle.exchange.specs.declared.error.LetterError.TheVariants.{TooShort, TooLong, UnknownFlag, PassedTooLarge, HourTooLarge}
use Rattle.exchange.specs.declared.kind.Kind.{Kind}
use Rattle.exchange.specs.declared.kind.Kind.TheVariants as kind
use Rattle.exchange.specs.declared.statement.Head.{Head}
use Rattle.exchange.specs.declared.statement.Statement.{Statement}
use Rattle.exchange.specs.declared.statement.Statement.TheVariants.{Begun, Whole, Ended}

-- hours are below it
abbrev pub top : ℕ
top = 4611686018427387904

-- WRITTEN: the kind, whether the sender woke, and the numbers; behind them the page of a whole hour
abbrev pub flag : Bool → ℕ
flag b = cond b 1 0

abbrev pub numbers_of : Statement → List ℕ
numbers_of (Begun h) = h ∷ []
numbers_of (Whole h (Some n)) = h ∷ n ∷ []
numbers_of (Whole h None) = h ∷ []
numbers_of Ended = []

-- kind and flag
abbrev pub marks : ℕ
marks = 2

abbrev pub head_numbers : Head → List ℕ
head_numbers h = h.passed ∷ numbers_of h.statement

unfoldable pub head_bytes : Head → List ℕ
head_bytes h = kind_number (kind_of h.statement) ∷ flag h.woke ∷ row_bytes widest (head_numbers h)

-- the head with the most numbers, and the letter with the most bytes
abbrev pub longest_head : ℕ
longest_head = marks + widest * 3

abbrev pub longest : ℕ
longest = longest_head + page_length

-- what there is beside a whole hour, and beside anything else
abbrev pub beside : {A : Type 0} → Statement → (whole other : A) → A
beside (Begun h) a b = b
beside (Whole h n) a b = a
beside Ended a b = b

unfoldable pub letter_bytes : Head → (sums counts : List ℕ) → List ℕ
letter_bytes h ss cs = head_bytes h ++ beside h.statement (page_bytes ss cs) []

-- READ: what is said, and the bytes behind it, or why it is no letter
abbrev pub then : {A B : Type 0} → Result A LetterError → (A → Result B LetterError) → Result B LetterError
then (Ok a) f = f a
then (Err e) f = Err e

abbrev pub flag_in : (byte : ℕ) → Result Bool LetterError
flag_in b = cond (b == 0) (Ok false) (cond (b == 1) (Ok true) (Err UnknownFlag))

unfoldable pub number_in : List ℕ → Result (ℕ × List ℕ) LetterError
number_in bs = cond (nat_le widest (length bs)) (Ok (value (take widest bs), drop widest bs)) (Err TooShort)

abbrev pub passed_in : List ℕ → Result (ℕ × List ℕ) LetterError
passed_in bs = then (number_in bs) (λ p. cond (nat_le p.0 top) (Ok p) (Err PassedTooLarge))

abbrev pub hour_in : List ℕ → Result (ℕ × List ℕ) LetterError
hour_in bs = then (number_in bs) (λ p. cond (nat_lt p.0 top) (Ok p) (Err HourTooLarge))

abbrev pub statement_in : Kind → List ℕ → Result (Statement × List ℕ) LetterError
statement_in kind.Begun bs = then (hour_in bs) (λ p. Ok (Begun p.0, p.1))
statement_in kind.Whole bs = then (hour_in bs) (λ p. then (hour_in p.1) (λ q. Ok (Whole p.0 (Some q.0), q.1)))
statement_in kind.Last bs = then (hour_in bs) (λ p. Ok (Whole p.0 None, p.1))
statement_in kind.Ended bs = Ok (Ended, bs)

-- how many bytes the page beside a statement has
abbrev pub page_size : Statement → ℕ
page_size s = beside s page_length 0

abbrev pub sized : {A : Type 0} → (wanted : ℕ) → List ℕ → A → Result A LetterError
sized n bs a = cond (nat_lt (length bs) n) (Err TooShort) (cond (nat_lt n (length bs)) (Err TooLong) (Ok a))

abbrev pub head_of_marks : (kind flag : ℕ) → List ℕ → Result (Head × List ℕ) LetterError
head_of_marks k w bs =
    then (kind_in k) (λ kind. then (flag_in w) (λ woke. then (passed_in bs) (λ p. then (statement_in kind p.1) (λ q.
    sized (page_size q.0) q.1 (record { woke = woke; passed = p.0; statement = q.0 }, q.1)))))

unfoldable pub head_of : List ℕ → Result (Head × List ℕ) LetterError
head_of bs = cond (nat_lt (length bs) marks) (Err TooShort) (head_of_marks (slice_index bs 0) (slice_index bs 1) (drop marks bs))

-- what the reader answers, and its rows: a whole hour's are read, and any others are as they were
abbrev pub said : Result (Head × List ℕ) LetterError → Result Head LetterError
said (Ok p) = Ok p.0
said (Err e) = Err e

abbrev pub sums_left : Result (Head × List ℕ) LetterError → (sums : List ℕ) → List ℕ
sums_left (Ok p) ss = beside p.0.statement (page_sums p.1) ss
sums_left (Err e) ss = ss

abbrev pub counts_left : Result (Head × List ℕ) LetterError → (counts : List ℕ) → List ℕ
counts_left (Ok p) cs = beside p.0.statement (page_counts p.1) cs
counts_left (Err e) cs = cs
