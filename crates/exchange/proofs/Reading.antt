-- What is read of what was written, and how what is read was spelled.
use Rattle.std.proofs.Common.{◌≡◌, ℕ, ◌^◌, ◌<◌, ◌≤◌, Bool, true, false, cond, List, [], ◌∷◌, ◌++◌, length, drop, Some, None, Ok, Err, Result, IfOk, sym, refl, ap, ◌∙◌, append_assoc, append-nil, arith, nat_lt, nat_le, nat_eq, le-leb, length-append, slice_index}
use Rattle.std.proofs.lemmas.Bool.{lt-ltb, ltb-true, leb-true, eqb-true, le-ltb, ltb-false}
use Rattle.std.proofs.lemmas.List.{take_at, drop_at, take-append-drop}
use Rattle.std.proofs.lemmas.Grind.{common_steps}
use Rattle.sums.specs.Digits.{widest, digits, row_bytes}
use Rattle.sums.proofs.Digits.{length_digits, value_back}
use Rattle.exchange.specs.Kinds.{kind_of, kind_number, kind_in}
use Rattle.exchange.specs.Laws.{StatementFits, HeadFits}
use Rattle.exchange.specs.Letters.{top, flag, numbers_of, head_numbers, head_bytes, then, flag_in, number_in, passed_in, hour_in, statement_in, page_size, sized, head_of_marks, head_of}
use Rattle.exchange.specs.declared.error.LetterError.{LetterError}
use Rattle.exchange.specs.declared.kind.Kind.{Kind}
use Rattle.exchange.specs.declared.kind.Kind.TheVariants as kind
use Rattle.exchange.specs.declared.statement.Head.{Head}
use Rattle.exchange.specs.declared.statement.Statement.{Statement}
use Rattle.exchange.specs.declared.statement.Statement.TheVariants.{Begun, Whole, Ended}
use Rattle.exchange.proofs.Spelling.{Low, drop_low, spelled_front}

-- BACK: what is written is read
number_back : (n : ℕ) (ns rest : List ℕ) → n ≤ top → number_in (row_bytes widest (n ∷ ns) ++ rest) ≡ Ok (n, row_bytes widest ns ++ rest)
unfolding number_in row_bytes
number_back n ns rest le =
    let behind = row_bytes widest ns ++ rest in
    let small : n < 256 ^ widest = omega arith in
    let all = append_assoc (digits widest n) (row_bytes widest ns) rest in
    let room : widest ≤ length (digits widest n ++ behind) = rw (length-append, length_digits) (omega arith) in
    rw all
    (simp (le-leb widest (length (digits widest n ++ behind)) room, take_at (digits widest n) behind widest (length_digits widest n), drop_at (digits widest n) behind widest (length_digits widest n))
    (ap (λ m. Ok (m, behind)) (value_back widest n (lt-ltb n (256 ^ widest) small))))

hour_back : (h : ℕ) (ns rest : List ℕ) → h < top → hour_in (row_bytes widest (h ∷ ns) ++ rest) ≡ Ok (h, row_bytes widest ns ++ rest)
hour_back h ns rest lt = rw (number_back h ns rest (omega arith)) (simp (lt-ltb h top lt))

passed_back : (h : ℕ) (ns rest : List ℕ) → h ≤ top → passed_in (row_bytes widest (h ∷ ns) ++ rest) ≡ Ok (h, row_bytes widest ns ++ rest)
passed_back h ns rest le = rw (number_back h ns rest le) (simp (le-leb h top le))

statement_back : (s : Statement) (rest : List ℕ) → StatementFits s → statement_in (kind_of s) (row_bytes widest (numbers_of s) ++ rest) ≡ Ok (s, rest)
unfolding row_bytes
statement_back (Begun h) rest lt = rw (hour_back h [] rest lt) refl
statement_back (Whole h (Some n)) rest (lt, ln) = rw (hour_back h (n ∷ []) rest lt) (rw (hour_back n [] rest ln) refl)
statement_back (Whole h None) rest (lt, none) = rw (hour_back h [] rest lt) refl
statement_back Ended rest fits = refl

kind_back : (s : Statement) → kind_in (kind_number (kind_of s)) ≡ Ok (kind_of s)
kind_back (Begun h) = refl
kind_back (Whole h (Some n)) = refl
kind_back (Whole h None) = refl
kind_back Ended = refl

flag_back : (b : Bool) → flag_in (flag b) ≡ Ok b
flag_back true = refl
flag_back false = refl

sized_back : {A : Type 0} (n : ℕ) (page : List ℕ) (a : A) → length page ≡ n → sized n page a ≡ Ok a
sized_back n page a e = simp (le-ltb n (length page) (omega arith), le-ltb (length page) n (omega arith))

numbers_back : (h : Head) (page : List ℕ) → HeadFits h → length page ≡ page_size h.statement →
    head_of_marks (kind_number (kind_of h.statement)) (flag h.woke) (row_bytes widest (head_numbers h) ++ page) ≡ Ok (h, page)
numbers_back h page fits len =
    rw (kind_back h.statement)
    (rw (flag_back h.woke)
    (rw (passed_back h.passed (numbers_of h.statement) page fits.passed)
    (rw (statement_back h.statement page fits.statement) (sized_back (page_size h.statement) page (h, page) len))))

pub head_back : (h : Head) (page : List ℕ) → HeadFits h → length page ≡ page_size h.statement → head_of (head_bytes h ++ page) ≡ Ok (h, page)
unfolding head_of head_bytes
head_back h page fits len =
    let two : 2 ≤ length (head_bytes h ++ page) = grind (arith, common_steps) in
    simp (le-ltb (length (head_bytes h ++ page)) 2 two) (numbers_back h page fits len)

-- SPELLED: what is read was written so
module _ {A B : Type 0} where
  then_if : (r : Result A LetterError) (f : A → Result B LetterError) (P : A → Type 0) (Q : B → Type 0) → IfOk r P → ((a : A) → P a → IfOk (f a) Q) → IfOk (then r f) Q
  then_if (Ok a) f P Q p k = k a p
  then_if (Err e) f P Q p k = tt

module _ {A : Type 0} where
  if_true : (b : Bool) (r : Result A LetterError) (e : LetterError) (Q : A → Type 0) → (b ≡ true → IfOk r Q) → IfOk (cond b r (Err e)) Q
  if_true true r e Q k = k refl
  if_true false r e Q k = tt

  if_false : (b : Bool) (r : Result A LetterError) (e : LetterError) (Q : A → Type 0) → (b ≡ false → IfOk r Q) → IfOk (cond b (Err e) r) Q
  if_false true r e Q k = tt
  if_false false r e Q k = k refl

  by_test : (b : Bool) (r s : Result A LetterError) (Q : A → Type 0) → (b ≡ true → IfOk r Q) → IfOk s Q → IfOk (cond b r s) Q
  by_test true r s Q k other = k refl
  by_test false r s Q k other = other

kind_if : (b : ℕ) → IfOk (kind_in b) (λ k. b ≡ kind_number k)
kind_if b =
    by_test (nat_eq b 1) _ _ _ (λ e. eqb-true b 1 e)
    (by_test (nat_eq b 2) _ _ _ (λ e. eqb-true b 2 e) (by_test (nat_eq b 3) _ _ _ (λ e. eqb-true b 3 e) (by_test (nat_eq b 4) _ _ _ (λ e. eqb-true b 4 e) tt)))

flag_if : (b : ℕ) → IfOk (flag_in b) (λ w. b ≡ flag w)
flag_if b = by_test (nat_eq b 0) _ _ _ (λ e. eqb-true b 0 e) (by_test (nat_eq b 1) _ _ _ (λ e. eqb-true b 1 e) tt)

-- bytes are a number's, and others behind it
record Front (bs : List ℕ) (n : ℕ) (rest : List ℕ) : Type 0 where
  bytes : bs ≡ digits widest n ++ rest
  low : Low rest

number_if : (bs : List ℕ) → Low bs → IfOk (number_in bs) (λ p. Front bs p.0 p.1)
unfolding number_in
number_if bs low =
    if_true (nat_le widest (length bs)) _ _ _
    (λ e.
    let room : widest ≤ length bs = leb-true _ _ e in
    record { bytes = rw (spelled_front widest bs low room) (sym (take-append-drop widest bs)); low = drop_low widest bs low })

hour_if : (bs : List ℕ) → Low bs → IfOk (hour_in bs) (λ p. (p.0 < top) × Front bs p.0 p.1)
hour_if bs low =
    then_if (number_in bs) _ (λ p. Front bs p.0 p.1) _ (number_if bs low) (λ p f. if_true (nat_lt p.0 top) (Ok p) _ _ (λ e. (ltb-true p.0 top e, f)))

passed_if : (bs : List ℕ) → Low bs → IfOk (passed_in bs) (λ p. (p.0 ≤ top) × Front bs p.0 p.1)
passed_if bs low =
    then_if (number_in bs) _ (λ p. Front bs p.0 p.1) _ (number_if bs low) (λ p f. if_true (nat_le p.0 top) (Ok p) _ _ (λ e. (leb-true p.0 top e, f)))

record Spelled (k : Kind) (bs : List ℕ) (s : Statement) (rest : List ℕ) : Type 0 where
  kind : k ≡ kind_of s
  fits : StatementFits s
  bytes : bs ≡ row_bytes widest (numbers_of s) ++ rest
  low : Low rest

one_number : (bs rest : List ℕ) (n : ℕ) → Front bs n rest → bs ≡ row_bytes widest (n ∷ []) ++ rest
unfolding row_bytes
one_number bs rest n f = rw append-nil f.bytes

one_more : (bs rest : List ℕ) (n : ℕ) (ns : List ℕ) (behind : List ℕ) → Front bs n behind → behind ≡ row_bytes widest ns ++ rest → bs ≡ row_bytes widest (n ∷ ns) ++ rest
unfolding row_bytes
one_more bs rest n ns behind f e = rw append_assoc (f.bytes ∙ ap (λ zs. digits widest n ++ zs) e)

statement_if : (k : Kind) (bs : List ℕ) → Low bs → IfOk (statement_in k bs) (λ q. Spelled k bs q.0 q.1)
unfolding row_bytes
statement_if kind.Begun bs low =
    then_if (hour_in bs) _ _ _ (hour_if bs low) (λ p (lt, f). record { kind = refl; fits = lt; bytes = one_number bs p.1 p.0 f; low = f.low })
statement_if kind.Whole bs low =
    then_if (hour_in bs) _ _ _ (hour_if bs low)
    (λ p (lt, f).
    then_if (hour_in p.1) _ _ _ (hour_if p.1 f.low)
    (λ q (ln, g). record { kind = refl; fits = (lt, ln); bytes = one_more bs q.1 p.0 (q.0 ∷ []) p.1 f (one_number p.1 q.1 q.0 g); low = g.low }))
statement_if kind.Last bs low =
    then_if (hour_in bs) _ _ _ (hour_if bs low) (λ p (lt, f). record { kind = refl; fits = (lt, tt); bytes = one_number bs p.1 p.0 f; low = f.low })
statement_if kind.Ended bs low = record { kind = refl; fits = tt; bytes = refl; low = low }

pub record Said (bs : List ℕ) (h : Head) (page : List ℕ) : Type 0 where
  pub fits : HeadFits h
  pub bytes : bs ≡ head_bytes h ++ page
  pub low : Low page
  pub size : length page ≡ page_size h.statement

sized_if : {A : Type 0} (n : ℕ) (page : List ℕ) (a : A) (Q : A → Type 0) → (length page ≡ n → Q a) → IfOk (sized n page a) Q
sized_if n page a Q k =
    if_false (nat_lt (length page) n) _ _ _ (λ e. if_false (nat_lt n (length page)) _ _ _ (λ e₂. k (omega (arith, ltb-false (length page) n e, ltb-false n (length page) e₂))))

spelled_head : (h : Head) (k w : ℕ) (bs behind page : List ℕ) (kind : Kind) → k ≡ kind_number kind → w ≡ flag h.woke → Front bs h.passed behind → Spelled kind behind h.statement page →
    k ∷ w ∷ bs ≡ head_bytes h ++ page
unfolding head_bytes
spelled_head h k w bs behind page kind ek ew f s =
    let numbers : bs ≡ row_bytes widest (head_numbers h) ++ page = one_more bs page h.passed (numbers_of h.statement) behind f s.bytes in
    let number : k ≡ kind_number (kind_of h.statement) = ek ∙ ap kind_number s.kind in
    cc

marks_if : (k w : ℕ) (bs : List ℕ) → Low bs → IfOk (head_of_marks k w bs) (λ q. Said (k ∷ w ∷ bs) q.0 q.1)
marks_if k w bs low =
    then_if (kind_in k) _ _ _ (kind_if k)
    (λ kind ek.
    then_if (flag_in w) _ _ _ (flag_if w)
    (λ woke ew.
    then_if (passed_in bs) _ _ _ (passed_if bs low)
    (λ p (le, f).
    then_if (statement_in kind p.1) _ _ _ (statement_if kind p.1 f.low)
    (λ q s.
    let h : Head = record { woke = woke; passed = p.0; statement = q.0 } in
    sized_if (page_size q.0) q.1 (h, q.1) _
    (λ len.
    record { fits = record { passed = le; statement = s.fits }; bytes = spelled_head h k w bs p.1 q.1 kind ek ew f s; low = s.low; size = len })))))

two_marks : (bs : List ℕ) → Low bs → 2 ≤ length bs → IfOk (head_of_marks (slice_index bs 0) (slice_index bs 1) (drop 2 bs)) (λ q. Said bs q.0 q.1)
two_marks [] low le = absurd (omega arith)
two_marks (k ∷ []) low le = absurd (omega arith)
two_marks (k ∷ w ∷ bs) low le = marks_if k w bs (drop_low 2 (k ∷ w ∷ bs) low)

pub head_if : (bs : List ℕ) → Low bs → IfOk (head_of bs) (λ q. Said bs q.0 q.1)
unfolding head_of
head_if bs low = if_false (nat_lt (length bs) 2) _ _ _ (λ e. two_marks bs low (ltb-false (length bs) 2 e))
