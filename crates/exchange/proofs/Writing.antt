-- What is written: how long it is, and that it stands at the front, with what is behind it as it was.
use mir.Val.{bool_byte}
use Rattle.std.proofs.Common.{◌≡◌, ℕ, Bool, true, false, ◌+◌, ◌-◌, ◌*◌, ◌≤◌, List, [], ◌∷◌, ◌++◌, length, take, drop, slice_set, sym, ap, refl, append_assoc, arith, lit≤, Some, None, Option, Ok, append-nil, eq-eqb, le-leb, length-append, length-drop}
use borrow.Rule.Slice.PartMut.{put_mid}
use Rattle.std.proofs.lemmas.List.{take_at, drop_at, drop-drop, take_rest}
use Rattle.std.proofs.lemmas.Grind.{common_steps}
use Rattle.sums.specs.Cells.{slots}
use Rattle.sums.specs.Digits.{widest}
use Rattle.sums.specs.Pages.{page_length, page_bytes, page_written, encode_answer}
use Rattle.sums.proofs.Columns.{length_page}
use Rattle.sums.proofs.Digits.{length_row}
use Rattle.sums.proofs.Overwrites.{put_mid_rest}
use Rattle.exchange.specs.Letters.{marks, flag, numbers_of, head_numbers, head_bytes, letter_bytes, beside, longest_head}
use Rattle.exchange.specs.declared.statement.Head.{Head}
use Rattle.exchange.specs.declared.statement.Statement.{Statement}
use Rattle.exchange.specs.declared.statement.Statement.TheVariants.{Begun, Whole, Ended}

pub length_head : (h : Head) → length (head_bytes h) ≡ marks + widest * length (head_numbers h)
unfolding head_bytes
length_head h = grind (arith, common_steps, length_row)

pub few_numbers : (s : Statement) → length (numbers_of s) ≤ 2
few_numbers (Begun h) = lit≤ tt
few_numbers (Whole h (Some n)) = lit≤ tt
few_numbers (Whole h None) = lit≤ tt
few_numbers Ended = lit≤ tt

pub flag_byte : (b : Bool) → bool_byte b ≡ flag b
flag_byte true = refl
flag_byte false = refl

-- two bytes are set, and what is behind them is written over
pub marked : (out ys : List ℕ) (a b : ℕ) → 2 ≤ length out →
    let x = slice_set (slice_set out 0 a) 1 b in put_mid 2 (length x - 2) x ys ≡ a ∷ b ∷ ys
marked [] ys a b le = absurd (omega arith)
marked (o ∷ []) ys a b le = absurd (omega arith)
marked (o ∷ p ∷ out) ys a b le = put_mid_rest (a ∷ b ∷ out) 2 ys

pub behind_marks : (out : List ℕ) (a b : ℕ) → 2 ≤ length out →
    let x = slice_set (slice_set out 0 a) 1 b in take (length x - 2) (drop 2 x) ≡ drop 2 out
behind_marks [] a b le = absurd (omega arith)
behind_marks (o ∷ []) a b le = absurd (omega arith)
behind_marks (o ∷ p ∷ out) a b le = take_rest (a ∷ b ∷ out) 2

-- one part more, behind the part that is written
pub next_part : (front part out out₁ out₂ : List ℕ) (n k : ℕ) → n ≡ length front → out₁ ≡ front ++ drop n out → out₂ ≡ part ++ drop k (take (length out₁ - n) (drop n out₁)) →
    put_mid n (length out₁ - n) out₁ out₂ ≡ (front ++ part) ++ drop (n + k) out
next_part front part out out₁ out₂ n k len e₁ e₂ =
    grind (arith, put_mid_rest out₁ n out₂, take_at front (drop n out) n (sym len), drop_at front (drop n out) n (sym len), take_rest out₁ n, drop-drop k n out, append_assoc front part (drop (n + k) out))

pub room_left : (xs : List ℕ) (n : ℕ) → n + page_length ≤ length xs → page_length ≤ length (take (length xs - n) (drop n xs))
room_left xs n le = rw (take_rest xs n, length-drop) (omega arith)

pub head_within : (h : Head) → length (head_bytes h) ≤ longest_head
head_within h = omega (arith, length_head h, few_numbers h.statement)

module _ (ss cs : List ℕ) where
  alone : (s : Statement) → ((h : ℕ) (n : Option ℕ) → s ≡ Whole h n → ⊥) → beside s (page_bytes ss cs) [] ≡ []
  alone (Begun h) other = refl
  alone (Whole h n) other = absurd (other h n refl)
  alone Ended other = refl

  pub letter_alone : (h : Head) → ((x : ℕ) (n : Option ℕ) → h.statement ≡ Whole x n → ⊥) → letter_bytes h ss cs ≡ head_bytes h
  unfolding letter_bytes
  letter_alone h other = rw (alone h.statement other) (append-nil (head_bytes h))

  pub letter_whole : (h : Head) (x : ℕ) (n : Option ℕ) → h.statement ≡ Whole x n → letter_bytes h ss cs ≡ head_bytes h ++ page_bytes ss cs
  unfolding letter_bytes
  letter_whole h x n e = ap (λ s. head_bytes h ++ beside s (page_bytes ss cs) []) e

  module _ (ls : length ss ≡ slots) (lc : length cs ≡ slots) where
    pub page_fits : (out : List ℕ) → page_length ≤ length out → encode_answer ss cs out ≡ Ok tt
    page_fits out le = simp (eq-eqb (length ss) slots ls, eq-eqb (length cs) slots lc, le-leb page_length (length out) le)

    pub page_over : (out : List ℕ) → page_length ≤ length out → page_written ss cs out ≡ page_bytes ss cs ++ drop page_length out
    page_over out le = simp (page_fits out le)

    pub length_whole : (h : Head) (x : ℕ) (n : Option ℕ) → h.statement ≡ Whole x n → length (letter_bytes h ss cs) ≡ length (head_bytes h) + page_length
    length_whole h x n e = rw (letter_whole h x n e, length-append, length_page ss cs ls lc)
