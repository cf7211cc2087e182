-- Writing over a part of a list: by a slice's part, and over one of two lists that lie side by side.
use Rattle.std.proofs.Common.{◌≡◌, ℕ, ◌+◌, ◌-◌, ◌≤◌, List, ◌++◌, length, take, drop, append_assoc, arith, length-append, length-drop, length-take}
use borrow.Rule.Slice.PartMut.{put_mid}
use Rattle.std.proofs.Math.Seq.{take-append-add, drop-append-add}
use Rattle.std.proofs.lemmas.List.{drop-drop, take-append-le, drop-append-le}
use Rattle.std.proofs.lemmas.Grind.{common_steps}
use Rattle.sums.specs.Written.{written}

module _ {A : Type 0} where
  -- as a write to a part of a slice leaves it
  pub put_mid_written : (xs : List A) (at k : ℕ) (ys : List A) → length ys ≡ k → put_mid at k xs ys ≡ written xs at ys
  put_mid_written xs at k ys e = simp (drop-drop, e)

  -- as a write to all from a place on leaves it
  pub put_mid_rest : (xs : List A) (at : ℕ) (ys : List A) → put_mid at (length xs - at) xs ys ≡ take at xs ++ ys
  put_mid_rest xs at ys = grind (arith, common_steps)

  pub length_written : (xs : List A) (at : ℕ) (ys : List A) → at + length ys ≤ length xs → length (written xs at ys) ≡ length xs
  length_written xs at ys le = simp (length-append, length-take, length-drop) (omega arith)

  -- over a part of the first of two lists, and of the second
  pub written_left : (xs ys : List A) (at : ℕ) (r : List A) → at + length r ≤ length xs → written (xs ++ ys) at r ≡ written xs at r ++ ys
  written_left xs ys at r le =
      let here : at ≤ length xs = omega arith in
      simp (take-append-le at xs ys here, drop-append-le (at + length r) xs ys le, append_assoc)

  pub written_right : (xs ys : List A) (n at : ℕ) (r : List A) → n ≡ length xs + at → written (xs ++ ys) n r ≡ xs ++ written ys at r
  written_right xs ys n at r e =
      let before = take-append-add xs ys at in
      let behind = drop-append-add xs ys (at + length r) in
      let place : n + length r ≡ length xs + (at + length r) = omega arith in
      let all = append_assoc xs (take at ys) (r ++ drop (at + length r) ys) in
      cc
