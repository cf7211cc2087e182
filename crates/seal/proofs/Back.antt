-- What is written is read back. Assumes nothing.
use Rattle.std.proofs.Common.{◌≡◌, ℕ, ◌<◌, ◌≤◌, Bool, true, not, cond, ◌&&◌, List, [], ◌∷◌, ◌++◌, length, take, drop, Ok, Err, false, refl, nat_lt, slice_index, sym, ap, ◌∙◌, arith, length-append}
use Rattle.std.proofs.Math.Seq.{take-append_seam, drop-append_seam, get_or-append_seam}
use Rattle.std.proofs.lemmas.Grind.{common_steps}
use Rattle.std.proofs.lemmas.List.{get_or_append_left, get_or-take}
use Rattle.std.proofs.lemmas.Slice.Eq.{bytes_eq-Decides}
use Rattle.std.specs.Str.{bytes_eq}
use Rattle.sha2.specs.Sha256.{sha256}
use Rattle.hex.specs.Hex.{encode_lower}
use Rattle.seal.specs.Seals.{checksum_line, has_line, sealed, unsealed}
use Rattle.seal.specs.declared.SealError.TheVariants.{Mismatch}

-- a line of 65 bytes, the last of which ends it, in front of bytes
module _ (digits bs : List ℕ) (n : length (digits ++ 10 ∷ []) ≡ 65) where
  few : length digits ≡ 64
  few = omega (arith, n, length-append digits (10 ∷ []))

  line_ends : slice_index ((digits ++ 10 ∷ []) ++ bs) 64 ≡ 10
  line_ends =
      get_or_append_left (digits ++ 10 ∷ []) bs 0 64 (omega (arith, n))
      ∙ ap (λ k. slice_index (digits ++ 10 ∷ []) k) (sym few)
      ∙ get_or-append_seam digits 10 [] 0

  long : nat_lt 64 (length ((digits ++ 10 ∷ []) ++ bs)) ≡ true
  long = let l = length-append (digits ++ 10 ∷ []) bs in grind (arith, common_steps, n, l)

  pub begins : has_line ((digits ++ 10 ∷ []) ++ bs) ≡ true
  begins = rw (long, line_ends) refl

  pub front : take 65 ((digits ++ 10 ∷ []) ++ bs) ≡ digits ++ 10 ∷ []
  front = ap (λ k. take k ((digits ++ 10 ∷ []) ++ bs)) (sym n) ∙ take-append_seam (digits ++ 10 ∷ []) bs

  pub rest : drop 65 ((digits ++ 10 ∷ []) ++ bs) ≡ bs
  rest = ap (λ k. drop k ((digits ++ 10 ∷ []) ++ bs)) (sym n) ∙ drop-append_seam (digits ++ 10 ∷ []) bs

pub back : (bs : List ℕ) → length (checksum_line bs) ≡ 65 → unsealed (sealed bs) ≡ Ok bs
back bs n =
    let digits = encode_lower (sha256 bs) in
    let fits = (bytes_eq-Decides (checksum_line bs) (checksum_line bs)).1 refl in
    rw (begins digits bs n, front digits bs n, rest digits bs n, fits) refl

-- a file that was cut behind its first line
module _ (file line bytes : List ℕ) (cut : (line ≡ take 65 file) × (bytes ≡ drop 65 file)) (has : has_line file ≡ true) where
  compared : bytes_eq (take 65 file) (checksum_line (drop 65 file)) ≡ bytes_eq line (checksum_line bytes)
  compared = rw (cut.0, cut.1) refl

  pub fits : bytes_eq line (checksum_line bytes) ≡ true → unsealed file ≡ Ok bytes
  fits e = rw (has, compared, e, sym cut.1) refl

  pub other : bytes_eq line (checksum_line bytes) ≡ false → unsealed file ≡ Err Mismatch
  other e = rw (has, compared, e) refl

module _ (file line : List ℕ) (at : line ≡ take 65 file) (long : 65 ≤ length file) where
  pub has : slice_index line 64 ≡ 10 → has_line file ≡ true
  has e =
      let ten : slice_index file 64 ≡ 10 = sym (get_or-take 65 file 64 0 (omega arith)) ∙ ap (λ l. slice_index l 64) (sym at) ∙ e in
      let more : nat_lt 64 (length file) ≡ true = grind (arith, common_steps, long) in
      rw (more, ten) refl

pub alike : (b : Bool) → false ≡ not b → b ≡ true
alike true e = refl
alike false e = cc

pub unlike : (b : Bool) → true ≡ not b → b ≡ false
unlike true e = cc
unlike false e = refl
