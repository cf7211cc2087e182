-- Parts of a text. Assumes nothing.
use Rattle.std.proofs.Common.{◌≡◌, ℕ, ◌<◌, ◌≤◌, Bool, false, cond, not, eqb, ltb, List, [], ◌∷◌, length, get_or, take, drop, Some, None, Option, refl, ap, ◌∙◌, arith}
use Rattle.std.proofs.Math.Numerals.{one-add}
use Rattle.std.specs.List.{position_or_len}
use Rattle.std.specs.Option.{unwrap_or}
use Rattle.std.proofs.lemmas.Grind.{common_steps}
use Rattle.std.proofs.lemmas.List.Sums.{prefix_len-le-length}
use Rattle.text.specs.Text.{blank, before, from, lines, words}

module _ (stop : ℕ → Bool) where
  -- where a part ends: at the first byte that stops, or where the bytes end
  abbrev pub cut_at : List ℕ → ℕ
  cut_at bs = position_or_len stop bs

  before_is : (bs : List ℕ) → take (cut_at bs) bs ≡ before stop bs
  unfolding before
  before_is [] = refl
  before_is (b ∷ bs) = grind (arith, common_steps, before_is bs, one-add (cut_at bs))

  from_is : (bs : List ℕ) → drop (cut_at bs) bs ≡ from stop bs
  unfolding from
  from_is [] = refl
  from_is (b ∷ bs) = grind (arith, common_steps, from_is bs, one-add (cut_at bs))

  -- what `position` finds, or the length
  found : (bs : List ℕ) (r : Option ℕ) → r ≡ cond (ltb (cut_at bs) (length bs)) (Some (cut_at bs)) None → unwrap_or r (length bs) ≡ cut_at bs
  found bs r e = grind (arith, common_steps, prefix_len-le-length (λ x. not (stop x)) bs)

  pub cut_found : (bs front back : List ℕ) (r : Option ℕ) (end : ℕ) → r ≡ cond (ltb (cut_at bs) (length bs)) (Some (cut_at bs)) None → end ≡ unwrap_or r (length bs) →
      front ≡ take end bs → back ≡ drop end bs → (front ≡ before stop bs) × (back ≡ from stop bs)
  cut_found bs front back r end e f is rest = (is ∙ ap (λ n. take n bs) (f ∙ found bs r e) ∙ before_is bs, rest ∙ ap (λ n. drop n bs) (f ∙ found bs r e) ∙ from_is bs)

  pub from_length : (bs : List ℕ) → length (from stop bs) ≤ length bs
  unfolding from
  from_length [] = omega arith
  from_length (b ∷ bs) = grind (arith, from_length bs)

abbrev pub line_feed : ℕ → Bool
line_feed b = eqb b 10

-- the first line, and those of what follows it
pub lines_cut : (bs : List ℕ) → 0 < length bs → lines bs ≡ before line_feed bs ∷ lines (drop 1 (from line_feed bs))
unfolding lines before from
lines_cut [] h = absurd (omega arith)
lines_cut (b ∷ []) h = grind (arith, common_steps)
lines_cut (b ∷ c ∷ cs) h = let more = lines_cut (c ∷ cs) (omega arith) in grind (arith, common_steps, more)

abbrev pub solid : ℕ → Bool
solid b = not (blank b)

pub words_solid : (bs : List ℕ) → words (from solid bs) ≡ words bs
unfolding words from
words_solid [] = refl
words_solid (b ∷ bs) = grind (arith, common_steps, words_solid bs)

pub first_solid : (bs : List ℕ) → 0 < length (from solid bs) → blank (get_or (from solid bs) 0 0) ≡ false
unfolding from
first_solid [] h = absurd (omega arith)
first_solid (b ∷ bs) h = grind (arith, common_steps, first_solid bs)

-- the first word, and those of what follows it
pub words_cut : (bs : List ℕ) → 0 < length bs → blank (get_or bs 0 0) ≡ false → words bs ≡ before blank bs ∷ words (from blank bs)
unfolding words before from
words_cut [] h e = absurd (omega arith)
words_cut (b ∷ []) h e = rw e refl
words_cut (b ∷ c ∷ cs) h e = grind (arith, common_steps, words_cut (c ∷ cs) (omega arith))
