-- Words that are written, read back. Assumes nothing.
use Rattle.std.proofs.Common.{◌≡◌, ℕ, ◌<◌, Bool, true, not, ◌&&◌, [], ◌∷◌, ◌++◌, length, Some, refl, ap, ◌∙◌, arith, rules}
use Rattle.std.specs.Fmt as written
use Rattle.std.proofs.lemmas.Fmt.{decimal_nonempty, digits_decimal, digits_value-decimal}
use Rattle.std.proofs.lemmas.Str.Parse.{IsNumeralModel, numerals_by_fold}
use Rattle.std.proofs.lemmas.Grind.{common_steps}
use Rattle.std.proofs.lemmas.Bool.{and_from, cond-true, lt-ltb}
use Rattle.text.specs.Text.{Bytes, blank, words, digit, all_digits, value, decimal}

-- no byte of it is blank
unfoldable pub solid_all : Bytes → Bool
solid_all [] = true
solid_all (b ∷ bs) = not (blank b) && solid_all bs

pub solid_append : (bs cs : Bytes) → solid_all bs ≡ true → solid_all cs ≡ true → solid_all (bs ++ cs) ≡ true
unfolding solid_all
solid_append [] cs h e = e
solid_append (b ∷ bs) cs h e = grind (arith, common_steps, solid_append bs cs)

-- a word that a blank follows, and one that nothing follows
pub words_first : (w rest : Bytes) → solid_all w ≡ true → 0 < length w → words (w ++ 32 ∷ rest) ≡ w ∷ words rest
unfolding solid_all words
words_first [] rest h e = absurd (omega arith)
words_first (b ∷ []) rest h e = grind (arith, common_steps)
words_first (b ∷ c ∷ w) rest h e = grind (arith, common_steps, words_first (c ∷ w) rest)

pub words_only : (w : Bytes) → solid_all w ≡ true → 0 < length w → words w ≡ w ∷ []
unfolding solid_all words
words_only [] h e = absurd (omega arith)
words_only (b ∷ []) h e = grind (arith, common_steps)
words_only (b ∷ c ∷ w) h e = grind (arith, common_steps, words_only (c ∷ w))

-- ---- numbers

own : IsNumeralModel (λ ds. all_digits ds ≡ true) (value 0)
unfolding all_digits value
own = numerals_by_fold _ (search rules) value (search rules)

digit_solid : (b : ℕ) → digit b ≡ true → not (blank b) ≡ true
digit_solid b h = grind (arith, common_steps)

digits_solid : (bs : Bytes) → all_digits bs ≡ true → solid_all bs ≡ true
unfolding all_digits solid_all
digits_solid [] h = refl
digits_solid (b ∷ bs) h = grind (arith, common_steps, digit_solid b, digits_solid bs)

module _ (n : ℕ) (h : n < 18446744073709551616) where
  pub written_solid : solid_all (written.decimal n) ≡ true
  written_solid = digits_solid (written.decimal n) (digits_decimal own n h)

  pub written_some : 0 < length (written.decimal n)
  written_some = decimal_nonempty n h

  pub written_read : decimal (written.decimal n) ≡ Some n
  unfolding decimal
  written_read = go (written.decimal n) (decimal_nonempty n h) (digits_decimal own n h) (digits_value-decimal own n h)
    where
      go : (bs : Bytes) → 0 < length bs → all_digits bs ≡ true → value 0 bs ≡ n → decimal bs ≡ Some n
      go [] some digits is = absurd (omega arith)
      go (b ∷ bs) some digits is = cond-true _ _ _ (and_from _ _ digits (lt-ltb _ _ (omega arith))) ∙ ap Some is
