-- A row that is printed is read back. Assumes nothing.
use Rattle.std.proofs.Common.{◌≡◌, ℕ, ◌-◌, ◌<◌, [], ◌∷◌, ◌++◌, length, Some, Ok, codes, sym, refl, ap, ◌∙◌, append_assoc, arith}
use Rattle.std.specs.Fmt as written
use Rattle.std.proofs.lemmas.List.{take_at, get_or_push, length_push}
use Rattle.std.proofs.lemmas.Bool.{cond-true, eq-eqb}
use Rattle.rows.specs.declared.Row.{Row}
use Rattle.text.specs.Text.{Bytes, words, decimal}
use Rattle.text.proofs.Written.{solid_all, solid_append, words_first, words_only, written_solid, written_some, written_read}
use Rattle.wall_reader.specs.Lines.{place_of, with_hour, row_said, row_on}

place_back : (w : Bytes) (k : ℕ) → decimal w ≡ Some k → place_of (w ++ 58 ∷ []) ≡ Some k
place_back w k e =
    let long : length w ≡ length (w ++ 58 ∷ []) - 1 = omega (arith, length_push w 58) in
    cond-true _ _ _ (eq-eqb _ 58 (get_or_push w 58 0 _ long)) ∙ ap decimal (take_at w (58 ∷ []) _ long) ∙ e

module _ (r : Row) (h : r.hour < 18446744073709551616) (k : r.place < 18446744073709551616) (s : r.sum < 18446744073709551616) where
  hour : Bytes
  hour = written.decimal r.hour

  place : Bytes
  place = written.decimal r.place

  sum : Bytes
  sum = written.decimal r.sum

  behind_place : words (place ++ (codes ": " ++ sum)) ≡ (place ++ 58 ∷ []) ∷ sum ∷ []
  unfolding solid_all hour place sum
  behind_place =
      ap words (sym (append_assoc place (58 ∷ []) (32 ∷ sum)))
      ∙ words_first (place ++ 58 ∷ []) sum (solid_append place (58 ∷ []) (written_solid r.place k) refl) (omega (arith, length_push place 58))
      ∙ ap (λ l. (place ++ 58 ∷ []) ∷ l) (words_only sum (written_solid r.sum s) (written_some r.sum s))

  five : words (codes "hour " ++ (hour ++ (codes " place " ++ (place ++ (codes ": " ++ sum))))) ≡ codes "hour" ∷ hour ∷ codes "place" ∷ (place ++ 58 ∷ []) ∷ sum ∷ []
  unfolding solid_all hour place sum
  five =
      words_first (codes "hour") (hour ++ (codes " place " ++ (place ++ (codes ": " ++ sum)))) refl (omega arith)
      ∙ ap (λ l. codes "hour" ∷ l) (words_first hour (codes "place " ++ (place ++ (codes ": " ++ sum))) (written_solid r.hour h) (written_some r.hour h)
      ∙ ap (λ l. hour ∷ l) (words_first (codes "place") (place ++ (codes ": " ++ sum)) refl (omega arith) ∙ ap (λ l. codes "place" ∷ l) behind_place))

  pub read_back : row_on (codes "hour " ++ (written.decimal r.hour ++ (codes " place " ++ (written.decimal r.place ++ (codes ": " ++ written.decimal r.sum))))) ≡ Ok r
  unfolding hour place sum
  read_back =
      ap row_said five
      ∙ (λ i. with_hour (written_read r.hour h i) (codes "place") (place_back place r.place (written_read r.place k) i) (written_read r.sum s i))
