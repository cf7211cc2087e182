-- A line for each row, and bytes that more is written behind.
use Rattle.std.proofs.Common.{◌≡◌, ℕ, ◌+◌, ◌<◌, ◌≤◌, List, [], ◌∷◌, ◌++◌, Option, length, get_or, take, sym, refl, ap, ◌∙◌, subst}
use Rattle.std.proofs.KnownBytes.{Appends-trans}
use Rattle.std.proofs.lemmas.List.{take_more, take_all, flat_map_more}
use Rattle.std.specs.Io.KnownBytes.{Appends}
use Rattle.sums.specs.Sums.{each, ToldSum}
use Rattle.rows.specs.declared.Row.{Row}
use Rattle.rows.specs.Walls.{as_told, as_wall}
use Rattle.text.specs.Text.{Bytes}
use Rattle.text.specs.Written.{lined, lines_of}

lines_each : (f : ToldSum → Bytes) (rs : List Row) → lines_of (λ r. f (as_told r)) rs ≡ lines_of f (as_wall rs)
unfolding each
lines_each f [] = refl
lines_each f (r ∷ rs) = ap (λ l. lined (f (as_told r)) ++ l) (lines_each f rs)

module _ (a b : Option (List ℕ)) (f : ToldSum → Bytes) (rs : List Row) (i : ℕ) where
  abbrev so_far : ℕ → Bytes
  so_far n = lines_of (λ r. f (as_told r)) (take n rs)

  -- one line more
  pub line_more : (c : Option (List ℕ)) (d : Row) → i < length rs → Appends a b (so_far i) → Appends b c (lined (f (as_told (get_or rs i d)))) → Appends a c (so_far (i + 1))
  line_more c d lt p q =
      subst (Appends a c) (flat_map_more (λ r. lined (f (as_told r))) [] (take i rs) (get_or rs i d) ∙ sym (ap (lines_of (λ r. f (as_told r))) (take_more rs i d lt)))
      (Appends-trans a b c _ _ p q)

  pub lines_all : length rs ≤ i → Appends a b (so_far i) → Appends a b (lines_of f (as_wall rs))
  lines_all h p = subst (Appends a b) (ap (lines_of (λ r. f (as_told r))) (take_all i rs h) ∙ lines_each f rs) p
