-- Rows of the code, one after the other. Assumes nothing.
use Rattle.std.proofs.Common.{◌≡◌, ℕ, ◌+◌, ◌<◌, Bool, true, false, cond, not, eqb, ◌&&◌, Some, None, refl, List, [], ◌∷◌, length, get_or, drop, sym, ap, ◌∙◌, arith}
use Rattle.std.specs.List.{find}
use Rattle.std.proofs.lemmas.Bool.{eq-eqb}
use Rattle.std.proofs.lemmas.List.{drop_more}
use Rattle.sums.specs.Sums.{any, every, each, or}
use Rattle.sums.proofs.Anys.{or_true}
use Rattle.rows.specs.declared.Row.{Row}
use Rattle.rows.specs.Walls.{as_told, as_wall}
use Rattle.wall_reader.specs.Charts.{begins, of_place}

-- what a row past the end is read as
abbrev pub no_row : Row
no_row = record { hour = 0; place = 0; sum = 0 }

module _ (rows : List Row) (i : ℕ) (d : Row) (h : i < length rows) where
  pub wall_drop : as_wall (drop i rows) ≡ as_told (get_or rows i d) ∷ as_wall (drop (i + 1) rows)
  unfolding each
  wall_drop = ap as_wall (drop_more rows i d h)

pub begins_first : (k : ℕ) (rows : List Row) (d : Row) → 0 < length rows → eqb (get_or rows 0 d).place k ≡ true → begins k (as_wall rows) ≡ true
unfolding each
begins_first k [] d h e = absurd (omega arith)
begins_first k (r ∷ rows) d h e = e

-- the first row that is of another place, if any
abbrev pub elsewhere : ℕ → Row → Bool
elsewhere k r = not (eqb r.place k)

pub none_elsewhere : (k : ℕ) (rows : List Row) → find (elsewhere k) rows ≡ None → every (of_place k) (as_wall rows) ≡ true
unfolding every each
none_elsewhere k [] e = refl
none_elsewhere k (r ∷ rows) e = go (eqb r.place k) e (none_elsewhere k rows)
  where
    go : (b : Bool) → cond (not b) (Some r) (find (elsewhere k) rows) ≡ None → (find (elsewhere k) rows ≡ None → every (of_place k) (as_wall rows) ≡ true) →
        b && every (of_place k) (as_wall rows) ≡ true
    go true e next = next e
    go false e next = cc

pub one_elsewhere : (k : ℕ) (rows : List Row) (x : Row) → find (elsewhere k) rows ≡ Some x → (any (of_place x.place) (as_wall rows) ≡ true) × (eqb x.place k ≡ false)
unfolding any each
one_elsewhere k [] x e = cc
one_elsewhere k (r ∷ rows) x e = go (eqb r.place k) refl e (one_elsewhere k rows x)
  where
    go : (b : Bool) → eqb r.place k ≡ b → cond (not b) (Some r) (find (elsewhere k) rows) ≡ Some x →
        (find (elsewhere k) rows ≡ Some x → (any (of_place x.place) (as_wall rows) ≡ true) × (eqb x.place k ≡ false)) →
        (or (eqb r.place x.place) (any (of_place x.place) (as_wall rows)) ≡ true) × (eqb x.place k ≡ false)
    go true is e next = let there = next e in (ap (or (eqb r.place x.place)) there.0 ∙ or_true (eqb r.place x.place), there.1)
    go false is e next =
        let same : r ≡ x = cc in
        (ap (λ b. or b (any (of_place x.place) (as_wall rows))) (eq-eqb _ _ (ap (λ q. q.place) same)), ap (λ q. eqb q.place k) (sym same) ∙ is)
