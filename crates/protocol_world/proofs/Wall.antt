-- The rows of records on the wall, by their sums.
use Rattle.std.proofs.Common.{◌≡◌, ℕ, ◌+◌, Bool, true, ◌&&◌, eqb, List, [], ◌∷◌, ◌++◌, refl, ap, ap₂, ◌∙◌}
use Rattle.std.proofs.lemmas.Bool.{and_parts, and_from}
use Rattle.sums.specs.Again.{times_told}
use Rattle.sums.specs.Sums.{pick, or, any, every, added_up, all_of, comes_up, Reading, Gauges, hour_of}
use Rattle.sums.specs.Sums as plain
use Rattle.protocol.specs.Entries.{entry_of_all, same_entry}
use Rattle.protocol_world.specs.Wall.{Told, told_sum, sums_told, is_right, has_told, all_told}
use Rattle.protocol_world.specs.Wall as records

-- the sums alone stand there as often
pub sums_times : (h k : ℕ) (ts : List Told) → times_told h k (sums_told ts) ≡ records.times_told h k ts
unfolding sums_told times_told records.times_told
sums_times h k [] = refl
sums_times h k (t ∷ ts) = ap (λ n. pick (eqb t.hour h && eqb t.place k) 1 0 + n) (sums_times h k ts)

-- WHAT IS TOLD, BY ITS SUMS
pub sums_last : (ts : List Told) (t : Told) → sums_told (ts ++ t ∷ []) ≡ sums_told ts ++ told_sum t ∷ []
unfolding sums_told
sums_last [] t = refl
sums_last (u ∷ ts) t = ap (λ xs. told_sum u ∷ xs) (sums_last ts t)

pub sums_none : sums_told [] ≡ []
unfolding sums_told
sums_none = refl

pub sums_has : (ts : List Told) (h k : ℕ) → plain.has_told (sums_told ts) h k ≡ has_told ts h k
unfolding sums_told any
sums_has [] h k = refl
sums_has (t ∷ ts) h k = ap (or (eqb t.hour h && eqb t.place k)) (sums_has ts h k)

pub sums_right : (gs : Gauges) (ts : List Told) → every (is_right gs) ts ≡ true → every (plain.is_right gs) (sums_told ts) ≡ true
unfolding sums_told every
sums_right gs [] e = refl
sums_right gs (t ∷ ts) e =
    let parts = and_parts (is_right gs t) (every (is_right gs) ts) e in
    let right = and_parts (comes_up gs t.hour t.place) (same_entry t.entry (entry_of_all gs t.hour t.place)) parts.0 in
    and_from (plain.is_right gs (told_sum t)) _
    (and_from (comes_up gs t.hour t.place) _ right.0 (and_parts (eqb t.entry.sum _) _ right.1).0)
    (sums_right gs ts parts.1)

every_alike : (f g : Reading → Bool) (xs : List Reading) → ((r : Reading) → f r ≡ g r) → every f xs ≡ every g xs
unfolding every
every_alike f g [] h = refl
every_alike f g (r ∷ rs) h = ap₂ (λ a b. a && b) (h r) (every_alike f g rs h)

pub sums_all : (gs : Gauges) (ts : List Told) → all_told gs ts ≡ true → plain.all_told gs (sums_told ts) ≡ true
sums_all gs ts e = every_alike (λ r. plain.has_told (sums_told ts) (hour_of r) r.key) (λ r. has_told ts (hour_of r) r.key) (all_of gs)
    (λ r. sums_has ts (hour_of r) r.key) ∙ e
