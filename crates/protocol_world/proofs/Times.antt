-- Where times fall a little at most, no later reading's hour is more than late before an earlier one's; and times that never fall are such.
use Rattle.std.proofs.Common.{◌≡◌, ℕ, zero, suc, ◌+◌, ◌*◌, ◌<◌, ◌≤◌, true, leb, List, [], ◌∷◌, length, get_or, refl, arith}
use Rattle.std.proofs.lemmas.Bool.{leb-true, leb-false, le-leb, and_parts, and_from}
use Rattle.sums.specs.Parts.{no_reading}
use Rattle.sums.specs.Sums.{Reading, hour_of, rising}
use Rattle.sums.proofs.Picks.{pick_both}
use Rattle.protocol.specs.Limits.{late}
use Rattle.protocol_world.specs.Gauges.{later_of, hardly_falls}

later_left : (a b : ℕ) → a ≤ later_of a b
later_left a b = pick_both (leb a b) b a (λ n. a ≤ n) (λ e. leb-true a b e) (λ _. omega arith)

later_right : (a b : ℕ) → b ≤ later_of a b
later_right a b = pick_both (leb a b) b a (λ n. b ≤ n) (λ _. omega arith) (λ e. omega (arith, leb-false a b e))

late_one : (g : ℕ) (rs : List Reading) (j : ℕ) → hardly_falls g rs ≡ true → j < length rs → g ≤ (get_or rs j no_reading).time + 100 * late
unfolding hardly_falls
late_one g [] j e lt = absurd (omega arith)
late_one g (r ∷ rs) zero e lt = leb-true g (r.time + 100 * late) (and_parts (leb g (r.time + 100 * late)) _ e).0
late_one g (r ∷ rs) (suc j) e lt = omega (
  arith,
  later_left g r.time,
  late_one (later_of g r.time) rs j (and_parts (leb g (r.time + 100 * late)) _ e).1 (omega arith),
)

pub late_two : (g : ℕ) (rs : List Reading) (i j : ℕ) → hardly_falls g rs ≡ true → i ≤ j → j < length rs →
    (get_or rs i no_reading).time ≤ (get_or rs j no_reading).time + 100 * late
unfolding hardly_falls
late_two g [] i j e le lt = absurd (omega arith)
late_two g (r ∷ rs) zero zero e le lt = omega arith
late_two g (r ∷ rs) (suc i) zero e le lt = absurd (omega arith)
late_two g (r ∷ rs) zero (suc j) e le lt = omega (
  arith,
  later_right g r.time,
  late_one (later_of g r.time) rs j (and_parts (leb g (r.time + 100 * late)) _ e).1 (omega arith),
)
late_two g (r ∷ rs) (suc i) (suc j) e le lt = late_two (later_of g r.time) rs i j (and_parts (leb g (r.time + 100 * late)) _ e).1 (omega arith) (omega arith)

pub late_hour : (rs : List Reading) (i j : ℕ) → hardly_falls 0 rs ≡ true → i ≤ j → j < length rs →
    hour_of (get_or rs i no_reading) ≤ hour_of (get_or rs j no_reading) + late
late_hour rs i j e le lt = omega (arith, late_two 0 rs i j e le lt)

pub rising_late : (g : ℕ) (rs : List Reading) → rising rs ≡ true → (0 < length rs → g ≤ (get_or rs 0 no_reading).time) → hardly_falls g rs ≡ true
unfolding rising hardly_falls
rising_late g [] e le = refl
rising_late g (r ∷ []) e le = and_from (leb g (r.time + 100 * late)) true (le-leb g (r.time + 100 * late) (omega (arith, le (omega arith)))) refl
rising_late g (r ∷ s ∷ rs) e le =
    let first : r.time ≤ s.time = leb-true r.time s.time (and_parts (leb r.time s.time) _ e).0 in
    and_from (leb g (r.time + 100 * late)) _ (le-leb g (r.time + 100 * late) (omega (arith, le (omega arith))))
    (rising_late (later_of g r.time) (s ∷ rs) (and_parts (leb r.time s.time) _ e).1
    (λ _. pick_both (leb g r.time) r.time g (λ n. n ≤ s.time) (λ _. first) (λ f. omega (arith, leb-false g r.time f, first))))
