-- A chart of the rows of one place. Assumes nothing: these are definitions.
use Rattle.std.specs.Prelude.{◌≡◌, ℕ, ◌+◌, ◌*◌, ◌/◌, ◌<◌, min, max, Bool, true, false, cond, List, [], ◌∷◌, length, Some, None, Ok, Err, vec_items, Option, Result, Vec, ◌==◌, nat_lt}
use Rattle.sums.specs.Sums.{any, every, ToldSum}
use Rattle.wall_reader.specs.declared.bars.ChartMistake.{ChartMistake}
use Rattle.wall_reader.specs.declared.bars.ChartMistake.TheVariants.{NoRows, Places, Memory}
use Rattle.wall_reader.specs.declared.bars.Mark.{Mark}
use Rattle.wall_reader.specs.declared.bars.Mark.TheVariants.{Gap, Bar}

-- the floor of sum * width / greatest, where the sum is not above the greatest; nothing where that is 0
abbrev pub bar_of : (sum greatest width : ℕ) → ℕ
bar_of s g w = cond (g == 0) 0 (min s g * w / g)

unfoldable pub greatest_of : List ToldSum → ℕ
greatest_of [] = 0
greatest_of (t ∷ ts) = max t.sum (greatest_of ts)

abbrev pub of_place : ℕ → ToldSum → Bool
of_place k t = t.place == k

abbrev pub begins : ℕ → List ToldSum → Bool
begins k [] = false
begins k (t ∷ ts) = of_place k t

-- all rows are of this place, or there are none, or the first is of one place and one of another
abbrev pub OnePlace : List ToldSum → ℕ → Type 0
OnePlace ts k = (0 < length ts) × (every (of_place k) ts ≡ true)

abbrev pub TwoPlaces : List ToldSum → (k j : ℕ) → Type 0
TwoPlaces ts k j = (begins k ts ≡ true) × (any (of_place j) ts ≡ true) × ((j == k) ≡ false)

abbrev pub PlaceSays : List ToldSum → Result ℕ ChartMistake → Type 0
PlaceSays ts (Ok k) = OnePlace ts k
PlaceSays ts (Err NoRows) = length ts ≡ 0
PlaceSays ts (Err (Places k j)) = TwoPlaces ts k j
PlaceSays ts (Err Memory) = ⊥

-- hours are missing between the one before and this one
abbrev pub is_gap : Option ℕ → ℕ → Bool
is_gap None h = false
is_gap (Some b) h = nat_lt (b + 1) h

abbrev pub gap_then : Bool → List Mark → List Mark
gap_then true ms = Gap ∷ ms
gap_then false ms = ms

-- a bar for each row, up to 50 long, and a gap before it where hours are missing
unfoldable pub marks_of : (greatest : ℕ) → Option ℕ → List ToldSum → List Mark
marks_of g before [] = []
marks_of g before (t ∷ ts) = gap_then (is_gap before t.hour) (Bar t.hour (bar_of t.sum g 50) t.sum ∷ marks_of g (Some t.hour) ts)

abbrev pub ChartSays : {Z : Type 0} → List ToldSum → Result (Vec Mark Z) ChartMistake → Type 0
ChartSays ts (Ok v) = ((k : ℕ) × OnePlace ts k) × (vec_items v ≡ marks_of (greatest_of ts) None ts)
ChartSays ts (Err NoRows) = length ts ≡ 0
ChartSays ts (Err (Places k j)) = TwoPlaces ts k j
ChartSays ts (Err Memory) = Unit {0}
