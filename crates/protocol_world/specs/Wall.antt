-- Rows of the wall, as machines of records tell them. Assumes nothing: these are definitions.
use Rattle.std.specs.Prelude.{ℕ, ◌+◌, Bool, ◌&&◌, List, [], ◌∷◌, ◌==◌}
use Rattle.sums.specs.Sums.{pick, any, every, Gauges, ToldSum, hour_of, all_of, comes_up}
use Rattle.protocol.specs.Entries.{Entry, entry_of_all, same_entry}

-- a row: an hour, a place, and its entry
pub record Told : Type 0 where
  pub hour : ℕ
  pub place : ℕ
  pub entry : Entry

-- it comes up in the gauges, with this entry
abbrev pub is_right : Gauges → Told → Bool
is_right gs t = comes_up gs t.hour t.place && same_entry t.entry (entry_of_all gs t.hour t.place)

abbrev pub has_told : List Told → ℕ → ℕ → Bool
has_told ts h k = any (λ t. (t.hour == h) && t.place == k) ts

-- all that comes up is told
abbrev pub all_told : Gauges → List Told → Bool
all_told gs ts = every (λ r. has_told ts (hour_of r) r.key) (all_of gs)

-- how often the row of hour h and place k stands there
unfoldable pub times_told : (h k : ℕ) → List Told → ℕ
times_told h k [] = 0
times_told h k (t ∷ ts) = pick (t.hour == h && t.place == k) 1 0 + times_told h k ts

-- the sums alone, as the wall of the given world has them
abbrev pub told_sum : Told → ToldSum
told_sum t = record { hour = t.hour; place = t.place; sum = t.entry.sum }

unfoldable pub sums_told : List Told → List ToldSum
sums_told [] = []
sums_told (t ∷ ts) = told_sum t ∷ sums_told ts
