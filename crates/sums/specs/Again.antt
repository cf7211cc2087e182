-- Rows that stand on the wall more than once. Assumes nothing: these are definitions.
use Rattle.std.specs.Prelude.{ℕ, ◌+◌, ◌&&◌, List, [], ◌∷◌, ◌++◌, ◌==◌}
use Rattle.sums.specs.Sums.{pick, ToldSum, has_told}

-- how many rows are of an hour and a place that stood on the wall before them
unfoldable pub again_after : List ToldSum → List ToldSum → ℕ
again_after before [] = 0
again_after before (t ∷ ts) = pick (has_told before t.hour t.place) 1 0 + again_after (before ++ t ∷ []) ts

abbrev pub told_again : List ToldSum → ℕ
told_again ts = again_after [] ts

-- how often the row of hour h and place k stands on the wall
unfoldable pub times_told : (h k : ℕ) → List ToldSum → ℕ
times_told h k [] = 0
times_told h k (t ∷ ts) = pick (t.hour == h && t.place == k) 1 0 + times_told h k ts
