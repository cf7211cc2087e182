-- Gauges whose times may fall a little. Assumes nothing: these are definitions.
use Rattle.std.specs.Prelude.{ℕ, ◌+◌, ◌*◌, Bool, true, ◌&&◌, List, [], ◌∷◌, length, ◌==◌, nat_le}
use Rattle.sums.specs.Sums.{pick, every, Reading, Gauges, a_reading}
use Rattle.protocol.specs.Limits.{late}

-- the later of two times
abbrev pub later_of : ℕ → ℕ → ℕ
later_of a b = pick (nat_le a b) b a

-- a row: no time is more than `late` hours behind the greatest before it; g is the greatest so far
unfoldable pub hardly_falls : (g : ℕ) → List Reading → Bool
hardly_falls g [] = true
hardly_falls g (r ∷ rs) = nat_le g (r.time + 100 * late) && hardly_falls (later_of g r.time) rs

-- eight such rows of readings, none of more than 2^28 (where `late` is 0, just the given gauges)
abbrev pub gauges_late : Gauges → Bool
gauges_late gs = length gs == 8 && every (λ rs. hardly_falls 0 rs && (every a_reading rs && nat_le (length rs) 268435456)) gs
