-- How much calm is enough, by the gauges and the letters under way when it begins; a world in which nothing is left to do. Assumes nothing: these are
-- definitions.
use Rattle.std.specs.Prelude.{◌==◌, ◌≡◌, ℕ, suc, ◌+◌, ◌*◌, ◌<◌, not, false, List, [], ◌∷◌, length, None}
use Rattle.sums.specs.Sums.{pick, any, Gauges, Reading, hour_of, all_of}
use Rattle.machine.specs.Run.{nth_row}
use Rattle.protocol.specs.Limits.{crew, kept_pages}
use Rattle.protocol.specs.Reader.{is_reading}
use Rattle.protocol.specs.Searches.{sum_below}
use Rattle.protocol_world.specs.Worlds.{World}

-- how many different hours these readings are of
unfoldable pub hours_of : List Reading → ℕ
hours_of [] = 0
hours_of (r ∷ rs) = pick (not (any (λ q. hour_of q == hour_of r) rs)) 1 0 + hours_of rs

-- how many letters are under way
abbrev pub letters_on : World → ℕ
letters_on w = sum_below (λ a. sum_below (λ b. length (w.wire a b)) crew) crew

-- ACTS: so many are enough for a turn of a machine. With 8 pages kept they are 838 for each hour that comes up, 15 for each reading of its row, and 902.
abbrev pub enough_acts : Gauges → (machine : ℕ) → ℕ
enough_acts gs i = suc (838 * hours_of (all_of gs) + ((7 + kept_pages) * length (nth_row gs i) + (893 + kept_pages)))

-- ROUNDS: so many are enough, where so many letters are under way when calm begins. With 8 pages kept they are 6,704 for each hour that comes up, 15 for each
-- reading of all rows, 3 for each letter, and 7,209.
abbrev pub enough_rounds : Gauges → (letters : ℕ) → ℕ
enough_rounds gs letters = suc (crew * (838 * hours_of (all_of gs) + (893 + kept_pages)) + ((7 + kept_pages) * length (all_of gs) + 3 * letters))

-- no letter is under way, and all machines rest, none of them only because it has paused in its row
pub record Settled (w : World) : Type 0 where
  pub rest : (i : ℕ) → i < crew → (w.node i).pending ≡ None
  pub idle : (i : ℕ) → i < crew → is_reading (w.node i).memory.reader.stage ≡ false
  pub wires : (a b : ℕ) → a < crew → b < crew → w.wire a b ≡ []
