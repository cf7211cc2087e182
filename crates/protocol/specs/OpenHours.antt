-- The tables of all hours that are open, by the hour. Assumes nothing: these are definitions.
use Rattle.std.specs.Prelude.{ℕ, suc, ◌+◌, ◌-◌, ◌/◌, ◌%◌, Some, None, Option, nat_le}
use Rattle.sums.specs.Sums.{pick, Reading, hour_of}
use Rattle.protocol.specs.Limits.{late, crew}
use Rattle.protocol.specs.Searches.{find, put}
use Rattle.protocol.specs.Tables.{Page, Tables, blank, with_page, taking, filled}

abbrev pub no_tables : ℕ → Tables
no_tables h = blank

abbrev pub taking_in : (ℕ → Tables) → Reading → ℕ → Tables
taking_in t r = put t (hour_of r) (taking (t (hour_of r)) r)

-- the oldest of the hours from f to f + late of which something has been taken in
abbrev pub hour_in : (f : ℕ) → Option ℕ → Option ℕ
hour_in f None = None
hour_in f (Some d) = Some (f + d)

abbrev pub oldest : (ℕ → Tables) → (f : ℕ) → Option ℕ
oldest t f = hour_in f (find (λ d. filled (t (f + d))) (suc late))

-- f, the first hour that is not done, once a reading of hour h has come: hours before h - late are done then
abbrev pub raised : (f h : ℕ) → ℕ
raised f h = pick (nat_le h (f + late)) f (h - late)

-- the sooner of an open hour, if there is one, and hour g
abbrev pub sooner : Option ℕ → ℕ → ℕ
sooner None g = g
sooner (Some d) g = pick (nat_le d g) d g

-- page q of those that a checkpoint keeps, where f is the first hour that is not done
abbrev pub page_at : (ℕ → Tables) → (f q : ℕ) → Page
page_at t f q = (t (f + q / crew)).page (q % crew)

-- it is set
abbrev pub with_page_at : (ℕ → Tables) → (f q : ℕ) → Page → ℕ → Tables
with_page_at t f q p = put t (f + q / crew) (with_page (t (f + q / crew)) (q % crew) p)
