-- Which rows are asked for. Assumes nothing: these are definitions.
use Rattle.std.specs.Prelude.{ℕ, Bool, true, ◌&&◌, Some, None, Option, ◌==◌, nat_le, nat_lt}
use Rattle.sums.specs.Sums.{ToldSum}
use Rattle.wall_reader.specs.declared.asked.Filter.{Filter}
use Rattle.wall_reader.specs.declared.asked.Hours.{Hours}

-- this number, or any where none is asked for
abbrev pub is_asked : Option ℕ → ℕ → Bool
is_asked None n = true
is_asked (Some m) n = m == n

-- from the first hour up to the other, and not that other
abbrev pub is_within : Option Hours → ℕ → Bool
is_within None h = true
is_within (Some r) h = nat_le r.from h && nat_lt h r.to

abbrev pub lets_through : Filter → ToldSum → Bool
lets_through f t = is_asked f.hour t.hour && (is_asked f.place t.place && is_within f.hours t.hour)
