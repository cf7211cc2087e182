use Rattle.std.proofs.Common.{◌≡◌, [], replicate, vec_items, vec_len}
use Rattle.sums.specs.Readings.{as_gauges}
use Rattle.river.proofs.draft.Draft.new.Given as goal

abbrev pub invariant-loop : goal.invariant-loop
invariant-loop l = (vec_len l.gauges ≡ l.counter) × (as_gauges (vec_items l.gauges) ≡ replicate l.counter [])
