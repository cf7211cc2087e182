-- Where an adder goes on, after what it told last; and when that is no sooner than before.
use Rattle.std.proofs.Common.{◌≡◌, ℕ, suc, ◌<◌, ◌≤◌, ◌⊎◌, ◌∙◌, inl, inr, arith}
use Rattle.sums.specs.Sums.{Gauges}
use Rattle.protocol.specs.Memory.{Cursor}
use Rattle.protocol.specs.Phases.{Phase, asleep, asks_root, asks_page, asks_cursor, placing, placed, ready, noting, saving}
use Rattle.protocol_world.specs.Worlds.{Node}
use Rattle.protocol_world.proofs.Invariant.{Before}

abbrev pub front_by : Phase → Cursor → Cursor
front_by asleep c = c
front_by asks_root c = c
front_by (asks_page q) c = c
front_by asks_cursor c = c
front_by placing c = c
front_by placed c = c
front_by ready c = c
front_by (noting m s) c = record { hour = m; slot = suc s }
front_by (saving q) c = c

abbrev pub front : Node → Cursor
front x = front_by x.phase x.cursor

abbrev pub AtOrBefore : Cursor → Cursor → Type 0
AtOrBefore c d = (c.hour < d.hour) ⊎ ((c.hour ≡ d.hour) × (c.slot ≤ d.slot))

module _ (gs : Gauges) where
  pub before_more : (g k : ℕ) (c d : Cursor) → AtOrBefore c d → Before gs g k c.hour c.slot → Before gs g k d.hour d.slot
  before_more g k c d (inl l) (inl b) = inl (omega arith)
  before_more g k c d (inl l) (inr b) = inl (omega (arith, b.0))
  before_more g k c d (inr l) (inl b) = inl (omega (arith, l.0))
  before_more g k c d (inr l) (inr b) = inr (b.0 ∙ l.0, omega (arith, b.1, l.1))
