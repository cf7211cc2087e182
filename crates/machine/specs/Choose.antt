-- What a machine does when nothing is half done: the first that applies of reading on, telling, going on, sending and resting. Assumes nothing: these are
-- definitions.
use Rattle.std.specs.Prelude.{ℕ, cond, ◌&&◌, List, Some, None, Option, ◌==◌, slice_set}
use Rattle.protocol.specs.Adder.{next_slot}
use Rattle.protocol.specs.Bounds.{ready_hour}
use Rattle.protocol.specs.GoingOn.{may_go_on}
use Rattle.protocol.specs.Mail.{next_due}
use Rattle.gauge.specs.Memory.{at, begun, stage_at, paused_at}
use Rattle.gauge.specs.Views.{memory_of, stage_in}
use Rattle.gauge.specs.Deeds.{more, rests, Done, does}
use Rattle.gauge.specs.Gauge.{gone_on}
use Rattle.exchange.specs.Adder.{slot_told, hour_passed}
use Rattle.exchange.specs.Mail.{letter_sent}

-- hour h can be told: its next slot, or, if none is left, it is passed
abbrev pub told_next : List ℕ → (h : ℕ) → (slot : Option ℕ) → Done
told_next m h (Some s) = slot_told m h s
told_next m h None = hour_passed m h

abbrev pub sent_next : List ℕ → (to : Option ℕ) → Done
sent_next m (Some j) = letter_sent m j
sent_next m None = does (slice_set m paused_at 0) rests

abbrev pub chosen : List ℕ → (hour : Option ℕ) → Done
chosen m (Some h) = told_next m h (next_slot (memory_of m) h)
chosen m None = cond (may_go_on (memory_of m) (stage_in m)) (gone_on m) (sent_next m (next_due (memory_of m)))

abbrev pub chooses : List ℕ → Done
chooses m = cond (at m stage_at == begun && at m paused_at == 0) (does m more) (chosen m (ready_hour (memory_of m)))
