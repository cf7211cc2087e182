-- What a machine does when nothing is half done. Assumes nothing: these are definitions.
use Rattle.std.specs.Prelude.{ℕ, Some, None, Option}
use Rattle.sums.specs.Sums.{pick}
use Rattle.protocol.specs.Adder.{next_slot, tells_slot}
use Rattle.protocol.specs.Bounds.{ready_hour}
use Rattle.protocol.specs.GoingOn.{may_go_on, goes_on}
use Rattle.protocol.specs.Mail.{sends_next, next_due}
use Rattle.protocol.specs.Memory.{Memory}
use Rattle.protocol.specs.Phases.{ready, more, Reaction, does}
use Rattle.protocol.specs.Reader.{reads_on}

-- m is the hour that can be told, if there is one. Telling, and going on, come before sending: that makes most letters one
abbrev pub chooses_next : Memory → Option ℕ → Reaction
chooses_next b (Some m) = tells_slot b m (next_slot b m)
chooses_next b None = pick (may_go_on b b.reader.stage) (goes_on b) (sends_next b (next_due b))

-- the first of these that applies: ask for a reading, tell, go on, send, rest
abbrev pub chooses : Memory → Reaction
chooses b = pick (reads_on b.reader) (does ready b more) (chooses_next b (ready_hour b))
