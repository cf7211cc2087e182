use Rattle.std.proofs.Common.{◌≡◌, None}
use Rattle.protocol.specs.Searches.{find}
use Rattle.gauge.specs.Views.{memory_of}
use Rattle.exchange.proofs.mail.first_due.Given as goal

abbrev pub invariant-loop-machine : goal.invariant-loop-machine
invariant-loop-machine l = find (memory_of l.memory).mail.due l.machine ≡ None
