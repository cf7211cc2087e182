use Rattle.std.proofs.Common.{◌≡◌, true, ltb}
use Rattle.protocol.specs.Memory.{passed_of}
use Rattle.protocol.specs.Searches.{all_below}
use Rattle.gauge.specs.Views.{memory_of}
use Rattle.exchange.proofs.mail.all_passed.Given as goal

abbrev pub invariant-loop-machine : goal.invariant-loop-machine
invariant-loop-machine l = all_below (λ i. ltb l.hour (passed_of (memory_of l.memory) i)) l.machine ≡ true
