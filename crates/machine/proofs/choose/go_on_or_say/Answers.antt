use Rattle.std.proofs.Common.{◌≡◌, sym, subst}
use Rattle.protocol.specs.Limits.{crew}
use Rattle.gauge.specs.Views.{memory_of}
use Rattle.exchange.proofs.Found.{Below, due_below}
use Rattle.machine.proofs.choose.go_on_or_say.Goals as goal

pub send-requires : goal.send-requires
send-requires c = subst (Below crew) (sym c.in-Some.ensures) (due_below (memory_of c.args.memory.now))
