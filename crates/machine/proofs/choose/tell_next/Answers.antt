use Rattle.std.proofs.Common.{◌≡◌, sym, subst}
use Rattle.sums.specs.Cells.{slots}
use Rattle.gauge.specs.Views.{memory_of}
use Rattle.exchange.proofs.Found.{Below, slot_below}
use Rattle.machine.proofs.choose.tell_next.Goals as goal

pub tell-requires-clause-slot : goal.tell-requires-clause-slot
tell-requires-clause-slot c = subst (Below slots) (sym c.in-Some.ensures) (slot_below (memory_of c.args.memory.now) c.args.hour)
