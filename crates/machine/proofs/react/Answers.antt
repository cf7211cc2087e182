use Rattle.std.proofs.Common.{[], refl}
use Rattle.std.proofs.lemmas.Bool.{lt-ltb}
use Rattle.gauge.specs.Memory.{at, me_at}
use Rattle.gauge.proofs.Longer.{did_longer}
use Rattle.machine.specs.Boot.{recalled}
use Rattle.machine.proofs.react.Goals as goal

pub returns-in-Slot : goal.returns-in-Slot
returns-in-Slot c =
    let m = c.args.memory.now in
    let did = did_longer (recalled m c.in-Slot.bytes.now) c.recall.result c.recall.new.memory c.args.out.now [] [] 0 refl (c.recall.ensures, refl) in
    rw (c.in-Slot.is, lt-ltb (at m me_at) 8 c.if-memory.false) (did, refl)
