use Rattle.std.proofs.Common.{◌≡◌}
use Rattle.gauge.specs.Gauge.{read}
use Rattle.machine.proofs.Taken.{absorbed_is}
use Rattle.machine.proofs.handlers.absorb_reading.Goals as goal

pub returns : goal.returns
returns c =
    rw (absorbed_is c.args.memory.now c.read.new.memory (read c.args.memory.now c.args.time c.args.place c.args.value) _ c.in-Ok.ensures) c.choose.ensures
