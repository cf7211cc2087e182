use Rattle.std.proofs.Common.{slice_set, ap, ◌+◌, get_or, arith}
use Rattle.gauge.proofs.Rows.{row_filled}
use Rattle.machine.proofs.boot.say_woke.Goals as goal

pub returns : goal.returns
returns c = let e = row_filled c.args.memory.now _ 54 8 1 (omega (arith, c.told-memory)) (c.fill.ensures.after (λ y e. e)) in simp e
