use Rattle.std.proofs.Common.{◌≡◌, Bool, true, false, cond, set, refl, ap, ◌∙◌}
use mir.Val.{bool_byte}
use Rattle.gauge.specs.Memory.{row_in, filled_at}
use Rattle.machine.proofs.boot.note_filled.Goals as goal

number_is : (b : Bool) → bool_byte b ≡ cond b 1 0
number_is true = refl
number_is false = refl

pub returns : goal.returns
unfolding row_in
returns c =
    ap (λ n. set c.args.memory.now filled_at n) (c.from.ensures ∙ number_is c.has_reading.result ∙ ap (λ b. cond b 1 0) c.has_reading.ensures)
