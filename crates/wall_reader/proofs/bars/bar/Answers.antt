use Rattle.std.proofs.Common.{ℕ, ◌<◌, ◌≤◌, ◌*◌, ◌/◌, min, arith}
use Rattle.std.proofs.Math.Nat.{mul-le-mul_right, div-mul-le_self}
use Rattle.std.proofs.lemmas.Nat.{le-div}
use Rattle.std.proofs.lemmas.Grind.{common_steps}
use Rattle.wall_reader.proofs.bars.bar.Goals as goal

-- a sum that is no greater has no longer bar
grown : (less sum g w : ℕ) → less ≤ sum → 0 < g → min less g * w / g ≤ min sum g * w / g
grown less sum g w h some =
    let whole : min less g * w / g * g ≤ min less g * w = div-mul-le_self (min less g * w) g in
    let wider : min less g * w ≤ min sum g * w = mul-le-mul_right w (omega (arith, h)) in
    le-div (min less g * w / g) (min sum g * w) g some (omega (arith, whole, wider))

pub returns-clause-grows : goal.returns-clause-grows
returns-clause-grows c less h =
    let more = grown less c.args.sum c.args.greatest c.args.width h (omega arith) in
    grind (arith, common_steps)
