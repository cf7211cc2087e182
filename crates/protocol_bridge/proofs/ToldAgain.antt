-- How often rows are told again, with an engine that implements the machine of records.
use Rattle.std.proofs.Common.{ℕ, ◌≤◌, List, sym, subst}
use Rattle.sums.specs.Again.{told_again}
use Rattle.sums.specs.Sums.{Gauges}
use Rattle.machine.specs.Run.{Engine}
use Rattle.machine.specs.Run as given
use Rattle.protocol_world.proofs.Safety.{Known}
use Rattle.protocol_world.proofs.ToldAgain.{strokes}
use Rattle.protocol_world.proofs.ToldAgain as exact
use Rattle.protocol_bridge.specs.Engines.{Code, Implements}
use Rattle.protocol_bridge.proofs.Engines.{then_is}

-- rows are told again at most as often as machines are struck, and in calm none is
pub told_again_by : (c : Code) (e : Engine) → Implements c e → (gs : Gauges) → Known gs → (is : List given.Item) (k n : ℕ) →
    told_again (given.calm k n e gs (given.all_happened e gs (given.new_world e) is)).told ≤ strokes is
told_again_by c e imp gs known is k n = subst (λ ts. told_again ts ≤ strokes is) (sym (then_is c e imp gs known is k n).told) (exact.told_once gs known is k n)
