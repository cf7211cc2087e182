use Rattle.std.proofs.Common.{◌≡◌, not, refl, sym, ◌∙◌, ap, arith}
use Rattle.std.proofs.lemmas.Bool.{eq-eqb, ne_eqb}
use Rattle.protocol.specs.Searches.{find}
use Rattle.exchange.proofs.Searches.{none_next, first_is}
use Rattle.exchange.proofs.mail.first_due.Goals as goal

pub loop-machine-init : goal.loop-machine-init
unfolding find
loop-machine-init c = refl

pub loop-machine-preserved : goal.loop-machine-preserved
loop-machine-preserved c = none_next _ c.loop-machine.machine c.loop-machine.invariant (ap not (eq-eqb _ 0 c.if-due.false))

pub returns-then-due : goal.returns-then-due
returns-then-due c = sym (first_is _ 8 c.loop-machine.machine (omega arith) c.loop-machine.invariant (ap not (ne_eqb _ 0 c.if-due.true)))

pub returns : goal.returns
returns c = let eight : c.loop-machine.machine ≡ 8 = omega arith in sym (ap (find _) (sym eight) ∙ c.loop-machine.invariant)
