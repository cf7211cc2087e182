use Rattle.std.proofs.Common.{◌≡◌, ◌<◌, ◌≤◌, subst, refl, sym, ◌∙◌, ap, arith}
use Rattle.std.proofs.lemmas.Bool.{lt-ltb, le-ltb}
use Rattle.protocol.specs.Searches.{all_below}
use Rattle.exchange.proofs.Searches.{all_more, one_not}
use Rattle.exchange.proofs.mail.all_passed.Goals as goal

pub loop-machine-init : goal.loop-machine-init
unfolding all_below
loop-machine-init c = refl

pub loop-machine-preserved : goal.loop-machine-preserved
loop-machine-preserved c = all_more _ c.loop-machine.machine c.loop-machine.invariant (lt-ltb _ _ (subst (λ n. c.args.hour < n) c.passed.ensures c.if-not-past.false))

pub returns-then-not-past : goal.returns-then-not-past
returns-then-not-past c = sym (one_not _ 8 c.loop-machine.machine (omega arith) (le-ltb _ _ (subst (λ n. n ≤ c.args.hour) c.passed.ensures c.if-not-past.true)))

pub returns : goal.returns
returns c = let eight : c.loop-machine.machine ≡ 8 = omega arith in sym (ap (all_below _) (sym eight) ∙ c.loop-machine.invariant)
