use Rattle.std.proofs.Common.{◌≡◌, ◌<◌, ◌≤◌, Bool, true, false, length, get_or, vec_items, rules, sym, refl, ap, ◌∙◌, arith}
use Rattle.sums.specs.Sums.{none_of, or}
use Rattle.machine.specs.Run.{machine_at}
use Rattle.world.specs.Worlds.{as_world}
use Rattle.world.proofs.Huts.{hut_at, hut_past}
use Rattle.world.proofs.world.World.is_still.Goals as goal

or_true : (f : Bool) → true ≡ or f true
or_true true = refl
or_true false = refl

pub returns-else-self : goal.returns-else-self
returns-else-self c =
    let w = c.args.self.now in
    let hs = vec_items w.huts in
    let h = c.in-Some.hut.now in
    let lt : c.args.i < length hs = omega (arith, c.in-Some.ensures.lookup) in
    let is : h ≡ get_or hs c.args.i h = search rules in
    let seen = hut_at hs c.args.i h lt is in
    c.rests.ensures ∙ ap (λ m. none_of m.pending) (sym seen) ∙ ap (λ f. or f (none_of (machine_at (as_world w).machines c.args.i).pending)) (sym c.if-self.false)

pub returns-in-None : goal.returns-in-None
unfolding none_of
returns-in-None c =
    let w = c.args.self.now in
    let hs = vec_items w.huts in
    let le : length hs ≤ c.args.i = omega (arith, c.in-None.ensures.lookup) in
    or_true w.fault ∙ ap (λ m. or w.fault (none_of m.pending)) (sym (hut_past hs c.args.i le))
