use Rattle.std.proofs.Common.{◌≡◌, [], ◌∷◌, sym, subst, arith, rules}
use Rattle.sums.specs.Readings.{as_gauges}
use Rattle.machine.specs.Run.{up_to, brings, works}
use Rattle.world.specs.Rounds.{in_turn}
use Rattle.world.specs.Worlds.{as_world, Passed}
use Rattle.world.proofs.Unrolling.{in_turn_more}
use Rattle.world.proofs.Tallying.{passed_none, passed_both, passed_letter}
use Rattle.world.proofs.Shorts.{short_after, short_turn, passed_brought}
use Rattle.world.proofs.world.World.bring_all.Goals as goal

pub loop-i-init : goal.loop-i-init
unfolding in_turn up_to
loop-i-init c = passed_none (as_gauges c.args.gauges.now) (as_world c.args.self.now) c.args.self.now.tally.counts

pub loop-i-preserved : goal.loop-i-preserved
loop-i-preserved c =
    let gs = as_gauges c.args.gauges.now in
    let n = c.args.acts in
    let l = c.loop-i in
    let w = as_world c.args.self.now in
    let cs = c.args.self.now.tally.counts in
    let one = passed_letter gs (as_world l.self) (as_world c.deliver.new.self) (as_world c.work.new.self) l.self.tally.counts c.deliver.new.self.tally.counts c.work.new.self.tally.counts l.i c.args.j n
    c.deliver.ensures.world c.deliver.ensures.counts c.in_ok-work.ensures.world c.in_ok-work.ensures.counts in
    subst (λ its. Passed gs w cs its (as_world c.work.new.self) c.work.new.self.tally.counts) (sym (in_turn_more (λ i. brings i c.args.j ∷ works c.args.j n ∷ []) l.i))
    (passed_both gs w (as_world l.self) (as_world c.work.new.self) cs l.self.tally.counts c.work.new.self.tally.counts _ _ l.invariant one)

pub returns-clause-passed : goal.returns-clause-passed
returns-clause-passed c =
    let n = c.args.acts in
    let eight : c.loop-i.i ≡ 8 = omega arith in
    subst (λ k. Passed (as_gauges c.args.gauges.now) (as_world c.args.self.now) c.args.self.now.tally.counts (in_turn (λ i. brings i c.args.j ∷ works c.args.j n ∷ []) (up_to k)) (as_world c.loop-i.self) c.loop-i.self.tally.counts) eight c.loop-i.invariant

pub returns-in_err-work-clause-short : goal.returns-in_err-work-clause-short
returns-in_err-work-clause-short c =
    let gs = as_gauges c.args.gauges.now in
    let n = c.args.acts in
    let l = c.loop-i in
    let w = as_world c.args.self.now in
    let cs = c.args.self.now.tally.counts in
    let u = c.deliver.new.self in
    let v = c.work.new.self in
    let first = passed_brought gs (as_world l.self) (as_world c.deliver.new.self) l.self.tally.counts c.deliver.new.self.tally.counts l.i c.args.j c.deliver.ensures.world c.deliver.ensures.counts in
    let turn = short_after gs (as_world l.self) l.self.tally.counts (as_world v) v.tally.counts (as_world u) u.tally.counts (brings l.i c.args.j ∷ []) (works c.args.j n ∷ []) first c.in_err-work.ensures.short in
    let short = short_turn gs w cs (as_world v) v.tally.counts (as_world l.self) l.self.tally.counts (λ i. brings i c.args.j ∷ works c.args.j n ∷ []) l.i 8 c.loop-i-test.true l.invariant turn in
    search (rules, short)
