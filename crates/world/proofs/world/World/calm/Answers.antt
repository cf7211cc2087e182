use Rattle.std.proofs.Common.{◌≡◌, sym, subst, arith, rules}
use Rattle.sums.specs.Readings.{as_gauges}
use Rattle.world.specs.Rounds.{all_rounds}
use Rattle.world.specs.Worlds.{as_world, Passed}
use Rattle.world.proofs.Unrolling.{rounds_more}
use Rattle.world.proofs.Tallying.{passed_none, passed_both}
use Rattle.world.proofs.Shorts.{short_round}
use Rattle.world.proofs.world.World.calm.Goals as goal

pub loop-init : goal.loop-init
unfolding all_rounds
loop-init c = passed_none (as_gauges c.args.gauges.now) (as_world c.args.self.now) c.args.self.now.tally.counts

pub loop-preserved : goal.loop-preserved
loop-preserved c =
    let gs = as_gauges c.args.gauges.now in
    let n = c.args.acts in
    let w = c.args.self.now in
    let l = c.loop in
    let u = c.round.new.self in
    subst (λ its. Passed gs (as_world w) w.tally.counts its (as_world u) u.tally.counts) (sym (rounds_more l.counter n))
    (passed_both gs (as_world w) (as_world l.self) (as_world u) w.tally.counts l.self.tally.counts u.tally.counts _ _ l.invariant c.in_ok-round.ensures.passed)

pub returns-clause-passed : goal.returns-clause-passed
returns-clause-passed c =
    let gs = as_gauges c.args.gauges.now in
    let n = c.args.acts in
    let w = c.args.self.now in
    let u = c.loop.self in
    let all : c.loop.counter ≡ c.args.rounds = omega arith in
    subst (λ k. Passed gs (as_world w) w.tally.counts (all_rounds k n) (as_world u) u.tally.counts) all c.loop.invariant

pub returns-in_err-round-clause-short : goal.returns-in_err-round-clause-short
returns-in_err-round-clause-short c =
    let gs = as_gauges c.args.gauges.now in
    let w = c.args.self.now in
    let l = c.loop in
    let v = c.round.new.self in
    let short = short_round gs (as_world w) w.tally.counts (as_world v) v.tally.counts (as_world l.self) l.self.tally.counts c.args.acts l.counter c.args.rounds
    c.loop-test.true l.invariant c.in_err-round.ensures.short in
    search (rules, short)
