use Rattle.std.proofs.Common.{◌≡◌, sym, subst, arith, rules}
use Rattle.sums.specs.Readings.{as_gauges}
use Rattle.machine.specs.Run.{up_to}
use Rattle.world.specs.Rounds.{in_turn, pokes, letters_to}
use Rattle.world.specs.Worlds.{as_world, Passed}
use Rattle.world.proofs.Unrolling.{in_turn_more}
use Rattle.world.proofs.Tallying.{passed_none, passed_both}
use Rattle.world.proofs.Shorts.{short_before, short_after, short_turn}
use Rattle.world.proofs.world.World.round.Goals as goal

pub loop-j-init : goal.loop-j-init
unfolding in_turn up_to
loop-j-init c = passed_none (as_gauges c.args.gauges.now) (as_world c.poke_all.new.self) c.poke_all.new.self.tally.counts

pub loop-j-preserved : goal.loop-j-preserved
loop-j-preserved c =
    let gs = as_gauges c.args.gauges.now in
    let n = c.args.acts in
    let l = c.loop-j in
    let v = c.poke_all.new.self in
    let u = c.bring_all.new.self in
    subst (λ its. Passed gs (as_world v) v.tally.counts its (as_world u) u.tally.counts) (sym (in_turn_more (letters_to n) l.j))
    (passed_both gs (as_world v) (as_world l.self) (as_world u) v.tally.counts l.self.tally.counts u.tally.counts _ _ l.invariant c.in_ok-bring_all.ensures.passed)

pub returns-clause-passed : goal.returns-clause-passed
returns-clause-passed c =
    let gs = as_gauges c.args.gauges.now in
    let n = c.args.acts in
    let w = c.args.self.now in
    let v = c.poke_all.new.self in
    let u = c.loop-j.self in
    let eight : c.loop-j.j ≡ 8 = omega arith in
    let letters = subst (λ k. Passed gs (as_world v) v.tally.counts (in_turn (letters_to n) (up_to k)) (as_world u) u.tally.counts) eight c.loop-j.invariant in
    passed_both gs (as_world w) (as_world v) (as_world u) w.tally.counts v.tally.counts u.tally.counts (pokes n) (in_turn (letters_to n) (up_to 8))
    c.in_ok-poke_all.ensures.passed letters

pub returns-in_err-poke_all-clause-short : goal.returns-in_err-poke_all-clause-short
returns-in_err-poke_all-clause-short c =
    let w = c.args.self.now in
    let v = c.poke_all.new.self in
    let short = short_before (as_gauges c.args.gauges.now) (as_world w) w.tally.counts (as_world v) v.tally.counts (pokes c.args.acts) (in_turn (letters_to c.args.acts) (up_to 8))
    c.in_err-poke_all.ensures.short in
    search (rules, short)

pub returns-in_err-bring_all-clause-short : goal.returns-in_err-bring_all-clause-short
returns-in_err-bring_all-clause-short c =
    let gs = as_gauges c.args.gauges.now in
    let n = c.args.acts in
    let w = c.args.self.now in
    let l = c.loop-j in
    let u = c.poke_all.new.self in
    let v = c.bring_all.new.self in
    let letters = short_turn gs (as_world u) u.tally.counts (as_world v) v.tally.counts (as_world l.self) l.self.tally.counts (letters_to n) l.j 8 c.loop-j-test.true l.invariant
    c.in_err-bring_all.ensures.short in
    let short = short_after gs (as_world w) w.tally.counts (as_world v) v.tally.counts (as_world u) u.tally.counts (pokes n) (in_turn (letters_to n) (up_to 8))
    c.in_ok-poke_all.ensures.passed letters in
    search (rules, short)
