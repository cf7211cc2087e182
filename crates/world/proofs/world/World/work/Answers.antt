use Rattle.std.proofs.Common.{◌≡◌, suc, ◌+◌, ◌-◌, sym, ap, ◌∙◌, ap₂, arith, rules}
use Rattle.sums.specs.Readings.{as_gauges}
use Rattle.machine.specs.Entry.{own}
use Rattle.machine.specs.Run.{goes}
use Rattle.world.specs.Tallies.{next_counted, acts_counted}
use Rattle.world.specs.Worlds.{as_world}
use Rattle.world.proofs.Turning.{goes_at_rest, goes_fault, goes_step, went_on, went_not}
use Rattle.world.proofs.Tallying.{counted_fault, counted_step, counted_rest}
use Rattle.world.proofs.Shorts.{short_works}
use Rattle.world.proofs.world.World.work.Goals as goal

pub returns-then-self : goal.returns-then-self
returns-then-self c =
    let gs = as_gauges c.args.gauges.now in
    let w = as_world c.loop.self in
    let i = c.args.i in
    let w₀ = as_world c.args.self.now in
    let left = c.args.acts - c.loop.counter in
    let all : c.loop.counter + left ≡ c.args.acts = omega arith in
    let so_far = c.loop.invariant left in
    record {
      world = sym (goes_fault gs w i left c.if-self.true) ∙ so_far.0 ∙ ap (λ n. goes n own gs w₀ i) all;
      counts = sym (counted_fault gs w i left c.loop.self.tally.counts c.if-self.true) ∙ so_far.1
          ∙ ap (λ n. acts_counted n gs w₀ i c.args.self.now.tally.counts) all;
      short = tt;
    }

pub returns-then-not-branch : goal.returns-then-not-branch
returns-then-not-branch c =
    let gs = as_gauges c.args.gauges.now in
    let w = as_world c.loop.self in
    let i = c.args.i in
    let w₀ = as_world c.args.self.now in
    let left = c.args.acts - c.loop.counter in
    let all : c.loop.counter + left ≡ c.args.acts = omega arith in
    let cs = c.loop.self.tally.counts in
    let stayed = went_not gs w (as_world c.step.new.self) i c.in_ok-step.field-0 c.in_ok-step.ensures.world c.if-not-branch.true in
    let so_far = c.loop.invariant left in
    record {
      world = stayed.0 ∙ sym (goes_at_rest gs w i left stayed.1) ∙ so_far.0 ∙ ap (λ n. goes n own gs w₀ i) all;
      counts = c.in_ok-step.ensures.counts c.if-self.false ∙ ap (λ es. next_counted gs w i es cs) stayed.1
          ∙ sym (counted_rest gs w i left cs stayed.1) ∙ so_far.1 ∙ ap (λ n. acts_counted n gs w₀ i c.args.self.now.tally.counts) all;
      short = tt;
    }

pub loop-preserved : goal.loop-preserved
loop-preserved c more =
    let gs = as_gauges c.args.gauges.now in
    let w = as_world c.loop.self in
    let i = c.args.i in
    let w₀ = as_world c.args.self.now in
    let cs = c.loop.self.tally.counts in
    let one : c.loop.counter + suc more ≡ c.loop.counter + 1 + more = omega arith in
    let so_far = c.loop.invariant (suc more) in
    let stepped = went_on gs w (as_world c.step.new.self) i c.in_ok-step.field-0 c.in_ok-step.ensures.world c.if-not-branch.false in (
      ap (λ u. goes more own gs u i) stepped ∙ sym (goes_step gs w i more c.if-self.false) ∙ so_far.0 ∙ ap (λ n. goes n own gs w₀ i) one,
      ap₂ (λ u k. acts_counted more gs u i k) stepped (c.in_ok-step.ensures.counts c.if-self.false)
          ∙ sym (counted_step gs w i more cs c.if-self.false) ∙ so_far.1 ∙ ap (λ n. acts_counted n gs w₀ i c.args.self.now.tally.counts) one,
    )

pub returns : goal.returns
unfolding goes acts_counted
returns c =
    let gs = as_gauges c.args.gauges.now in
    let i = c.args.i in
    let w₀ = as_world c.args.self.now in
    let all : c.loop.counter + 0 ≡ c.args.acts = omega arith in
    let so_far = c.loop.invariant 0 in
    record {
      world = so_far.0 ∙ ap (λ n. goes n own gs w₀ i) all;
      counts = so_far.1 ∙ ap (λ n. acts_counted n gs w₀ i c.args.self.now.tally.counts) all;
      short = tt;
    }

pub returns-in_err-step-clause-short : goal.returns-in_err-step-clause-short
unfolding goes acts_counted
returns-in_err-step-clause-short c =
    let gs = as_gauges c.args.gauges.now in
    let w = c.args.self.now in
    let v = c.step.new.self in
    let so_far = c.loop.invariant 0 in
    let there : c.loop.counter + 0 ≡ c.loop.counter = omega arith in
    let short = short_works gs (as_world w) w.tally.counts (as_world v) v.tally.counts c.args.i c.args.acts c.loop.counter c.loop-test.true
    (c.in_err-step.ensures.unmoved.0 ∙ so_far.0 ∙ ap (λ n. goes n own gs (as_world w) c.args.i) there)
    (c.in_err-step.ensures.unmoved.1 ∙ so_far.1 ∙ ap (λ n. acts_counted n gs (as_world w) c.args.i w.tally.counts) there) in
    search (rules, short)
