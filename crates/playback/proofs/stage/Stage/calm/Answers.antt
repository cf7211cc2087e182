use Rattle.std.proofs.Common.{◌≡◌, subst, ap, ◌∙◌, sym, arith}
use Rattle.sums.specs.Readings.{as_gauges}
use Rattle.world.specs.Rounds.{all_rounds, a_round}
use Rattle.world.specs.Worlds.{as_world}
use Rattle.play.specs.Plays.{unrolled}
use Rattle.playback.specs.Stages.{PlaysOn}
use Rattle.playback.proofs.Told.{plays_none, plays_round}
use Rattle.playback.proofs.stage.Stage.calm.Goals as goal

pub loop-init : goal.loop-init
unfolding all_rounds
loop-init g c = plays_none (as_gauges c.args.self.now.gauges.now) c.args.self.now.rows (as_world c.args.world.now) (g.W.Write.contents c.args.out.now)

pub loop-preserved : goal.loop-preserved
loop-preserved g c =
    let gs = as_gauges c.args.self.now.gauges.now in
    let rows = c.args.self.now.rows in
    let w₁ = as_world c.loop.world in
    let w₂ = as_world c.turns.new.world in
    let b = g.W.Write.contents c.loop.out in
    let d = g.W.Write.contents c.turns.new.out in
    plays_round gs rows (as_world c.args.world.now) w₁ w₂ c.loop.counter c.args.acts _ b d c.loop.invariant
    (subst (λ l. PlaysOn gs rows w₁ l w₂ b d) (ap unrolled c.as_slice.ensures.value ∙ c.in_ok-round.ensures) c.in_ok-turns.ensures)

pub returns : goal.returns
returns g c =
    let all : c.loop.counter ≡ c.args.rounds = omega arith in
    subst (λ k. PlaysOn (as_gauges c.args.self.now.gauges.now) c.args.self.now.rows (as_world c.args.world.now) (all_rounds k c.args.acts) (as_world c.loop.world) (g.W.Write.contents c.args.out.now)
    (g.W.Write.contents c.loop.out)) all c.loop.invariant
