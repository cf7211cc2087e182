use Rattle.std.proofs.Common.{◌≡◌, ◌≤◌, ◌+◌, ◌*◌, ◌%◌, arith}
use Rattle.sums.specs.Readings.{as_gauges}
use Rattle.world.specs.Worlds.{as_world}
use Rattle.report.proofs.Oks.{on_ok}
use Rattle.playback.proofs.Told.{plays_idle, plays_acts, plays_still}
use Rattle.playback.proofs.stage.Stage.work.Goals as goal

pub loop-init : goal.loop-init
loop-init g c = plays_idle (as_gauges c.args.self.now.gauges.now) c.args.self.now.rows (as_world c.args.world.now) c.args.i (g.W.Write.contents c.args.out.now)

pub loop-preserved : goal.loop-preserved
loop-preserved g c =
    let more : c.loop.counter * 1048576 + 1048576 ≡ (c.loop.counter + 1) * 1048576 = omega arith in
    plays_acts (as_gauges c.args.self.now.gauges.now) c.args.self.now.rows (as_world c.args.world.now) (as_world c.loop.world) (as_world c.portion.new.world) c.args.i _ _ _ _ _ _ more
    c.loop.invariant c.in_ok-portion.ensures

pub returns-then-is_still : goal.returns-then-is_still
returns-then-is_still g c =
    let gs = as_gauges c.args.self.now.gauges.now in
    let rows = c.args.self.now.rows in
    let w = as_world c.args.world.now in
    let w₁ = as_world c.portion.new.world in
    let more : c.loop.counter * 1048576 + 1048576 ≡ (c.loop.counter + 1) * 1048576 = omega arith in
    let few : (c.loop.counter + 1) * 1048576 ≤ c.args.acts = omega arith in
    plays_still gs rows w w₁ c.args.i ((c.loop.counter + 1) * 1048576) c.args.acts _ _ few (cc)
    (plays_acts gs rows w (as_world c.loop.world) w₁ c.args.i _ _ _ _ _ _ more c.loop.invariant c.in_ok-portion.ensures)

pub returns : goal.returns
returns g c =
    let all : c.loop.counter * 1048576 + c.args.acts % 1048576 ≡ c.args.acts = omega arith in
    on_ok c.portion-2.result _ _
    (λ h. plays_acts (as_gauges c.args.self.now.gauges.now) c.args.self.now.rows (as_world c.args.world.now) (as_world c.loop.world) (as_world c.portion-2.new.world) c.args.i _ _ _ _ _ _ all
    c.loop.invariant h)
    c.portion-2.ensures
