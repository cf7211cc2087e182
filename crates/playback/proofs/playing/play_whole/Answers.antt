use Rattle.std.proofs.Common.{◌≡◌, Bool, true, false, not, sym, ap, ◌∙◌, subst}
use Rattle.sums.specs.Readings.{as_gauges}
use Rattle.machine.specs.Entry.{own}
use Rattle.machine.specs.Run.{all_happened}
use Rattle.promise.specs.Promise.{Safe}
use Rattle.world.specs.Worlds.{as_world}
use Rattle.play.specs.Plays.{unrolled}
use Rattle.playback.specs.Stages.{PlaysOn}
use Rattle.playback.proofs.Shown.{played_safe}
use Rattle.playback.proofs.playing.play_whole.Goals as goal

-- something is said, or nothing is
loud : (said silent : Bool) → silent ≡ not said → silent ≡ false → said ≡ false → ⊥
loud true silent e f g = cc
loud false silent e f g = cc

pub returns : goal.returns
returns g c =
    let gs = as_gauges c.args.gauges.now in
    let w = as_world c.in_ok-world.world in
    let u = as_world c.play-2.new.world in
    let its = unrolled c.args.items.now in
    let gauges_same = ap as_gauges c.new-2.ensures.gauges in
    let p = subst (λ hs. PlaysOn hs c.new-2.result.rows w its u (g.W.Write.contents c.args.out.now) (g.W.Write.contents c.play-2.new.out)) gauges_same c.in_ok-play-2.ensures in
    let all = p.world ∙ ap (λ v. all_happened own gs v its) c.in_ok-world.ensures.world in
    record { world = all; counts = λ quiet. absurd (loud c.args.progress.now.said c.is_silent.result c.is_silent.ensures c.if-is_silent.false quiet); right = λ fine. subst (Safe gs) (sym all) (played_safe gs c.args.items.now fine) }
