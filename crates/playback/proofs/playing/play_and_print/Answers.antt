use Rattle.std.proofs.Common.{◌++◌, sym, ap, ◌∙◌, subst, refl}
use Rattle.std.specs.Io.KnownBytes.{Appends}
use Rattle.sums.specs.Readings.{as_gauges}
use Rattle.machine.specs.Entry.{own}
use Rattle.machine.specs.Run.{all_happened, new_world}
use Rattle.world.specs.Worlds.{as_world}
use Rattle.play.specs.Plays.{unrolled}
use Rattle.report.specs.Printed.{wall_text}
use Rattle.playback.specs.Stages.{PlaysOn}
use Rattle.playback.proofs.playing.play_and_print.Goals as goal

pub returns : goal.returns
returns g c =
    let gs = as_gauges c.args.gauges.now in
    let old = g.W.Write.contents c.args.out.now in
    let new = g.W.Write.contents c.play.new.out in
    let w = as_world c.in_ok-world.world in
    let u = as_world c.play.new.world in
    let its = unrolled c.args.items.now in
    let gauges_same = ap as_gauges c.new-2.ensures.gauges in
    let p = subst (λ hs. PlaysOn hs c.new-2.result.rows w its u old new) gauges_same c.in_ok-play.ensures in
    let begun = c.in_ok-world.ensures.world in
    let told = p.told ∙ ap (λ v. v.told ++ p.more) begun in
    record { world = p.world ∙ ap (λ v. all_happened own gs v its) begun; printed = subst (λ ts. Appends old new (wall_text ts)) (sym told) (p.shown c.new-2.ensures.rows) }
