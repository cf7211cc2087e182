use Rattle.std.proofs.Common.{subst}
use Rattle.sums.specs.Readings.{as_gauges}
use Rattle.play.specs.Plays.{played}
use Rattle.river.specs.Rivers.{as_told}
use Rattle.playback.specs.Printed.{ShowsPlay}
use Rattle.report.proofs.Oks.{on_ok}
use Rattle.playback.proofs.Shown.{played_safe}
use Rattle.playback.proofs.playing.play_file.Goals as goal

pub returns : goal.returns
returns g c =
    let r = c.in_ok-river.river in
    let fine = c.in_ok-river.ensures.fine in
    let gs = as_gauges r.gauges.items in
    let its = r.items.items in
    let old = g.W.Write.contents c.args.out.now in
    let new = g.W.Write.contents c.play_through.new.out in
    on_ok c.play_through.result _ _
    (λ h _. (
      as_told r,
      c.in_ok-river.ensures.told,
      played_safe gs its fine.0,
      subst (λ l. ShowsPlay (as_gauges l) (played (as_gauges l) its) old new) c.as_slice.ensures.value
          (subst (λ l. ShowsPlay (as_gauges c.as_slice.result.now) (played (as_gauges c.as_slice.result.now) l) old new) c.as_slice-else-stats.ensures.value h),
    ))
    c.play_through.ensures.printed
