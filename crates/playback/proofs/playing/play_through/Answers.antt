use Rattle.std.proofs.Common.{sym, ◌∙◌, subst}
use Rattle.sums.specs.Readings.{as_gauges}
use Rattle.sums.proofs.Eaches.{length_each}
use Rattle.rows.specs.Walls.{as_told, as_wall}
use Rattle.world.specs.Worlds.{as_world}
use Rattle.std.specs.Io.KnownBytes.{Appends}
use Rattle.report.specs.Printed.{untold_text}
use Rattle.report.proofs.Oks.{on_ok}
use Rattle.playback.specs.Printed.{ShowsPlay}
use Rattle.playback.proofs.Shown.{play_shown}
use Rattle.playback.proofs.playing.play_through.Goals as goal

pub returns-clause-printed : goal.returns-clause-printed
returns-clause-printed g c =
    let gs = as_gauges c.args.gauges.now in
    let w = c.in_ok-world.world in
    let j = c.in_ok-judgement in
    let rest = j.judgement.comparison.untold in
    let old = g.W.Write.contents c.args.out.now in
    let told = g.W.Write.contents c.play_and_print.new.out in
    let both = g.W.Write.contents c.print_untold.new.out in
    let new = g.W.Write.contents c.summary.new.out in
    on_ok c.summary.result _ _
    (λ line. subst (λ u. ShowsPlay gs u old new) c.in_ok-world.ensures.world
    (play_shown gs (as_world w) (as_wall rest.items) _ _ _ _ j.ensures.untold (w.told.ok.0 ∙ sym (length_each as_told w.told.items)) j.ensures.wrong
    (rest.ok.0 ∙ sym (length_each as_told rest.items)) j.ensures.verdict old told both new c.in_ok-world.ensures.printed
    (subst (λ rs. Appends told both (untold_text (as_wall rs))) c.as_slice.ensures.value c.in_ok-print_untold.ensures) line))
    c.summary.ensures.printed
