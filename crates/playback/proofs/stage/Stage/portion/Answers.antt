use Rattle.sums.specs.Readings.{as_gauges}
use Rattle.world.specs.Rounds.{written_out}
use Rattle.world.specs.Worlds.{as_world}
use Rattle.report.proofs.Oks.{on_ok}
use Rattle.playback.proofs.Told.{plays_kept}
use Rattle.playback.proofs.stage.Stage.portion.Goals as goal

pub returns : goal.returns
returns g c =
    on_ok c.tell.result _ _
    (plays_kept (as_gauges c.args.self.now.gauges.now) c.args.self.now.rows (as_world c.args.world.now) (as_world c.line.new.world) (written_out c.args.item) (g.W.Write.contents c.args.out.now)
    (g.W.Write.contents c.line.new.out) (g.W.Write.contents c.tell.new.out) c.in_ok-line.ensures)
    c.tell.ensures
