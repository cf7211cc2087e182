use Rattle.std.proofs.Common.{refl, ◌∙◌, ap₂, subst, drop, arith}
use Rattle.std.specs.Io.KnownBytes.{Appends}
use Rattle.sums.specs.Readings.{as_gauges}
use Rattle.rows.specs.Walls.{as_wall}
use Rattle.world.specs.Worlds.{as_world}
use Rattle.report.specs.Printed.{wall_text}
use Rattle.report.proofs.Oks.{on_ok}
use Rattle.playback.proofs.Told.{item_on, still_there, plays_item}
use Rattle.playback.proofs.stage.Stage.line.Goals as goal

pub show-requires : goal.show-requires
show-requires g c =
    let w = c.args.world.now in
    let u = c.happen.new.self in
    let there = still_there w.told.items u.told.items (item_on (as_gauges c.args.self.now.gauges.now) (as_world w) (as_world u) c.args.item c.in_ok-happen.ensures.world) in
    omega (arith, there, c.len-shown.ensures, w.told.ok.0, c.as_slice.ensures.len, u.told.ok.0)

pub returns : goal.returns
returns g c =
    let w = c.args.world.now in
    let u = c.happen.new.self in
    let a = g.W.Write.contents c.args.out.now in
    let b = g.W.Write.contents c.show.new.out in
    on_ok c.show.result _ _
    (λ h. plays_item (as_gauges c.args.self.now.gauges.now) c.args.self.now.rows (as_world w) (as_world u) c.args.item w.told.items u.told.items a b c.in_ok-happen.ensures.world refl refl
    (λ r. subst (λ rs. Appends a b (wall_text (as_wall rs))) (ap₂ drop (c.len-shown.ensures ∙ w.told.ok.0) c.as_slice.ensures.value) (h r)))
    c.show.ensures
