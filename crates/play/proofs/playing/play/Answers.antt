use Rattle.std.proofs.Common.{get_or, sym, ◌∙◌, subst}
use Rattle.std.proofs.lemmas.List.{take_all}
use Rattle.sums.specs.Readings.{as_gauges}
use Rattle.machine.specs.Entry.{own}
use Rattle.machine.specs.Run.{all_happened, new_world}
use Rattle.promise.specs.Promise.{Safe}
use Rattle.whole.proofs.Promised.{ever_whole}
use Rattle.whole.specs.Promises.{EverWhole}
use Rattle.river.specs.declared.model.Item.TheVariants.{Works}
use Rattle.world.specs.Tallies.{none_counted, all_counted}
use Rattle.world.specs.Worlds.{as_world, Passed}
use Rattle.world.proofs.Unrolling.{took_written}
use Rattle.play.specs.Plays.{unrolled}
use Rattle.play.proofs.Unrolling.{passed_more}
use Rattle.play.proofs.playing.play.Goals as goal

pub loop-item-init : goal.loop-item-init
unfolding unrolled all_happened all_counted
loop-item-init c = record { world = c.in_ok-world.ensures.world; counts = c.in_ok-world.ensures.counts }

pub loop-item-preserved : goal.loop-item-preserved
loop-item-preserved c =
    let gs = as_gauges c.args.gauges.now in
    let l = c.loop-item in
    let it = get_or c.args.items.now l.item-index (Works 0 0) in
    let u = c.happen.new.self in
    passed_more gs (new_world own) none_counted (as_world l.world) (as_world u) l.world.tally.counts u.tally.counts c.args.items.now l.item-index (Works 0 0) c.loop-item-test.true
    l.invariant (record { world = c.in_ok-happen.ensures.world ∙ took_written gs (as_world l.world) it; counts = c.in_ok-happen.ensures.counts })

pub returns : goal.returns
unfolding EverWhole
returns c =
    let gs = as_gauges c.args.gauges.now in
    let u = c.loop-item.world in
    let all = subst (λ its. Passed gs (new_world own) none_counted (unrolled its) (as_world u) u.tally.counts) (take_all c.loop-item.item-index c.args.items.now c.loop-item-test.false)
    c.loop-item.invariant in
    record { world = all.world; counts = all.counts; right = λ fine. subst (Safe gs) (sym all.world) (ever_whole gs (unrolled c.args.items.now) fine).0 }
