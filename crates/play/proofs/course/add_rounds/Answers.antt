use Rattle.std.proofs.Common.{vec_items, sym, subst}
use Rattle.world.specs.Rounds.{a_round, all_rounds}
use Rattle.play.specs.Courses.{Grown}
use Rattle.world.proofs.Unrolling.{rounds_more}
use Rattle.play.proofs.Growing.{grown_none, grown_both}
use Rattle.play.proofs.course.add_rounds.Goals as goal

pub loop-init : goal.loop-init
unfolding all_rounds
loop-init c = grown_none (vec_items c.args.items.now)

pub loop-preserved : goal.loop-preserved
loop-preserved c =
    let k = c.loop.counter in
    let n = c.args.acts in
    let old = vec_items c.args.items.now in
    let more = vec_items c.add_round.new.items in
    subst (λ l. Grown old l more) (sym (rounds_more k n))
    (grown_both old (vec_items c.loop.items) more (all_rounds k n) (a_round n) c.loop.invariant c.in_ok-add_round.ensures)
