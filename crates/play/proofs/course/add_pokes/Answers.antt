use Rattle.std.proofs.Common.{[], ◌∷◌, vec_items, sym, refl, subst}
use Rattle.machine.specs.Run.{poke, works, up_to}
use Rattle.river.specs.declared.model.Item.TheVariants.{Poke, Works}
use Rattle.world.specs.Rounds.{in_turn}
use Rattle.play.specs.Courses.{Grown}
use Rattle.world.proofs.Unrolling.{in_turn_more}
use Rattle.play.proofs.Growing.{grown_none, grown_two, grown_both}
use Rattle.play.proofs.course.add_pokes.Goals as goal

pub loop-i-init : goal.loop-i-init
unfolding in_turn up_to
loop-i-init c = grown_none (vec_items c.args.items.now)

pub loop-i-preserved : goal.loop-i-preserved
loop-i-preserved c =
    let i = c.loop-i.i in
    let n = c.args.acts in
    let old = vec_items c.args.items.now in
    let here = vec_items c.loop-i.items in
    let one = vec_items c.push.new.self in
    let two = vec_items c.push-in-loop-i.new.self in
    let turn = grown_two here one two (Poke i) (Works i n) c.in_ok-push.ensures.items c.in_ok-push-2.ensures.items refl refl in
    subst (λ l. Grown old l two) (sym (in_turn_more (λ k. poke k ∷ works k n ∷ []) i))
    (grown_both old here two (in_turn (λ k. poke k ∷ works k n ∷ []) (up_to i)) (poke i ∷ works i n ∷ []) c.loop-i.invariant turn)
