use Rattle.std.proofs.Common.{◌≡◌, true, [], get_or, take, vec_items, sym, refl, ap, ◌∙◌, subst}
use Rattle.std.proofs.lemmas.List.{take_all, take_more}
use Rattle.sums.specs.Sums.{every}
use Rattle.river.specs.declared.model.Item.TheVariants.{Works}
use Rattle.world.specs.Rounds.{written_out}
use Rattle.play.specs.Plays.{unrolled}
use Rattle.play.specs.Courses.{Grown}
use Rattle.play.proofs.Unrolling.{unrolled_one}
use Rattle.play.proofs.Limits.{limited, unrolled_limited, plain_fine}
use Rattle.play.proofs.Growing.{grown_none, grown_both}
use Rattle.play.proofs.course.plain.Goals as goal

pub loop-item-init : goal.loop-item-init
unfolding unrolled
loop-item-init c = subst (Grown [] []) (sym c.new-out.ensures.items) (grown_none [])

pub loop-item-preserved : goal.loop-item-preserved
loop-item-preserved c =
    let i = c.loop-item.item-index in
    let xs = c.args.items.now in
    let it = get_or xs i (Works 0 0) in
    let more = vec_items c.add_plain.new.items in
    let one = ap unrolled (take_more xs i (Works 0 0) c.loop-item-test.true) ∙ unrolled_one (take i xs) it in
    subst (λ l. Grown [] l more) (sym one)
    (grown_both [] (vec_items c.loop-item.out) more (unrolled (take i xs)) (written_out it) c.loop-item.invariant c.in_ok-add_plain.ensures)

pub returns : goal.returns
unfolding unrolled every
returns c =
    let all = take_all c.loop-item.item-index c.args.items.now c.loop-item-test.false in
    let same = c.loop-item.invariant.same ∙ ap unrolled all in
    let plain = c.loop-item.invariant.plain refl in
    let out = vec_items c.loop-item.out in
    record {
      same = same;
      plain = plain;
      fine = λ e. plain_fine out plain (subst (λ l. every limited l ≡ true) (sym same) (unrolled_limited c.args.items.now e));
    }
