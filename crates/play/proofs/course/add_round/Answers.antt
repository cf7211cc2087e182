use Rattle.std.proofs.Common.{◌≡◌, vec_items, sym, subst, arith}
use Rattle.machine.specs.Run.{up_to}
use Rattle.world.specs.Rounds.{in_turn, pokes, letters_to}
use Rattle.play.specs.Courses.{Grown}
use Rattle.world.proofs.Unrolling.{in_turn_more}
use Rattle.play.proofs.Growing.{grown_none, grown_both}
use Rattle.play.proofs.course.add_round.Goals as goal

pub loop-j-init : goal.loop-j-init
unfolding in_turn up_to
loop-j-init c = grown_none (vec_items c.add_pokes.new.items)

pub loop-j-preserved : goal.loop-j-preserved
loop-j-preserved c =
    let j = c.loop-j.j in
    let n = c.args.acts in
    let old = vec_items c.add_pokes.new.items in
    let more = vec_items c.add_letters.new.items in
    subst (λ l. Grown old l more) (sym (in_turn_more (letters_to n) j))
    (grown_both old (vec_items c.loop-j.items) more (in_turn (letters_to n) (up_to j)) (letters_to n j) c.loop-j.invariant c.in_ok-add_letters.ensures)

pub returns : goal.returns
returns c =
    let n = c.args.acts in
    let eight : c.loop-j.j ≡ 8 = omega arith in
    let letters = subst (λ k. Grown (vec_items c.add_pokes.new.items) (in_turn (letters_to n) (up_to k)) (vec_items c.loop-j.items)) eight c.loop-j.invariant in
    grown_both (vec_items c.args.items.now) (vec_items c.add_pokes.new.items) (vec_items c.loop-j.items) (pokes n) (in_turn (letters_to n) (up_to 8))
    c.in_ok-add_pokes.ensures letters
