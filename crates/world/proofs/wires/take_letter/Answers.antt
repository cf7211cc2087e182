use Rattle.std.proofs.Common.{vec_items, sym, ap, ◌∙◌}
use Rattle.sums.specs.Sums.{each}
use Rattle.world.specs.Posts.{as_letter}
use Rattle.world.proofs.Posting.{none_there, found_there, none_rest}
use Rattle.world.proofs.wires.take_letter.Goals as goal

pub returns-in_err-place : goal.returns-in_err-place
unfolding each
returns-in_err-place c =
    let none = none_there c.args.i c.args.j (vec_items c.args.wires.now) _ c.deref.ensures.value c.in_err-place.ensures in
    record { first = rw c.from_residual.ensures none; rest = sym (none_rest c.args.i c.args.j _ none) }

pub returns : goal.returns
unfolding each
returns c =
    let found = found_there c.args.i c.args.j (vec_items c.args.wires.now) _ c.deref.ensures.value c.in_ok-place.place c.remove.result c.in_ok-place.ensures c.remove.ensures.value in
    record { first = found.0; rest = ap (each as_letter) c.remove.ensures.items ∙ found.1 }
