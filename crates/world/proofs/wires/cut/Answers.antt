use Rattle.std.proofs.Common.{rules, not, vec_items, sym, ap, ◌∙◌}
use Rattle.std.proofs.lemmas.Fn.{filter_same}
use Rattle.sums.specs.Sums.{each}
use Rattle.machine.specs.Run.{touches}
use Rattle.world.specs.Posts.{as_letter}
use Rattle.sums.proofs.Those.{those_each}
use Rattle.world.proofs.wires.cut.Goals as goal

pub returns : goal.returns
returns c =
    ap (each as_letter) (filter_same _ (λ l. not (touches c.args.i (as_letter l))) _ (λ x b f' k. search rules) _ _ c.retain.ensures.filtered)
    ∙ sym (those_each (λ l. not (touches c.args.i l)) as_letter (vec_items c.args.wires.now))
