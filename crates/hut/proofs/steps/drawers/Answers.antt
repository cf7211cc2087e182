use Rattle.std.proofs.Common.{[], ◌∷◌, ◌++◌, sym, ap, ◌∙◌, ap₂, add-one}
use Rattle.sums.specs.Sums.{each}
use Rattle.machine.specs.Run.{so_many_of}
use Rattle.hut.specs.Played.{as_text}
use Rattle.sums.proofs.Eaches.{each_push}
use Rattle.hut.proofs.Eaches.{so_many_push}
use Rattle.hut.proofs.steps.drawers.Goals as goal

pub loop-init : goal.loop-init
unfolding each so_many_of
loop-init c = ap (each as_text) c.new-drawers.ensures.items

pub loop-preserved : goal.loop-preserved
loop-preserved c =
    ap (each as_text) c.in_ok-push.ensures.items ∙ each_push as_text _ _
    ∙ ap₂ (λ xs x. xs ++ x ∷ []) c.loop.invariant c.empty.ensures
    ∙ sym (so_many_push c.loop.counter []) ∙ ap (λ n. so_many_of n []) (sym (add-one c.loop.counter))
