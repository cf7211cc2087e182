use Rattle.std.proofs.Common.{◌≡◌, false, [], ◌∷◌, ◌++◌, vec_items, sym, ap, ◌∙◌, ap₂, add-one, arith}
use Rattle.sums.specs.Sums.{each}
use Rattle.sums.proofs.Eaches.{each_push}
use Rattle.machine.specs.Entry.{own}
use Rattle.machine.specs.Run.{numbered}
use Rattle.rows.specs.Walls.{as_wall}
use Rattle.hut.specs.Played.{as_machine}
use Rattle.world.specs.Posts.{as_letter}
use Rattle.world.proofs.world.World.new.Goals as goal

pub loop-i-init : goal.loop-i-init
unfolding each numbered
loop-i-init c = ap (each as_machine) c.new-huts.ensures.items

pub loop-i-preserved : goal.loop-i-preserved
unfolding numbered
loop-i-preserved c =
    ap (each as_machine) c.in_ok-push.ensures.items ∙ each_push as_machine _ _
    ∙ ap₂ (λ ms x. ms ++ x ∷ []) c.loop-i.invariant c.in_ok-new.ensures ∙ ap (numbered own) (sym (add-one c.loop-i.i))

pub returns-clause-world : goal.returns-clause-world
unfolding each
returns-clause-world c =
    let eight : c.loop-i.i ≡ 8 = omega arith in
    let woken : each as_machine (vec_items c.loop-i.huts) ≡ numbered own 8 = c.loop-i.invariant ∙ ap (numbered own) eight in
    let quiet : each as_letter (vec_items c.new-3.result) ≡ [] = ap (each as_letter) c.new-3.ensures.items in
    let bare : as_wall (vec_items c.new-4.result) ≡ [] = ap as_wall c.new-4.ensures.items in
    (λ i. record { machines = woken i; wires = quiet i; told = bare i; fault = false })
