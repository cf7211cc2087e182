use Rattle.std.proofs.Common.{◌≤◌, [], ◌∷◌, length, vec_items, sym, ap, ◌∙◌, ap₂}
use Rattle.sums.proofs.Eaches.{length_each}
use Rattle.machine.specs.Entry.{own}
use Rattle.machine.specs.Run.{set_nth, machine, machine_at, wakes}
use Rattle.hut.specs.Played.{as_machine}
use Rattle.world.specs.Worlds.{as_world}
use Rattle.promise.proofs.Machines.{set_past}
use Rattle.hut.proofs.Eaches.{each_set_nth}
use Rattle.world.proofs.Huts.{lent, none_lent}
use Rattle.world.proofs.world.World.fall.Goals as goal

pub returns-in-Some-clause-world : goal.returns-in-Some-clause-world
returns-in-Some-clause-world c =
    let w = c.args.self.now in
    let hs = vec_items w.huts in
    let i = c.args.i in
    let h = c.in-Some.hut.now in
    let seen = lent hs i c.in-Some.hut c.in-Some.ensures.item in
    ap₂ (λ ms ls. record { machines = ms; wires = ls; told = (as_world w).told; fault = w.fault })
    (each_set_nth as_machine hs i c.fall.new.self ∙ ap (set_nth (as_world w).machines i) c.fall.ensures
    ∙ ap (λ x. set_nth (as_world w).machines i (machine own.start (wakes i ∷ []) x.gone x.gone x.slots)) (sym seen))
    c.cut.ensures

pub returns-in_default-clause-world : goal.returns-in_default-clause-world
returns-in_default-clause-world c =
    let w = c.args.self.now in
    let i = c.args.i in
    let x = machine_at (as_world w).machines i in
    let far : length (as_world w).machines ≤ i = rw (length_each as_machine (vec_items w.huts)) (none_lent _ _ c.in_default.ensures.item) in
    ap₂ (λ ms ls. record { machines = ms; wires = ls; told = (as_world w).told; fault = w.fault })
    (sym (set_past (as_world w).machines i (machine own.start (wakes i ∷ []) x.gone x.gone x.slots) far)) c.cut.ensures
