use Rattle.std.proofs.Common.{◌≤◌, length, vec_items, sym, arith}
use Rattle.sums.specs.Sums.{each}
use Rattle.hut.specs.Played.{as_text}
use Rattle.sums.proofs.Eaches.{length_each}
use Rattle.promise.proofs.Machines.{set_past}
use Rattle.hut.proofs.Eaches.{each_set_nth}
use Rattle.hut.proofs.acts.put.Goals as goal

pub returns-in-Some : goal.returns-in-Some
returns-in-Some c = each_set_nth as_text _ _ _

pub returns-in_default : goal.returns-in_default
returns-in_default c =
    let v = c.args.drawers.now in
    let le : length (each as_text (vec_items v)) ≤ c.args.drawer = rw (length_each as_text (vec_items v)) (omega (arith, c.in_default.ensures.item, v.ok.0)) in
    sym (set_past _ _ _ le)
