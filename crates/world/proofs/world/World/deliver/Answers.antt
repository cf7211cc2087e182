use Rattle.std.proofs.Common.{◌≡◌, ◌≤◌, [], length, vec_items, set, refl, sym, ap, ◌∙◌, ap₂}
use Rattle.sums.specs.Sums.{each}
use Rattle.machine.specs.Run.{set_nth, first_between}
use Rattle.hut.specs.Played.{as_machine}
use Rattle.world.specs.Posts.{as_letter}
use Rattle.world.specs.Worlds.{as_world}
use Rattle.hut.proofs.Eaches.{each_set_nth}
use Rattle.world.proofs.Huts.{lent, none_lent, hut_back}
use Rattle.world.proofs.Posting.{none_rest}
use Rattle.world.proofs.Turning.{delivered_busy, delivered_none, delivered_some, delivered_past}
use Rattle.world.proofs.world.World.deliver.Goals as goal

pub returns-in_default-clause-world : goal.returns-in_default-clause-world
returns-in_default-clause-world c =
    let w = c.args.self.now in
    let le : length (vec_items w.huts) ≤ c.args.j = none_lent _ _ c.in_default.ensures.item in
    ap (λ ls. record { machines = (as_world w).machines; wires = ls; told = (as_world w).told; fault = w.fault }) c.take_letter-lost.ensures.rest
    ∙ sym (delivered_past (vec_items w.huts) (as_world w) c.args.i c.args.j le)

pub returns-then-not-rests-clause-world : goal.returns-then-not-rests-clause-world
returns-then-not-rests-clause-world c =
    let w = c.args.self.now in
    let hs = vec_items w.huts in
    let h = c.in-Some.hut.now in
    let seen = lent hs c.args.j c.in-Some.hut c.in-Some.ensures.item in
    hut_back hs (as_world w) c.args.j h _ seen refl
    ∙ sym (delivered_busy (as_world w) c.args.i c.args.j (as_machine h) seen (sym c.rests.ensures ∙ c.if-not-rests.true))

pub returns-in-Some-take_letter-clause-world : goal.returns-in-Some-take_letter-clause-world
unfolding each
returns-in-Some-take_letter-clause-world c =
    let w = c.args.self.now in
    let hs = vec_items w.huts in
    let j = c.args.j in
    let h = c.in-Some.hut.now in
    let seen = lent hs j c.in-Some.hut c.in-Some.ensures.item in
    ap₂ (λ ms ls. record { machines = ms; wires = ls; told = (as_world w).told; fault = w.fault })
    (each_set_nth as_machine hs j c.hear.new.self ∙ ap (set_nth (as_world w).machines j) c.hear.ensures) c.in-Some-take_letter.ensures.rest
    ∙ sym (delivered_some (as_world w) c.args.i j (as_machine h) seen (sym c.rests.ensures ∙ c.if-not-rests.false) (as_letter c.in-Some-take_letter.letter) [] c.in-Some-take_letter.ensures.first)

pub returns-in_default-take_letter-clause-world : goal.returns-in_default-take_letter-clause-world
unfolding each
returns-in_default-take_letter-clause-world c =
    let w = c.args.self.now in
    let hs = vec_items w.huts in
    let j = c.args.j in
    let h = c.in-Some.hut.now in
    let seen = lent hs j c.in-Some.hut c.in-Some.ensures.item in
    let none : first_between c.args.i j (each as_letter (vec_items w.wires)) ≡ [] = c.in_default-take_letter.ensures.first in
    ap (λ ls. record { machines = each as_machine (set hs j h); wires = ls; told = (as_world w).told; fault = w.fault })
    (c.in_default-take_letter.ensures.rest ∙ none_rest c.args.i j (each as_letter (vec_items w.wires)) none)
    ∙ hut_back hs (as_world w) j h _ seen refl
    ∙ sym (delivered_none (as_world w) c.args.i j (as_machine h) seen (sym c.rests.ensures ∙ c.if-not-rests.false) none)
