use Rattle.std.proofs.Common.{◌≤◌, length, vec_items, refl, sym, ap, ◌∙◌}
use Rattle.machine.specs.Run.{with_machine}
use Rattle.hut.specs.Played.{as_machine}
use Rattle.world.specs.Worlds.{as_world}
use Rattle.world.proofs.Huts.{lent, none_lent, hut_set, hut_back, poked_rest, poked_busy, poked_past}
use Rattle.world.proofs.world.World.poke.Goals as goal

pub returns-in_default-clause-world : goal.returns-in_default-clause-world
returns-in_default-clause-world c =
    let w = c.args.self.now in
    let le : length (vec_items w.huts) ≤ c.args.i = none_lent _ _ c.in_default.ensures.item in
    sym (poked_past (vec_items w.huts) (as_world w) c.args.i le)

pub returns-then-rests-clause-world : goal.returns-then-rests-clause-world
returns-then-rests-clause-world c =
    let w = c.args.self.now in
    let hs = vec_items w.huts in
    let h = c.in-Some.hut.now in
    let seen = lent hs c.args.i c.in-Some.hut c.in-Some.ensures.item in
    hut_set hs (as_world w) c.args.i c.hear.new.self ∙ ap (with_machine (as_world w) c.args.i) c.hear.ensures
    ∙ sym (poked_rest (as_world w) c.args.i (as_machine h) seen (sym c.rests.ensures ∙ c.if-rests.true))

pub returns-else-rests-clause-world : goal.returns-else-rests-clause-world
returns-else-rests-clause-world c =
    let w = c.args.self.now in
    let hs = vec_items w.huts in
    let h = c.in-Some.hut.now in
    let seen = lent hs c.args.i c.in-Some.hut c.in-Some.ensures.item in
    hut_back hs (as_world w) c.args.i h _ seen refl ∙ sym (poked_busy (as_world w) c.args.i (as_machine h) seen (sym c.rests.ensures ∙ c.if-rests.false))
