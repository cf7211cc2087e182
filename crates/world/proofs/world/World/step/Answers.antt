use Rattle.std.proofs.Common.{◌≡◌, ◌≤◌, [], length, set, vec_items, sym, refl, ap, ◌∙◌, ap₂, rules}
use Rattle.machine.specs.Run.{machine_at, nth_row}
use Rattle.rows.specs.Walls.{as_wall}
use Rattle.sums.specs.Sums.{each}
use Rattle.sums.specs.Readings.{as_gauges}
use Rattle.hut.specs.Played.{as_machine}
use Rattle.hut.specs.Effects.{posted}
use Rattle.hut.proofs.Stepping.{turned}
use Rattle.world.specs.Tallies.{counted, next_counted}
use Rattle.world.specs.Posts.{as_letter}
use Rattle.world.specs.Worlds.{as_world}
use Rattle.world.proofs.Huts.{lent, none_lent, hut_set, hut_back, hut_past}
use Rattle.world.proofs.Turning.{went, no_act, room_seen}
use Rattle.world.proofs.Tallying.{turn_counted}
use Rattle.world.proofs.world.World.step.Goals as goal

pub returns-in_default : goal.returns-in_default
returns-in_default c =
    let w = c.args.self.now in
    let le : length (vec_items w.huts) ≤ c.args.i = none_lent _ _ c.in_default.ensures.item in
    let rests : (machine_at (as_world w).machines c.args.i).pending ≡ [] = ap (λ x. x.pending) (hut_past (vec_items w.huts) c.args.i le) in
    record { world = (refl, rests); counts = λ _. sym (ap (λ es. next_counted (as_gauges c.args.gauges.now) (as_world w) c.args.i es w.tally.counts) rests); unmoved = tt }

pub returns-in_default-step : goal.returns-in_default-step
returns-in_default-step c =
    let w = c.args.self.now in
    let hs = vec_items w.huts in
    let h = c.in-Some.hut.now in
    let seen = lent hs c.args.i c.in-Some.hut c.in-Some.ensures.item in
    let rested = no_act _ _ _ (rw c.in_default-step.is at c.step.ensures) in
    let rests : (machine_at (as_world w).machines c.args.i).pending ≡ [] = ap (λ x. x.pending) seen ∙ rested in
    record {
      world = (hut_back hs (as_world w) c.args.i h _ seen refl, rests);
      counts = λ _. sym (ap (λ es. next_counted (as_gauges c.args.gauges.now) (as_world w) c.args.i es w.tally.counts) rests);
      unmoved = tt;
    }

pub post-requires : goal.post-requires
post-requires c = room_seen _ _ _ _ c.in-Some-step.act _ _ (rw c.in_ok-make_room.was at c.make_room.ensures.room) c.in_ok-effect.ensures.done.2

pub returns : goal.returns
returns c =
    let w = c.args.self.now in
    let hs = vec_items w.huts in
    let h = c.in-Some.hut.now in
    let seen = lent hs c.args.i c.in-Some.hut c.in-Some.ensures.item in
    let did = rw c.row_of-row.ensures at c.in_ok-effect.ensures.done in
    let done = rw c.in-Some-step.is at c.step.ensures in
    let gs = as_gauges c.args.gauges.now in
    let x = as_machine h in
    let x₁ = as_machine c.act.new.self in
    let turn = turned (nth_row gs c.args.i) c.args.i x x₁ c.in-Some-step.act c.step.new.desk _ _ refl done did in
    let roomy = ap₂ (λ rs ls. record { machines = each as_machine (set hs c.args.i c.act.new.self); wires = each as_letter ls; told = as_wall rs; fault = w.fault })
    c.make_room.ensures.told c.make_room.ensures.wires in
    record {
      world = c.post.ensures.world ∙ ap (λ u. posted u c.args.i c.in_ok-effect.effect) (roomy ∙ hut_set hs (as_world w) c.args.i c.act.new.self)
          ∙ went gs (as_world w) c.args.i x x₁ _ seen turn;
      counts = λ calm. c.count.ensures ∙ ap₂ counted c.post.ensures.counts c.from-kind.ensures
          ∙ sym (turn_counted gs (as_world w) c.args.i x x₁ c.in_ok-effect.effect w.tally.counts seen calm turn);
      unmoved = tt;
    }

pub returns-in_err-effect-clause-unmoved : goal.returns-in_err-effect-clause-unmoved
returns-in_err-effect-clause-unmoved c =
    let w = c.args.self.now in
    let seen = lent (vec_items w.huts) c.args.i c.in-Some.hut c.in-Some.ensures.item in
    let same = hut_back (vec_items w.huts) (as_world w) c.args.i c.act.new.self _ seen c.in_err-effect.ensures.unmoved in
    search (rules, same)
