use Rattle.std.proofs.Common.{◌≡◌, ◌+◌, ◌-◌, [], ◌∷◌, ◌++◌, get_or, drop, vec_items, sym, ap, ◌∙◌, ap₂, append_assoc, append-nil}
use Rattle.std.proofs.lemmas.List.{drop_all, drop_more}
use Rattle.sums.specs.Readings.{as_gauges}
use Rattle.river.specs.declared.model.Item.TheVariants.{Works}
use Rattle.world.specs.Rounds.{written_out}
use Rattle.world.specs.Tallies.{all_counted, total_of}
use Rattle.world.specs.Worlds.{as_world, took_place}
use Rattle.play.specs.Scores.{acts_of_each}
use Rattle.play.proofs.score.acts_of.Goals as goal

pub loop-item-init : goal.loop-item-init
loop-item-init c =
    let gs = as_gauges c.args.gauges.now in
    ap (λ l. l ++ acts_of_each gs (as_world c.in_ok-world.world) c.in_ok-world.world.tally.counts c.args.items.now) c.new-acts.ensures.items
    ∙ ap₂ (λ w cs. acts_of_each gs w cs c.args.items.now) c.in_ok-world.ensures.world c.in_ok-world.ensures.counts

pub loop-item-preserved : goal.loop-item-preserved
unfolding acts_of_each
loop-item-preserved c =
    let gs = as_gauges c.args.gauges.now in
    let l = c.loop-item in
    let it = get_or c.args.items.now l.item-index (Works 0 0) in
    let rest = drop (l.item-index + 1) c.args.items.now in
    let w = as_world l.world in
    let cs = l.world.tally.counts in
    let old = vec_items l.acts in
    let u = c.happen.new.self in
    let happened = c.in_ok-happen.ensures in
    let n : c.saturating_sub.result ≡ total_of (all_counted gs w (written_out it) cs) - total_of cs =
    c.saturating_sub.ensures ∙ ap₂ (λ a b. a - b) (c.total.ensures ∙ ap total_of happened.counts) c.total-before.ensures in
    ap₂ (λ xs ys. xs ++ ys) c.in_ok-push.ensures.items (ap₂ (λ v k. acts_of_each gs v k rest) happened.world happened.counts)
    ∙ append_assoc old (c.saturating_sub.result ∷ []) (acts_of_each gs (took_place gs w it) (all_counted gs w (written_out it) cs) rest)
    ∙ ap (λ k. old ++ k ∷ acts_of_each gs (took_place gs w it) (all_counted gs w (written_out it) cs) rest) n
    ∙ ap (λ xs. old ++ acts_of_each gs w cs xs) (sym (drop_more c.args.items.now l.item-index (Works 0 0) c.loop-item-test.true)) ∙ l.invariant

pub returns : goal.returns
unfolding acts_of_each
returns c =
    let gs = as_gauges c.args.gauges.now in
    let l = c.loop-item in
    sym (append-nil (vec_items l.acts))
    ∙ ap (λ xs. vec_items l.acts ++ acts_of_each gs (as_world l.world) l.world.tally.counts xs) (sym (drop_all l.item-index c.args.items.now c.loop-item-test.false)) ∙ l.invariant
