use Rattle.std.proofs.Common.{◌≡◌, ◌≤◌, true, List, ap, ◌∙◌, subst}
use Rattle.std.proofs.lemmas.Bool.{le-ltb}
use Rattle.std.proofs.lemmas.Result.{IfOk-weaker}
use Rattle.sums.specs.Again.{told_again}
use Rattle.sums.specs.Sums.{Gauges, all_told, every, gauges_fine, is_right, pick}
use Rattle.sums.specs.Readings.{as_gauges}
use Rattle.machine.specs.Run.{calm}
use Rattle.promise.specs.Promise.{Safe}
use Rattle.whole.proofs.Promised.{ever_whole, told_once}
use Rattle.whole.specs.Promises.{EverWhole}
use Rattle.river.specs.declared.model.Item.{Item}
use Rattle.world.specs.Worlds.{as_world}
use Rattle.play.specs.Plays.{played, unrolled}
use Rattle.play.specs.Scores.{all_strokes}
use Rattle.play.specs.Trials.{Scores}
use Rattle.play.specs.Verdicts.{verdict_of}
use Rattle.play.specs.declared.verdict.Verdict.TheVariants.{Fault, Wrong, Untold, Right}
use Rattle.play.proofs.trials.trial.Goals as goal

-- no more rows are told again than there are strokes
told_few : (gs : Gauges) (its : List Item) → gauges_fine gs ≡ true → told_again (played gs its).told ≤ all_strokes (unrolled its)
unfolding calm
told_few gs its = told_once gs (unrolled its) 0 0

pub returns : goal.returns
unfolding EverWhole Safe
returns c =
    let gs = as_gauges c.args.gauges.now in
    let its = c.args.items.now in
    let is : as_world c.in_ok-world.world ≡ played gs its = c.in_ok-world.ensures.world in
    record {
      verdict = IfOk-weaker c.outcome_of.result _ _ (λ t e. e ∙ ap (verdict_of gs) is) c.outcome_of.ensures.verdict;
      right = IfOk-weaker c.outcome_of.result _ _
          (λ t e fine.
          let safe = (ever_whole gs (unrolled its) fine).0 in
          let w = played gs its in
          let told = pick (all_told gs w.told) Right Untold in
          e ∙ ap (verdict_of gs) is ∙ ap (λ b. pick b Fault (pick (every (is_right gs) w.told) told Wrong)) safe.0 ∙ ap (λ b. pick b told Wrong) safe.1)
          c.outcome_of.ensures.verdict;
      rare = IfOk-weaker c.outcome_of.result _ _
          (λ t s fine.
          (subst (λ w. Scores gs (unrolled its) w t.score) is s).too_often ∙ ap (λ b. pick b 1 0) (le-ltb (all_strokes (unrolled its)) (told_again (played gs its).told) (told_few gs its fine)))
          c.outcome_of.ensures.score;
      score = IfOk-weaker c.outcome_of.result _ _ (λ t. subst (λ w. Scores gs (unrolled its) w t.score) is) c.outcome_of.ensures.score;
      refused = c.outcome_of.ensures.refused;
    }
