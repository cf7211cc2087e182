use Rattle.std.proofs.Common.{◌≡◌, Bool, true, false, vec_items, sym, refl, ap, ◌∙◌, ap₂, nat_lt}
use mir.Val.{bool_byte}
use Rattle.sums.specs.Again.{told_again}
use Rattle.sums.specs.Sums.{pick}
use Rattle.sums.proofs.Eaches.{length_each}
use Rattle.rows.specs.Walls.{as_told, as_wall}
use Rattle.play.proofs.trials.outcome_of.Goals as goal

one_or_none : (b : Bool) → bool_byte b ≡ pick b 1 0
one_or_none true = refl
one_or_none false = refl

pub returns-clause-score : goal.returns-clause-score
returns-clause-score c =
    let told = c.args.world.now.told in
    let again = c.in_ok-again.ensures ∙ ap (λ l. told_again (as_wall l)) c.as_slice.ensures.value in
    let judged = c.in_ok-verdict.ensures in
    let rows = c.in_ok-verdict.field-0.comparison.untold in
    record {
      worlds = refl;
      readings = c.count_readings.ensures;
      told = c.len.ensures ∙ told.ok.0 ∙ sym (length_each as_told (vec_items told));
      again = again;
      too_often = c.from.ensures ∙ one_or_none _ ∙ ap₂ (λ m n. pick (nat_lt n m) 1 0) again c.strokes_of.ensures;
      wrong = judged.wrong;
      untold = (as_wall (vec_items rows), judged.untold, c.len-2.ensures ∙ rows.ok.0 ∙ sym (length_each as_told (vec_items rows)));
      none_untold = (λ e. judged.none_untold.0 (sym c.len-2.ensures ∙ e), λ e. c.len-2.ensures ∙ judged.none_untold.1 e);
      faults = c.from-2.ensures ∙ one_or_none c.args.world.now.fault;
    }
