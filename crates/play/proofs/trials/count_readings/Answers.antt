use Rattle.std.proofs.Common.{◌≡◌, ℕ, List, [], ◌∷◌, vec_items, vec_len, Vec, sym, refl, ap, ◌∙◌, rules}
use Rattle.std.specs.List.{fold}
use Rattle.std.proofs.lemmas.Iterator.{YieldsList-from_slice}
use Rattle.std.proofs.lemmas.Iterator.Consumers.{fold_from_yields_List}
use Rattle.sums.specs.Sums.{each}
use Rattle.sums.specs.Readings.{as_reading, as_gauges}
use Rattle.sums.specs.declared.reading.Reading.{Reading}
use Rattle.sums.proofs.Eaches.{length_each}
use Rattle.play.specs.Trials.{plus, readings_after}
use Rattle.play.proofs.trials.count_readings.Goals as goal

readings_fold : {Z : Type 0} (n : ℕ) (gs : List (Vec Reading Z)) → readings_after n (as_gauges gs) ≡ fold (λ m v. plus m (vec_len v)) n gs
unfolding each readings_after
readings_fold n [] = refl
readings_fold n (v ∷ gs) =
    ap (λ m. readings_after (plus n m) (as_gauges gs)) (length_each as_reading (vec_items v) ∙ sym v.ok.0) ∙ readings_fold (plus n (vec_len v)) gs

pub returns : goal.returns
returns c =
    fold_from_yields_List _ (λ m v. plus m (vec_len v)) 0 c.fold.result c.fold.ensures.ran (YieldsList-from_slice c.args.gauges.now cc) (λ a x b q k. search rules)
    ∙ sym (readings_fold 0 c.args.gauges.now)
