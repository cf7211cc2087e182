use Rattle.std.proofs.Common.{sym, ◌∙◌, rules}
use Rattle.std.proofs.lemmas.Iterator.{YieldsList-from_slice}
use Rattle.std.proofs.lemmas.Iterator.Consumers.{YieldsList-from_filter, count_from_yields_List}
use Rattle.play.proofs.Strokes.{is_stroke, strokes_counted}
use Rattle.play.proofs.score.strokes_of.Goals as goal

pub returns : goal.returns
returns c =
    count_from_yields_List _ _ c.count.ensures.ran
    (YieldsList-from_filter _ is_stroke (YieldsList-from_slice c.args.items.now cc) c.filter-strokes.ensures.closure (λ x b q k. search rules))
    ∙ sym (strokes_counted c.args.items.now)
