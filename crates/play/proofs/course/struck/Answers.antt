use Rattle.std.proofs.Common.{[], ◌∷◌, ◌++◌, get_or, take, sym, ap, ◌∙◌, append_assoc, append-nil, ap₂, arith}
use Rattle.std.proofs.lemmas.List.{take_all, take_more}
use Rattle.river.specs.declared.model.Item.TheVariants.{Works, Falls}
use Rattle.play.specs.Courses.{strokes}
use Rattle.sums.specs.Sums.{every}
use Rattle.river.specs.Fine.{item_fine}
use Rattle.play.proofs.Limits.{struck_fine}
use Rattle.play.proofs.Striking.{strokes_more}
use Rattle.play.proofs.course.struck.Goals as goal

pub loop-acts-init : goal.loop-acts-init
unfolding strokes
loop-acts-init c = c.in_ok-out.ensures.items ∙ c.split_at.ensures.front ∙ sym (append-nil (take c.args.k c.args.items.now))

pub loop-acts-preserved : goal.loop-acts-preserved
loop-acts-preserved c =
    let i = c.loop-acts.acts-index in
    let m = c.in-Works.machine in
    let ts = c.args.strokes.now in
    let t = get_or ts i 0 in
    let before = take c.args.k c.args.items.now in
    let old = strokes m (take i ts) in
    c.in_ok-push-2.ensures.items ∙ ap (λ l. l ++ Falls m ∷ []) (c.in_ok-push.ensures.items ∙ ap (λ l. l ++ Works m t ∷ []) c.loop-acts.invariant)
    ∙ ap (λ l. l ++ Falls m ∷ []) (append_assoc before old (Works m t ∷ [])) ∙ append_assoc before (old ++ Works m t ∷ []) (Falls m ∷ [])
    ∙ ap (λ l. before ++ l) (sym (strokes_more m (take i ts) t) ∙ ap (strokes m) (sym (take_more ts i 0 c.loop-acts-test.true)))

pub returns-clause-fine : goal.returns-clause-fine
returns-clause-fine c e few =
    let its = c.args.items.now in
    let k = c.args.k in
    let m = c.in-Works.machine in
    let ts = c.args.strokes.now in
    let all = c.loop-acts.invariant ∙ ap (λ l. take k its ++ strokes m l) (take_all c.loop-acts.acts-index ts c.loop-acts-test.false) in
    let out = c.in_ok-extend_from_slice.ensures.items ∙ ap₂ (λ xs ys. xs ++ ys) all c.split_at.ensures.back in
    ap (every item_fine) out ∙ struck_fine its k m c.in-Works.field-1 ts (Works 0 0) (omega (arith, c.if-k-items.false)) c.in-Works.is e few
