use Rattle.std.proofs.Common.{◌≡◌, ◌<◌, ◌≤◌, get_or, length, vec_items, rules, sym, ap, ◌∙◌, arith}
use Rattle.sums.specs.Sums.{each}
use Rattle.sums.proofs.Eaches.{length_each}
use Rattle.hut.specs.Played.{as_text}
use Rattle.hut.proofs.Eaches.{row_at, row_past}
use Rattle.hut.proofs.hut.Hut.drawer.Goals as goal

pub returns-in-Some-clause-text : goal.returns-in-Some-clause-text
returns-in-Some-clause-text c =
    let ts = vec_items c.args.self.now.drawers in
    let t = c.in-Some.text.now in
    let whole : c.deref.result.now ≡ ts = c.deref.ensures.value in
    let is : t ≡ get_or ts c.args.drawer t = rw (← whole) (search rules) in
    let lt : c.args.drawer < length ts = rw (← whole) (omega (arith, c.in-Some.ensures.lookup)) in
    c.as_slice.ensures.value ∙ ap as_text is ∙ sym (row_at as_text ts c.args.drawer t lt)

pub returns-in-None-clause-text : goal.returns-in-None-clause-text
returns-in-None-clause-text c =
    let ts = vec_items c.args.self.now.drawers in
    let le : length (each as_text ts) ≤ c.args.drawer = rw (length_each as_text ts, ← c.deref.ensures.value) (omega (arith, c.in-None.ensures.lookup)) in
    sym (row_past _ _ le)
