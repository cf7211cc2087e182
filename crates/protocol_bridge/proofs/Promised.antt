-- What else any engine promises that mirrors the machine of records: each theorem, from that of machines of records.
use Rattle.std.proofs.Common.{◌≡◌, ℕ, ◌+◌, ◌-◌, ◌*◌, ◌/◌, ◌%◌, ◌<◌, ◌≤◌, true, List, [], ◌∷◌, length, Some, Option, sym, refl, ◌∙◌, subst, inl, inr, ⊎_elim, arith}
use Rattle.sums.specs.Sums.{Gauges, hour_of}
use Rattle.sums.specs.Sums as plain
use Rattle.machine.specs.Run.{Engine, machine_at, nth_row}
use Rattle.machine.specs.Run as given
use Rattle.protocol.specs.Limits.{crew}
use Rattle.protocol.specs.Statements.{Letter}
use Rattle.protocol.specs.Tables.{Page}
use Rattle.protocol_world.specs.Drawers.{page_drawer}
use Rattle.protocol_world.specs.Enough.{letters_on}
use Rattle.protocol_world.specs.Theorems.{ReleasedKept}
use Rattle.protocol_world.specs.Theorems as records
use Rattle.protocol_world.specs.Wall.{has_told}
use Rattle.protocol_world.specs.Worlds.{Node, World}
use Rattle.protocol_world.proofs.Rows.{fine_late}
use Rattle.protocol_world.proofs.Safety.{Known}
use Rattle.protocol_world.proofs.Theorems.{released_kept}
use Rattle.protocol_world.proofs.Wall.{sums_has}
use Rattle.promise.specs.Promise.{texts_between}
use Rattle.protocol_bridge.specs.Engines.{Code, Implements, DrawerIs}
use Rattle.protocol_bridge.specs.Promises.{MirrorsEverSafe, MirrorsToldAgain, MirrorsDoneInCalm, MirrorsReleasedKept, Accounted}
use Rattle.protocol_bridge.specs.Views.{Views, PageSeen}
use Rattle.protocol_bridge.proofs.Engines.{given_now, now, now_is, then_is, safe, told_then, released_then}
use Rattle.protocol_bridge.proofs.Mirrored.{code, implements}
use Rattle.protocol_bridge.proofs.Simulation.{TextsAre, WorldIs}
use Rattle.protocol_bridge.proofs.ToldAgain.{told_again_by}
use Rattle.protocol_bridge.proofs.Underway.{counted_all, sum_le}

abbrev known_by : (gs : Gauges) → plain.gauges_fine gs ≡ true → Known gs
known_by gs fine = record { fine = fine_late gs fine }

pub mirrors_ever_safe : MirrorsEverSafe
unfolding MirrorsEverSafe
mirrors_ever_safe v e m gs is fine = safe (code v) e (implements v e m) gs (known_by gs fine) is

pub mirrors_told_again : MirrorsToldAgain
unfolding MirrorsToldAgain
mirrors_told_again v e m gs is k n fine = told_again_by (code v) e (implements v e m) gs (known_by gs fine) is k n

-- HOW MUCH CALM
texts_many : (c : Code) (ts : List (List ℕ)) (ls : List Letter) → TextsAre c ts ls → length ls ≡ length ts
unfolding TextsAre
texts_many c [] [] h = refl
texts_many c [] (l ∷ ls) h = absurd h
texts_many c (t ∷ ts) [] h = absurd h
texts_many c (t ∷ ts) (l ∷ ls) h = omega (arith, texts_many c ts ls h.1)

letters_few : (c : Code) (w : given.World) (u : World) → WorldIs c w u → letters_on u ≤ length w.wires
letters_few c w u r = omega (
  arith,
  counted_all w.wires,
  sum_le _ _ crew (λ a _. sum_le (λ b. length (u.wire a b)) (λ b. length (texts_between a b w.wires)) crew
      (λ b _. omega (arith, texts_many c (texts_between a b w.wires) (u.wire a b) (r.wires a b)))),
)

pub mirrors_done_in_calm : MirrorsDoneInCalm
unfolding MirrorsDoneInCalm
mirrors_done_in_calm v e m gs is k n fine calm_enough =
    let c : Code = code v in
    let imp : Implements c e = implements v e m in
    let known : Known gs = known_by gs fine in
    let few = letters_few c (given_now c e imp gs known is) (now c e imp gs known is) (now_is c e imp gs known is) in
    let enough : records.EnoughCalm gs (now c e imp gs known is) k n = (omega (arith, calm_enough.0, few), calm_enough.1) in
    (told_then c e imp gs known is k n enough, released_then c e imp gs known is k n enough)

-- WHAT IS RELEASED
module _ (v : Views) (gs : Gauges) (w : given.World) (u : World) (r : WorldIs (code v) w u) (i : ℕ) (lt : i < crew) where
  abbrev x : given.Machine
  x = machine_at w.machines i

  abbrev y : Node
  y = u.node i

  told_as : (h k : ℕ) → has_told u.told h k ≡ true → plain.has_told w.told h k ≡ true
  told_as h k e = subst (λ ts. plain.has_told ts h k ≡ true) (sym r.told) (sums_has u.told h k ∙ e)

  page_as : (bs : List ℕ) (p : Page) (o : Option Page) → o ≡ Some p → DrawerIs (code v) bs o → PageSeen v bs p
  page_as bs p o e d = subst (DrawerIs (code v) bs) e d

  kept_as : records.RollKept gs u i → Accounted v (nth_row gs i) w.told x y.root
  kept_as k = (
    omega (arith, (r.nodes i lt).gone, k.0),
    k.1,
    λ p l. ⊎_elim (λ t. inl (told_as _ _ t)) (λ q. inr q) (k.2 p l),
    λ h p some ge le lp.
        let q : ℕ = crew * (h - y.root.hour) + p % crew in
        let f = k.3 h p some ge le in
        let d = page_as (nth_row x.slots (page_drawer y.root.set q)) f.0 (y.pages y.root.set q) f.1 ((r.nodes i lt).pages y.root.set q some (omega arith)) in
        (d.0, d.1, sym (d.2.entries (p / crew) (omega arith)) ∙ f.2),
  )

pub mirrors_released_kept : MirrorsReleasedKept
unfolding MirrorsReleasedKept ReleasedKept
mirrors_released_kept v e m gs is k n i fine lt =
    let c : Code = code v in
    let known : Known gs = known_by gs fine in
    let r = then_is c e (implements v e m) gs known is k n in
    subst (Accounted v (nth_row gs i) (given.calm k n e gs (given_now c e (implements v e m) gs known is)).told
    (machine_at (given.calm k n e gs (given_now c e (implements v e m) gs known is)).machines i)) (sym (r.nodes i lt).root)
    (kept_as v gs _ _ r i lt (released_kept gs is k n i known.fine lt))
