-- What one act, a poke, a letter and a fall keep, all that happens keeps, and so do calm rounds. For any engine.
use Rattle.std.proofs.Common.{◌≡◌, ℕ, zero, suc, Bool, true, false, List, [], ◌∷◌, refl}
use Rattle.std.proofs.lemmas.Bool.{both_ways}
use Rattle.sums.specs.Sums.{Gauges}
use Rattle.sums.proofs.Picks.{pick_both}
use Rattle.machine.specs.Run.{Engine, World, machine_at, Item, works, poke, brings, falls, all_happened, happened, calm, round, by_each, up_to}
use Rattle.machine.specs.Run.{goes, one_step, poked, delivered, fallen}

pub by_each_good : (Good : World → Type 0) (f : World → ℕ → World) → ((w : World) (i : ℕ) → Good w → Good (f w i)) →
    (is : List ℕ) (w : World) → Good w → Good (by_each f w is)
unfolding by_each
by_each_good Good f h [] w g = g
by_each_good Good f h (i ∷ is) w g = by_each_good Good f h is (f w i) (h w i g)

-- Good is kept by each thing that can happen
pub record Keeps (e : Engine) (gs : Gauges) (Good : World → Type 0) : Type 0 where
  pub steps : (w : World) (i : ℕ) → w.fault ≡ false → Good w → Good (one_step e gs w i (machine_at w.machines i).pending)
  pub pokes : (w : World) (i : ℕ) → Good w → Good (poked w i)
  pub delivers : (w : World) (i j : ℕ) → Good w → Good (delivered w i j)
  pub falls_down : (w : World) (i : ℕ) → Good w → Good (fallen e w i)

module _ (e : Engine) (gs : Gauges) (Good : World → Type 0) (k : Keeps e gs Good) where
  pub goes_good : (n : ℕ) (w : World) (i : ℕ) → Good w → Good (goes n e gs w i)
  unfolding goes
  goes_good zero w i g = g
  goes_good (suc n) w i g = pick_both w.fault w _ Good (λ _. g) (λ h. goes_good n _ i (k.steps w i h g))

  pub happened_good : (w : World) (it : Item) → Good w → Good (happened e gs w it)
  unfolding happened
  happened_good w (works i n) g = goes_good n w i g
  happened_good w (poke i) g = k.pokes w i g
  happened_good w (brings i j) g = k.delivers w i j g
  happened_good w (falls i) g = k.falls_down w i g

  pub all_good : (is : List Item) (w : World) → Good w → Good (all_happened e gs w is)
  unfolding all_happened
  all_good [] w g = g
  all_good (it ∷ is) w g = all_good is (happened e gs w it) (happened_good w it g)

  pub round_good : (n : ℕ) (w : World) → Good w → Good (round n e gs w)
  round_good n w g =
      by_each_good Good _ (λ u j h. by_each_good Good _ (λ t i q. goes_good n _ j (k.delivers t i j q)) (up_to 8) u h) (up_to 8) _
      (by_each_good Good _ (λ u i h. goes_good n _ i (k.pokes u i h)) (up_to 8) w g)

  pub calm_good : (r n : ℕ) (w : World) → Good w → Good (calm r n e gs w)
  unfolding calm
  calm_good zero n w g = g
  calm_good (suc r) n w g = calm_good r n (round n e gs w) (round_good n w g)

-- one act more, where nothing is at fault (`rw` by the fault's equation would rewrite the world itself, field by field)
pub goes_more : (e : Engine) (gs : Gauges) (n : ℕ) (w : World) (i : ℕ) (P : World → Type 0) → w.fault ≡ false →
    P (goes n e gs (one_step e gs w i (machine_at w.machines i).pending) i) → P (goes (suc n) e gs w i)
unfolding goes
goes_more e gs n w i P h p = pick_both w.fault w _ P (λ q. absurd (both_ways _ h q)) (λ _. p)
