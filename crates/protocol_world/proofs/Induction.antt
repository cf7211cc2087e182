-- What a step, a poke, a letter and a strike of one machine keep, all that happens keeps, and so do calm rounds. Good is any predicate of worlds.
use Rattle.std.proofs.Common.{◌≡◌, ℕ, zero, suc, ◌<◌, ◌≤◌, ◌&&◌, ltb, List, [], ◌∷◌, ◌++◌, sym, refl, subst, arith}
use Rattle.std.proofs.lemmas.Bool.{ltb-true, and_parts}
use Rattle.sums.specs.Sums.{Gauges}
use Rattle.sums.proofs.Picks.{pick_both}
use Rattle.machine.specs.Run.{up_to}
use Rattle.machine.specs.Run as given
use Rattle.protocol.specs.Limits.{crew}
use Rattle.protocol_world.specs.Runs.{goes, poked, delivered, fallen, happened, all_happened, by_each, works_poked, works_given, round, calm}
use Rattle.protocol_world.specs.Worlds.{World, one_step}

pub by_each_append : (f : World → ℕ → World) (w : World) (xs ys : List ℕ) → by_each f w (xs ++ ys) ≡ by_each f (by_each f w xs) ys
unfolding by_each
by_each_append f w [] ys = refl
by_each_append f w (x ∷ xs) ys = by_each_append f (f w x) xs ys

-- the turn of the last comes after all others
pub by_each_last : (f : World → ℕ → World) (w : World) (n : ℕ) → by_each f w (up_to (suc n)) ≡ f (by_each f w (up_to n)) n
unfolding by_each up_to
by_each_last f w n = by_each_append f w (up_to n) (n ∷ [])

pub by_each_none : (f : World → ℕ → World) (w : World) → by_each f w (up_to 0) ≡ w
unfolding by_each up_to
by_each_none f w = refl

-- what each turn keeps
module _ (f : World → ℕ → World) (Good : World → Type 0) (k : (w : World) (i : ℕ) → i < crew → Good w → Good (f w i)) where
  by_each_to : (n : ℕ) → n ≤ crew → (w : World) → Good w → Good (by_each f w (up_to n))
  by_each_to zero le w g = subst Good (sym (by_each_none f w)) g
  by_each_to (suc n) le w g = subst Good (sym (by_each_last f w n)) (k _ n (omega arith) (by_each_to n (omega arith) w g))

  pub by_each_good : (w : World) → Good w → Good (by_each f w (up_to crew))
  by_each_good w g = by_each_to crew (omega arith) w g

pub record Keeps (gs : Gauges) (Good : World → Type 0) : Type 0 where
  pub steps : (w : World) (i : ℕ) → i < crew → Good w → Good (one_step gs w i)
  pub pokes : (w : World) (i : ℕ) → i < crew → Good w → Good (poked w i)
  pub delivers : (w : World) (i j : ℕ) → i < crew → j < crew → Good w → Good (delivered w i j)
  pub falls : (w : World) (i : ℕ) → i < crew → Good w → Good (fallen w i)

module _ (gs : Gauges) (Good : World → Type 0) (k : Keeps gs Good) where
  pub goes_good : (n : ℕ) (w : World) (i : ℕ) → i < crew → Good w → Good (goes n gs w i)
  unfolding goes
  goes_good zero w i lt g = g
  goes_good (suc n) w i lt g = pick_both w.fault w _ Good (λ _. g) (λ _. goes_good n _ i lt (k.steps w i lt g))

  pub happened_good : (w : World) (it : given.Item) → Good w → Good (happened gs w it)
  unfolding happened
  happened_good w (given.works i n) g = pick_both (ltb i crew) _ _ Good (λ e. goes_good n w i (ltb-true i crew e) g) (λ _. g)
  happened_good w (given.poke i) g = pick_both (ltb i crew) _ _ Good (λ e. k.pokes w i (ltb-true i crew e) g) (λ _. g)
  happened_good w (given.brings i j) g = pick_both (ltb i crew && ltb j crew) _ _ Good
      (λ e. let both = and_parts (ltb i crew) (ltb j crew) e in k.delivers w i j (ltb-true i crew both.0) (ltb-true j crew both.1) g) (λ _. g)
  happened_good w (given.falls i) g = pick_both (ltb i crew) _ _ Good (λ e. k.falls w i (ltb-true i crew e) g) (λ _. g)

  pub all_good : (is : List given.Item) (w : World) → Good w → Good (all_happened gs w is)
  unfolding all_happened
  all_good [] w g = g
  all_good (x ∷ xs) w g = all_good xs (happened gs w x) (happened_good w x g)

  pub round_good : (n : ℕ) (w : World) → Good w → Good (round n gs w)
  round_good n w g =
      by_each_good _ Good (λ u j lj h. by_each_good (works_given n gs j) Good (λ t i li q. goes_good n _ j lj (k.delivers t i j li lj q)) u h) _
      (by_each_good (works_poked n gs) Good (λ u i li h. goes_good n _ i li (k.pokes u i li h)) w g)

  pub calm_good : (r n : ℕ) (w : World) → Good w → Good (calm r n gs w)
  unfolding calm
  calm_good zero n w g = g
  calm_good (suc r) n w g = calm_good r n (round n gs w) (round_good n w g)

-- what only calm keeps: nothing falls
pub record CalmKeeps (gs : Gauges) (Good : World → Type 0) : Type 0 where
  pub steps : (w : World) (i : ℕ) → i < crew → Good w → Good (one_step gs w i)
  pub pokes : (w : World) (i : ℕ) → i < crew → Good w → Good (poked w i)
  pub delivers : (w : World) (i j : ℕ) → i < crew → j < crew → Good w → Good (delivered w i j)

module _ (gs : Gauges) (Good : World → Type 0) (k : CalmKeeps gs Good) where
  pub goes_kept : (n : ℕ) (w : World) (i : ℕ) → i < crew → Good w → Good (goes n gs w i)
  unfolding goes
  goes_kept zero w i lt g = g
  goes_kept (suc n) w i lt g = pick_both w.fault w _ Good (λ _. g) (λ _. goes_kept n _ i lt (k.steps w i lt g))

  round_kept : (n : ℕ) (w : World) → Good w → Good (round n gs w)
  round_kept n w g =
      by_each_good _ Good (λ u j lj h. by_each_good (works_given n gs j) Good (λ t i li q. goes_kept n _ j lj (k.delivers t i j li lj q)) u h) _
      (by_each_good (works_poked n gs) Good (λ u i li h. goes_kept n _ i li (k.pokes u i li h)) w g)

  pub calm_kept : (r n : ℕ) (w : World) → Good w → Good (calm r n gs w)
  unfolding calm
  calm_kept zero n w g = g
  calm_kept (suc r) n w g = calm_kept r n (round n gs w) (round_kept n w g)
