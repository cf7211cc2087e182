-- Acts that are counted, and what happens one after the other.
use Rattle.std.proofs.Common.{◌≡◌, ℕ, zero, suc, Bool, true, false, List, [], ◌∷◌, ◌++◌, Some, inl, inr, sym, refl, ap, ◌∙◌, subst, ap₂}
use Rattle.std.proofs.lemmas.Bool.{both_ways}
use Rattle.sums.specs.Sums.{pick, Gauges}
use Rattle.sums.proofs.Picks.{pick_both}
use Rattle.machine.specs.Run as run
use Rattle.machine.specs.Run.{machine_at, nth_row, one_step, happened, all_happened, goes, poked, delivered, more, from, let_go, sends, keep, recall, tells, rests, poke, brings, works}
use Rattle.machine.specs.Entry.{own}
use Rattle.hut.specs.Effects.{after, Seen, Turned}
use Rattle.hut.specs.declared.effect.Effect.{Effect}
use Rattle.hut.specs.declared.effect.Effect.TheVariants as effect
use Rattle.world.specs.declared.tally.Kind.TheVariants.{Fault}
use Rattle.world.specs.Tallies.{kind_of, kind_of_act, counted, next_counted, acts_counted, all_counted}
use Rattle.world.specs.Worlds.{Passed}
use Rattle.world.proofs.Unrolling.{all_append}

-- what is seen of an act is of its kind, or a fault
abbrev is_fault : Effect → Bool
is_fault effect.Asked = false
is_fault (effect.Sought p) = false
is_fault (effect.Released p) = false
is_fault (effect.Sent j t) = false
is_fault (effect.Kept d) = false
is_fault (effect.Recalled d) = false
is_fault (effect.Told r) = false
is_fault effect.Rested = false
is_fault effect.Fault = true

abbrev OfKind : run.Act → Effect → Type 0
OfKind a f = pick (is_fault f) Fault (kind_of_act a) ≡ kind_of f

seen_kind : (a : run.Act) (f : Effect) → Seen a f → OfKind a f
seen_kind more f (inl e) = subst (OfKind more) (sym e) refl
seen_kind more f (inr e) = subst (OfKind more) (sym e) refl
seen_kind (from p) f (inl e) = subst (OfKind (from p)) (sym e) refl
seen_kind (from p) f (inr e) = subst (OfKind (from p)) (sym e) refl
seen_kind (let_go p) f (inl e) = subst (OfKind (let_go p)) (sym e) refl
seen_kind (let_go p) f (inr e) = subst (OfKind (let_go p)) (sym e) refl
seen_kind (sends j bs) f (inl e) = subst (OfKind (sends j bs)) (sym e) refl
seen_kind (sends j bs) f (inr e) = subst (OfKind (sends j bs)) (sym e.1) refl
seen_kind (keep d bs) f (inl e) = subst (OfKind (keep d bs)) (sym e) refl
seen_kind (keep d bs) f (inr e) = subst (OfKind (keep d bs)) (sym e) refl
seen_kind (recall d) f (inl e) = subst (OfKind (recall d)) (sym e) refl
seen_kind (recall d) f (inr e) = subst (OfKind (recall d)) (sym e) refl
seen_kind (tells h k s) f (inl e) = subst (OfKind (tells h k s)) (sym e) refl
seen_kind (tells h k s) f (inr e) = subst (OfKind (tells h k s)) (sym e.1) refl
seen_kind rests f (inl e) = subst (OfKind rests) (sym e) refl
seen_kind rests f (inr e) = subst (OfKind rests) (sym e) refl

fault_after : (w : run.World) (i : ℕ) (x : run.Machine) (f : Effect) → w.fault ≡ false → (after w i x f).fault ≡ is_fault f
fault_after w i x effect.Asked e = e
fault_after w i x (effect.Sought p) e = e
fault_after w i x (effect.Released p) e = e
fault_after w i x (effect.Sent j t) e = e
fault_after w i x (effect.Kept d) e = e
fault_after w i x (effect.Recalled d) e = e
fault_after w i x (effect.Told r) e = e
fault_after w i x effect.Rested e = e
fault_after w i x effect.Fault e = refl

module _ (gs : Gauges) (w : run.World) (i : ℕ) where
  seen_counted : (x x₁ : run.Machine) (f : Effect) (evs : List run.Event) (cs : List ℕ) → machine_at w.machines i ≡ x → x.pending ≡ evs → w.fault ≡ false →
      Turned (nth_row gs i) i x x₁ (Some f) → next_counted gs w i evs cs ≡ counted cs (kind_of f)
  seen_counted x x₁ f [] cs is p calm t = absurd (rw p at t.2)
  seen_counted x x₁ f (ev ∷ evs) cs is p calm t =
      let fault : (one_step own gs w i (ev ∷ evs)).fault ≡ is_fault f =
      ap (λ es. (one_step own gs w i es).fault) (sym p) ∙ ap (λ u. u.fault) (sym (t.0 gs w refl is)) ∙ fault_after w i x₁ f calm in
      let seen : Seen (own.step x.memory ev).act f = rw p at t.2 in
      ap (counted cs) (ap (λ b. pick b Fault (kind_of_act (own.step (machine_at w.machines i).memory ev).act)) fault
      ∙ ap (λ y. pick (is_fault f) Fault (kind_of_act (own.step y.memory ev).act)) is ∙ seen_kind (own.step x.memory ev).act f seen)

  -- a hut's turn is counted as the machine's act
  pub turn_counted : (x x₁ : run.Machine) (f : Effect) (cs : List ℕ) → machine_at w.machines i ≡ x → w.fault ≡ false → Turned (nth_row gs i) i x x₁ (Some f) →
      next_counted gs w i (machine_at w.machines i).pending cs ≡ counted cs (kind_of f)
  turn_counted x x₁ f cs is calm t = ap (λ y. next_counted gs w i y.pending cs) is ∙ seen_counted x x₁ f x.pending cs is refl calm t

  pub counted_fault : (n : ℕ) (cs : List ℕ) → w.fault ≡ true → acts_counted n gs w i cs ≡ cs
  unfolding acts_counted
  counted_fault zero cs e = refl
  counted_fault (suc n) cs e = pick_both w.fault cs _ (λ c. c ≡ cs) (λ _. refl) (λ q. absurd (both_ways _ q e))

  pub counted_step : (n : ℕ) (cs : List ℕ) → w.fault ≡ false → acts_counted (suc n) gs w i cs ≡
      acts_counted n gs (one_step own gs w i (machine_at w.machines i).pending) i (next_counted gs w i (machine_at w.machines i).pending cs)
  unfolding acts_counted
  counted_step n cs e = ap (λ b. pick b cs (acts_counted n gs (one_step own gs w i (machine_at w.machines i).pending) i (next_counted gs w i (machine_at w.machines i).pending cs))) e

  pub counted_rest : (n : ℕ) (cs : List ℕ) → (machine_at w.machines i).pending ≡ [] → acts_counted n gs w i cs ≡ cs
  unfolding acts_counted one_step
  counted_rest zero cs r = refl
  counted_rest (suc n) cs r = pick_both w.fault cs _ (λ c. c ≡ cs) (λ _. refl) (λ _. rw r (counted_rest n cs r))

counted_append : (gs : Gauges) (w : run.World) (xs ys : List run.Item) (cs : List ℕ) →
    all_counted gs w (xs ++ ys) cs ≡ all_counted gs (all_happened own gs w xs) ys (all_counted gs w xs cs)
unfolding all_happened all_counted
counted_append gs w [] ys cs = refl
counted_append gs w (x ∷ xs) ys cs = counted_append gs (happened own gs w x) xs ys _

pub passed_none : (gs : Gauges) (w : run.World) (cs : List ℕ) → Passed gs w cs [] w cs
unfolding all_happened all_counted
passed_none gs w cs = record { world = refl; counts = refl }

pub passed_both : (gs : Gauges) (w w₁ w₂ : run.World) (cs cs₁ cs₂ : List ℕ) (xs ys : List run.Item) →
    Passed gs w cs xs w₁ cs₁ → Passed gs w₁ cs₁ ys w₂ cs₂ → Passed gs w cs (xs ++ ys) w₂ cs₂
passed_both gs w w₁ w₂ cs cs₁ cs₂ xs ys p q = record {
  world = q.world ∙ ap (λ u. all_happened own gs u ys) p.world ∙ sym (all_append gs w xs ys);
  counts = q.counts ∙ ap₂ (λ u c. all_counted gs u ys c) p.world p.counts ∙ sym (counted_append gs w xs ys cs);
}

-- machine i is poked, or a letter comes, and a machine works
pub passed_poke : (gs : Gauges) (w w₁ w₂ : run.World) (cs cs₁ cs₂ : List ℕ) (i n : ℕ) → w₁ ≡ poked w i → cs₁ ≡ cs →
    w₂ ≡ goes n own gs w₁ i → cs₂ ≡ acts_counted n gs w₁ i cs₁ → Passed gs w cs (poke i ∷ works i n ∷ []) w₂ cs₂
unfolding all_happened happened all_counted
passed_poke gs w w₁ w₂ cs cs₁ cs₂ i n p c go acts = record {
  world = go ∙ ap (λ u. goes n own gs u i) p;
  counts = acts ∙ ap₂ (λ u k. acts_counted n gs u i k) p c;
}

pub passed_letter : (gs : Gauges) (w w₁ w₂ : run.World) (cs cs₁ cs₂ : List ℕ) (i j n : ℕ) → w₁ ≡ delivered w i j → cs₁ ≡ cs →
    w₂ ≡ goes n own gs w₁ j → cs₂ ≡ acts_counted n gs w₁ j cs₁ → Passed gs w cs (brings i j ∷ works j n ∷ []) w₂ cs₂
unfolding all_happened happened all_counted
passed_letter gs w w₁ w₂ cs cs₁ cs₂ i j n p c go acts = record {
  world = go ∙ ap (λ u. goes n own gs u j) p;
  counts = acts ∙ ap₂ (λ u k. acts_counted n gs u j k) p c;
}
