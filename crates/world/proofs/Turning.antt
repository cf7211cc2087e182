-- What happens, as the definitions have it, at the machine that stands for a hut.
use Rattle.std.proofs.Common.{◌≡◌, ℕ, zero, suc, ◌≤◌, Bool, true, false, List, [], ◌∷◌, length, Some, None, Ok, Vec, inl, inr, sym, refl, ap, ◌∙◌, subst, arith}
use Rattle.std.specs.Global.{Global}
use Rattle.std.specs.declared.alloc.AllocError.{AllocError}
use Rattle.std.proofs.lemmas.Bool.{both_ways}
use Rattle.sums.specs.Sums.{each, none_of, Gauges}
use Rattle.sums.proofs.Eaches.{length_each}
use Rattle.sums.proofs.Picks.{pick_both}
use Rattle.machine.specs.Run as run
use Rattle.machine.specs.Run.{machine, machine_at, set_nth, delivered, given, first_between, without_first, letter, nth_row, with_machine, one_step, goes, by_each, up_to}
use Rattle.machine.specs.Entry.{own}
use Rattle.machine.specs.Answers.{act_back}
use Rattle.machine.specs.declared.Act.{Act}
use Rattle.machine.specs.declared.Act.TheVariants as act
use Rattle.rows.specs.declared.Row.{Row}
use Rattle.promise.proofs.Induction.{goes_more}
use Rattle.hut.specs.Played.{as_machine, told_next, StepDone}
use Rattle.hut.specs.Effects.{after, posted, Lasts, Seen, Turned}
use Rattle.hut.specs.declared.effect.Effect.{Effect}
use Rattle.hut.specs.declared.effect.Effect.TheVariants.{Asked, Sought, Released, Sent, Kept, Recalled, Told, Rested, Fault}
use Rattle.world.specs.declared.post.Letter.{Letter}
use Rattle.world.specs.Worlds.{Went, HasRoom, MadeRoom}
use Rattle.hut.specs.declared.hut.Hut.{Hut}
use Rattle.hut.specs.declared.hut.Desk.{Desk}
use Rattle.promise.proofs.Machines.{set_past}
use Rattle.world.proofs.Huts.{huts_world, hut_past, set_same}
use Rattle.world.proofs.Posting.{none_rest}

module _ (w : run.World) (i j : ℕ) (x : run.Machine) (is : machine_at w.machines j ≡ x) where
  pub delivered_busy : none_of x.pending ≡ false → delivered w i j ≡ w
  delivered_busy e = simp (is, e)

  module _ (rest : none_of x.pending ≡ true) where
    pub delivered_none : first_between i j w.wires ≡ [] → delivered w i j ≡ w
    unfolding given
    delivered_none e = simp (is, rest, e)

    pub delivered_some : (l : run.Letter) (ls : List run.Letter) → first_between i j w.wires ≡ l ∷ ls → delivered w i j ≡
        record { machines = set_nth w.machines j (told_next x x.memory (letter i l.text ∷ [])); wires = without_first i j w.wires; told = w.told; fault = w.fault }
    unfolding given
    delivered_some l ls e = simp (is, rest, e)

-- there is no such hut: the letter is gone
pub delivered_past : (hs : List Hut) (w : run.World) (i j : ℕ) → length hs ≤ j → delivered (huts_world hs w) i j ≡
    record { machines = each as_machine hs; wires = without_first i j w.wires; told = w.told; fault = w.fault }
unfolding none_of
delivered_past hs w i j le = go (first_between i j w.wires) refl
  where
    go : (ls : List run.Letter) → first_between i j w.wires ≡ ls → delivered (huts_world hs w) i j ≡
        record { machines = each as_machine hs; wires = without_first i j w.wires; told = w.told; fault = w.fault }
    go [] e =
        delivered_none (huts_world hs w) i j (machine [] [] 0 0 []) (hut_past hs j le) refl e
        ∙ ap (λ ls. record { machines = each as_machine hs; wires = ls; told = w.told; fault = w.fault }) (sym (none_rest i j w.wires e))
    go (l ∷ ls) e =
        let far : length (each as_machine hs) ≤ j = rw (length_each as_machine hs) le in
        delivered_some (huts_world hs w) i j (machine [] [] 0 0 []) (hut_past hs j le) refl l ls e
        ∙ ap (λ ms. record { machines = ms; wires = without_first i j w.wires; told = w.told; fault = w.fault })
        (set_past (each as_machine hs) j (told_next (machine [] [] 0 0 []) [] (letter i l.text ∷ [])) far)

-- a hut's turn and what is seen of it are a step of the definitions
after_posted : (w : run.World) (i : ℕ) (x x₁ : run.Machine) (f : Effect) → machine_at w.machines i ≡ x → Lasts x x₁ f → posted (with_machine w i x₁) i f ≡ after w i x₁ f
after_posted w i x x₁ Asked is l = refl
after_posted w i x x₁ (Sought p) is l = refl
after_posted w i x x₁ (Released p) is l = refl
after_posted w i x x₁ (Sent j t) is l = refl
after_posted w i x x₁ (Kept d) is l = refl
after_posted w i x x₁ (Recalled d) is l = refl
after_posted w i x x₁ (Told r) is l = refl
after_posted w i x x₁ Rested is l = refl
after_posted w i x x₁ Fault is l = rw (l, set_same w.machines i x is)

pub went : (gs : Gauges) (w : run.World) (i : ℕ) (x x₁ : run.Machine) (f : Effect) → machine_at w.machines i ≡ x → Turned (nth_row gs i) i x x₁ (Some f) →
    posted (with_machine w i x₁) i f ≡ one_step own gs w i (machine_at w.machines i).pending
went gs w i x x₁ f is t = after_posted w i x x₁ f is t.1 ∙ t.0 gs w refl is ∙ ap (λ y. one_step own gs w i y.pending) (sym is)

-- a step without an act is of one that rests
pub no_act : (m : List ℕ) (evs : List run.Event) (d : Desk) → StepDone m evs None d → evs ≡ []
no_act m [] d s = refl
no_act m (ev ∷ evs) d s = absurd s

-- room that was made for an act is room for what is seen of it
module _ (told told₁ : Vec Row Global) (wires wires₁ : Vec Letter Global) where
  abbrev Roomy : Effect → Type 0
  Roomy f = HasRoom f told₁ wires₁

  pub room_seen : (a : Act) (out : List ℕ) (f : Effect) → MadeRoom {E = AllocError} a (Ok tt) told wires told₁ wires₁ → Seen (act_back a out) f → Roomy f
  room_seen (act.Tells h k s) out f made (inl e) = subst Roomy (sym e) tt
  room_seen (act.Tells h k s) out f made (inr e) = subst Roomy (sym e.1) made.0
  room_seen (act.Sends j n) out f made (inl e) = subst Roomy (sym e) tt
  room_seen (act.Sends j n) out f made (inr e) = subst Roomy (sym e.1) made.0
  room_seen act.More out f made (inl e) = subst Roomy (sym e) tt
  room_seen act.More out f made (inr e) = subst Roomy (sym e) tt
  room_seen (act.From p) out f made (inl e) = subst Roomy (sym e) tt
  room_seen (act.From p) out f made (inr e) = subst Roomy (sym e) tt
  room_seen (act.LetGo p) out f made (inl e) = subst Roomy (sym e) tt
  room_seen (act.LetGo p) out f made (inr e) = subst Roomy (sym e) tt
  room_seen (act.Keep d n) out f made (inl e) = subst Roomy (sym e) tt
  room_seen (act.Keep d n) out f made (inr e) = subst Roomy (sym e) tt
  room_seen (act.Recall d) out f made (inl e) = subst Roomy (sym e) tt
  room_seen (act.Recall d) out f made (inr e) = subst Roomy (sym e) tt
  room_seen act.Rests out f made (inl e) = subst Roomy (sym e) tt
  room_seen act.Rests out f made (inr e) = subst Roomy (sym e) tt

module _ (gs : Gauges) (w : run.World) (i : ℕ) where
  pub goes_fault : (n : ℕ) → w.fault ≡ true → goes n own gs w i ≡ w
  unfolding goes
  goes_fault zero e = refl
  goes_fault (suc n) e = pick_both w.fault w _ (λ u. u ≡ w) (λ _. refl) (λ q. absurd (both_ways _ q e))

  -- one that rests does nothing
  pub goes_at_rest : (n : ℕ) → (machine_at w.machines i).pending ≡ [] → goes n own gs w i ≡ w
  unfolding goes one_step
  goes_at_rest zero r = refl
  goes_at_rest (suc n) r = pick_both w.fault w _ (λ u. u ≡ w) (λ _. refl) (λ _. rw r (goes_at_rest n r))

  pub goes_step : (n : ℕ) → w.fault ≡ false → goes (suc n) own gs w i ≡ goes n own gs (one_step own gs w i (machine_at w.machines i).pending) i
  goes_step n e = goes_more own gs n w i (λ u. u ≡ goes n own gs (one_step own gs w i (machine_at w.machines i).pending) i) e refl

pub went_on : (gs : Gauges) (w w₁ : run.World) (i : ℕ) (go : Bool) → Went gs w i go w₁ → go ≡ true → w₁ ≡ one_step own gs w i (machine_at w.machines i).pending
went_on gs w w₁ i true h e = h
went_on gs w w₁ i false h e = cc

pub went_not : (gs : Gauges) (w w₁ : run.World) (i : ℕ) (go : Bool) → Went gs w i go w₁ → go ≡ false → (w₁ ≡ w) × ((machine_at w.machines i).pending ≡ [])
went_not gs w w₁ i true h e = let z : ◌≡◌ {A = ℕ} 0 1 = cc in absurd (omega arith)
went_not gs w w₁ i false h e = h
