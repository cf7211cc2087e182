-- A step on the desk is a step of the machine.
use Rattle.std.proofs.Common.{◌≡◌, ℕ, ◌≤◌, List, [], ◌∷◌, length, Some, Ok, vec_items, Result, sym, ap, ◌∙◌, arith, lit≤}
use Rattle.std.proofs.lemmas.Bool.{eq-eqb, le-leb}
use Rattle.sums.specs.Sums as given
use Rattle.machine.specs.Run as run
use Rattle.machine.specs.Run.{one_step}
use Rattle.machine.specs.Answers.{act_back, as_event as event_of}
use Rattle.machine.specs.Entry.{own, bytes_of, step_fits, StepSays}
use Rattle.machine.specs.declared.Act.{Act}
use Rattle.machine.specs.declared.Event.{Event}
use Rattle.machine.specs.declared.StepError.{StepError}
use Rattle.machine.proofs.Back.{step_back}
use Rattle.machine.proofs.Stepped.{start_length}
use Rattle.hut.specs.declared.hut.Pending.{Pending}
use Rattle.hut.specs.declared.hut.Pending.TheVariants.{Wakes, Comes, Later, Ends, Letter, Slot, Next}
use Rattle.hut.specs.declared.hut.Hut.{Hut}
use Rattle.hut.specs.declared.hut.Desk.{Desk}
use Rattle.hut.specs.declared.effect.Effect.{Effect}
use Rattle.hut.specs.Effects.{Did, Turned}
use Rattle.hut.specs.Played.{as_event, as_pending, StepDone}
use Rattle.hut.proofs.Texts.{fit_few}

few : (p : Pending) → length (bytes_of (as_event p)) ≤ 4096
few (Wakes i) = lit≤ tt
few (Comes r) = lit≤ tt
few Later = lit≤ tt
few Ends = lit≤ tt
few (Letter i t) = fit_few _ t.fits
few (Slot t) = fit_few _ t.fits
few Next = lit≤ tt

-- a step of what is pending, on a copy of the memory
pub stepped : (h : Hut) (d : Desk) (p : Pending) (e : Event) (copy out : List ℕ) (r : Result Act StepError) (m₁ out₁ : List ℕ) →
    event_of e ≡ as_event p → copy ≡ vec_items h.memory → out ≡ vec_items d.out →
    StepSays copy (event_of e) out (step_fits copy (bytes_of (event_of e)) out) r m₁ out₁ →
    (a : Act) × (r ≡ Ok a) × (m₁ ≡ (own.step (vec_items h.memory) (as_event p)).memory) × (act_back a out₁ ≡ (own.step (vec_items h.memory) (as_event p)).act)
stepped h d p e copy out r m₁ out₁ same is whole says =
    let long : length copy ≡ length own.start = ap length is ∙ sym h.memory.ok.0 ∙ h.sized in
    let low : 4096 ≤ length out = omega (arith, ap length whole, d.out.ok.0, d.room) in
    let fits : step_fits copy (bytes_of (as_event p)) out ≡ Ok tt = rw (eq-eqb _ _ (long ∙ start_length), le-leb _ _ (few p), le-leb _ _ low) in
    rw (← is) (step_back copy (as_event p) out r m₁ out₁ fits (rw same at says))

pub step_done : (h : Hut) (p : Pending) (a b : Act) (d : Desk) (m₁ out₁ : List ℕ) → h.pending ≡ Some p → a ≡ b → vec_items d.memory ≡ m₁ → vec_items d.out ≡ out₁ →
    (m₁ ≡ (own.step (vec_items h.memory) (as_event p)).memory) × (act_back b out₁ ≡ (own.step (vec_items h.memory) (as_event p)).act) →
    StepDone (vec_items h.memory) (as_pending h.pending) (Some a) d
step_done h p a b d m₁ out₁ is same memory out done = rw (is, same, memory, out) done

-- a step on the desk and its act are one step of the definitions
pub turned : (rs : List given.Reading) (i : ℕ) (x x₁ : run.Machine) (a : Act) (d : Desk) (f : Effect) (evs : List run.Event) → x.pending ≡ evs →
    StepDone x.memory evs (Some a) d → Did rs i x (vec_items d.memory) (act_back a (vec_items d.out)) x₁ f → Turned rs i x x₁ (Some f)
unfolding one_step
turned rs i x x₁ a d f [] e s did = let z : ◌≡◌ {A = ℕ} 0 1 = cc in absurd (omega arith)
turned rs i x x₁ a d f (ev ∷ evs) e s did =
    let does = rw (s.0, s.1) at did in
    (λ gs w row is. rw (e, is) (does.0 gs w row is), does.1, rw e does.2)
