-- From what a handler did to what a step is to say.
use Rattle.std.proofs.Common.{◌≡◌, ℕ, List, length, replicate, refl, ap, ◌∙◌}
use lib.ListN.{length-replicate}
use Rattle.gauge.specs.Memory.{cells}
use Rattle.gauge.specs.Deeds.{Deed, more, from, let_go, sends, keep, recall, tells, rests, act_for, out_with, Did}
use Rattle.gauge.specs.declared.act.Act.{Act}
use Rattle.machine.specs.Machine.{reacts, as_act, machine_step}
use Rattle.machine.specs.Run.{Event}
use Rattle.machine.specs.Entry.{own, ActTold}

act_told : (d : Deed) (out : List ℕ) → ActTold (as_act d) (act_for d) out (out_with d out)
unfolding ActTold
act_told more out = (refl, refl)
act_told (from x) out = (refl, refl)
act_told (let_go x) out = (refl, refl)
act_told (sends j b) out = (refl, refl)
act_told (keep j b) out = (refl, refl)
act_told (recall x) out = (refl, refl)
act_told (tells h k x) out = (refl, refl)
act_told rests out = (refl, refl)

-- what was done at an event, to a memory of the machine's own length, is the machine's own step
pub stepped : (m : List ℕ) (ev : Event) (a : Act) (m₁ out out₁ : List ℕ) → length m ≡ cells → Did (reacts m ev) a m₁ out out₁ →
    (m₁ ≡ (own.step m ev).memory) × ActTold (own.step m ev).act a out out₁
unfolding own machine_step
stepped m ev a m₁ out out₁ len did = rw (did.0, did.1, did.2, len) (refl, act_told (reacts m ev).deed out)

pub start_length : length own.start ≡ cells
unfolding own
start_length = length-replicate {A = ℕ} cells 0

-- a memory of the right length that is all 0 is the one at the start
pub start_zeros : (n : ℕ) → n ≡ length own.start → replicate n 0 ≡ own.start
unfolding own
start_zeros n e = ap (λ k. replicate k 0) (e ∙ start_length)
