-- What an act does to a world around its machine, and to what outlives a crash.
use Rattle.std.specs.Prelude.{◌≡◌, ℕ, ◌⊎◌, List, [], ◌∷◌, ◌++◌, Some, None, Option}
use Rattle.sums.specs.Sums as given
use Rattle.sums.specs.Sums.{Gauges}
use Rattle.machine.specs.Run as run
use Rattle.machine.specs.Run.{machine_at, with_machine, faulty, set_nth, nth_row, acted, one_step, more, from, let_go, sends, keep, recall, tells, rests}
use Rattle.machine.specs.Entry.{own}
use Rattle.rows.specs.Walls.{as_told}
use Rattle.hut.specs.declared.effect.Effect.{Effect}
use Rattle.hut.specs.declared.effect.Effect.TheVariants.{Asked, Sought, Released, Sent, Kept, Recalled, Told, Rested, Fault}
use Rattle.hut.specs.declared.text.Text.{Text}
use Rattle.rows.specs.declared.Row.{Row}
use Rattle.hut.specs.Played.{as_text}

-- a world in which this is seen of an act of machine i: a row on the wall, a letter on the wires, a fault
abbrev pub posted : run.World → ℕ → Effect → run.World
posted w i (Told r) = record { machines = w.machines; wires = w.wires; told = w.told ++ as_told r ∷ []; fault = w.fault }
posted w i (Sent j t) =
    record { machines = w.machines; wires = w.wires ++ record { sender = i; reader = j; text = as_text t } ∷ []; told = w.told; fault = w.fault }
posted w i Fault = faulty w
posted w i _ = w

-- the world in which machine i is this one and has had this effect; a fault leaves it as it is
abbrev pub after : run.World → ℕ → run.Machine → Effect → run.World
after w i x Fault = faulty w
after w i x f = posted (with_machine w i x) i f

-- in every world in which this is machine i and these are its readings, the act leads to where the effect says
abbrev pub Does : List given.Reading → ℕ → run.Machine → List ℕ → run.Act → run.Machine → Effect → Type 0
Does rs i x m a x₁ f = (gs : Gauges) (w : run.World) → nth_row gs i ≡ rs → machine_at w.machines i ≡ x → after w i x₁ f ≡ acted gs w i m a

-- what outlives a crash is changed by what is kept and released, and by nothing else
abbrev pub Lasts : run.Machine → run.Machine → Effect → Type 0
Lasts x x₁ (Kept d) = (x₁.gone ≡ x.gone) × (x₁.slots ≡ set_nth x.slots d (nth_row x₁.slots d))
Lasts x x₁ (Released p) = (x₁.gone ≡ p) × (x₁.slots ≡ x.slots)
Lasts x x₁ Fault = x₁ ≡ x
Lasts x x₁ _ = (x₁.gone ≡ x.gone) × (x₁.slots ≡ x.slots)

-- what is seen of an act is that act, or a fault
abbrev pub Seen : run.Act → Effect → Type 0
Seen more f = (f ≡ Fault) ⊎ (f ≡ Asked)
Seen (from p) f = (f ≡ Fault) ⊎ (f ≡ Sought p)
Seen (let_go p) f = (f ≡ Fault) ⊎ (f ≡ Released p)
Seen (sends j bs) f = (f ≡ Fault) ⊎ ((t : Text) × (f ≡ Sent j t))
Seen (keep d bs) f = (f ≡ Fault) ⊎ (f ≡ Kept d)
Seen (recall d) f = (f ≡ Fault) ⊎ (f ≡ Recalled d)
Seen (tells h k s) f = (f ≡ Fault) ⊎ ((r : Row) × (f ≡ Told r))
Seen rests f = (f ≡ Fault) ⊎ (f ≡ Rested)

-- all of an act
abbrev pub Did : List given.Reading → ℕ → run.Machine → List ℕ → run.Act → run.Machine → Effect → Type 0
Did rs i x m a x₁ f = Does rs i x m a x₁ f × Lasts x x₁ f × Seen a f

-- what is seen of the next step
abbrev pub SeenNext : run.Machine → List run.Event → Effect → Type 0
SeenNext x [] f = ⊥
SeenNext x (ev ∷ evs) f = Seen (own.step x.memory ev).act f

-- one step of a machine, in every world that it is in; none where it rests
abbrev pub Turned : List given.Reading → ℕ → run.Machine → run.Machine → Option Effect → Type 0
Turned rs i x x₁ (Some f) =
    ((gs : Gauges) (w : run.World) → nth_row gs i ≡ rs → machine_at w.machines i ≡ x → after w i x₁ f ≡ one_step own gs w i x.pending) × Lasts x x₁ f
    × SeenNext x x.pending f
Turned rs i x x₁ None = (x₁ ≡ x) × (x.pending ≡ [])
