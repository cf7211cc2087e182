-- The huts that are played, as machines of the definitions, and what an act leaves of one.
use Rattle.std.specs.Prelude.{◌≡◌, ℕ, List, [], ◌∷◌, Some, None, vec_items, Option}
use Rattle.sums.specs.Sums.{each}
use Rattle.machine.specs.Run as run
use Rattle.machine.specs.Run.{wakes, comes, later, ends, letter, slot, next, machine}
use Rattle.machine.specs.Answers.{act_back}
use Rattle.machine.specs.Entry.{own}
use Rattle.machine.specs.declared.Act.{Act}
use Rattle.hut.specs.declared.text.Text.{Text}
use Rattle.hut.specs.declared.hut.Pending.{Pending}
use Rattle.hut.specs.declared.hut.Pending.TheVariants.{Wakes, Comes, Later, Ends, Letter, Slot, Next}
use Rattle.hut.specs.declared.hut.Hut.{Hut}
use Rattle.hut.specs.declared.hut.Desk.{Desk}

abbrev pub as_text : Text → List ℕ
as_text t = vec_items t.text

abbrev pub as_event : Pending → run.Event
as_event (Wakes i) = wakes i
as_event (Comes r) = comes r.time r.place r.value
as_event Later = later
as_event Ends = ends
as_event (Letter i t) = letter i (as_text t)
as_event (Slot t) = slot (as_text t)
as_event Next = next

abbrev pub as_pending : Option Pending → List run.Event
as_pending None = []
as_pending (Some e) = as_event e ∷ []

abbrev pub as_machine : Hut → run.Machine
as_machine h = machine (vec_items h.memory) (as_pending h.pending) h.reads_at h.gone (each as_text (vec_items h.drawers))

-- what a machine is told next, with the memory that its step left
abbrev pub told_next : run.Machine → List ℕ → List run.Event → run.Machine
told_next x m evs = machine m evs x.reads_at x.gone x.slots

-- a step of a machine that has these events before it: none where it rests, and else its memory and its act, on the desk
abbrev pub StepDone : List ℕ → List run.Event → Option Act → Desk → Type 0
StepDone m [] r d = r ≡ None
StepDone m (ev ∷ evs) None d = ⊥
StepDone m (ev ∷ evs) (Some a) d =
    (vec_items d.memory ≡ (own.step m ev).memory) × (act_back a (vec_items d.out) ≡ (own.step m ev).act)
