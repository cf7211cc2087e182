-- Huts as machines of the definitions: one of them looked at, and one set.
use Rattle.std.proofs.Common.{◌≡◌, ℕ, zero, suc, ◌<◌, ◌≤◌, true, false, List, [], ◌∷◌, length, get_or, set, Some, None, sym, refl, ap, ◌∙◌, arith}
use Rattle.std.specs.Borrow.{MutBor}
use Rattle.std.specs.List.{IsItemAtMut}
use Rattle.std.proofs.lemmas.Bool.{ltb-true, ltb-false}
use Rattle.sums.specs.Sums.{each, none_of}
use Rattle.machine.specs.Run as run
use Rattle.machine.specs.Run.{machine, machine_at, set_nth, with_machine, next, poked}
use Rattle.hut.specs.Played.{as_machine, told_next}
use Rattle.hut.specs.declared.hut.Hut.{Hut}
use Rattle.sums.proofs.Eaches.{length_each}
use Rattle.promise.proofs.Machines.{machine_past, set_past}
use Rattle.hut.proofs.Eaches.{each_set_nth}

pub hut_at : (hs : List Hut) (i : ℕ) (h : Hut) → i < length hs → h ≡ get_or hs i h → machine_at (each as_machine hs) i ≡ as_machine h
unfolding each machine_at
hut_at [] i h lt is = absurd (omega arith)
hut_at (x ∷ hs) zero h lt is = ap as_machine (sym is)
hut_at (x ∷ hs) (suc i) h lt is = hut_at hs i h (omega arith) is

-- what a hut that is lent says of its machine, and that there is none
pub lent : (hs : List Hut) (i : ℕ) (h : MutBor Hut) → IsItemAtMut hs i (Some h) → machine_at (each as_machine hs) i ≡ as_machine h.now
lent hs i h item = hut_at hs i h.now (ltb-true _ _ (sym item.0)) item.1

pub none_lent : (hs : List Hut) (i : ℕ) → IsItemAtMut hs i None → length hs ≤ i
none_lent hs i item = ltb-false _ _ (sym item.0)

pub hut_past : (hs : List Hut) (i : ℕ) → length hs ≤ i → machine_at (each as_machine hs) i ≡ machine [] [] 0 0 []
hut_past hs i le = machine_past (each as_machine hs) i (rw (length_each as_machine hs) le)

-- a world whose machines are these huts
abbrev pub huts_world : List Hut → run.World → run.World
huts_world hs w = record { machines = each as_machine hs; wires = w.wires; told = w.told; fault = w.fault }

pub hut_set : (hs : List Hut) (w : run.World) (i : ℕ) (h : Hut) → huts_world (set hs i h) w ≡ with_machine (huts_world hs w) i (as_machine h)
hut_set hs w i h = ap (λ ms. record { machines = ms; wires = w.wires; told = w.told; fault = w.fault }) (each_set_nth as_machine hs i h)

-- a machine that is set to what it is
pub set_same : (ms : List run.Machine) (i : ℕ) (x : run.Machine) → machine_at ms i ≡ x → set_nth ms i x ≡ ms
unfolding set_nth machine_at
set_same [] i x e = refl
set_same (m ∷ ms) zero x e = ap (λ y. y ∷ ms) (sym e)
set_same (m ∷ ms) (suc i) x e = ap (λ l. m ∷ l) (set_same ms i x e)

-- a hut that was lent and is as it was
pub hut_back : (hs : List Hut) (w : run.World) (i : ℕ) (h : Hut) (x : run.Machine) → machine_at (each as_machine hs) i ≡ x → as_machine h ≡ x →
    huts_world (set hs i h) w ≡ huts_world hs w
hut_back hs w i h x is e = hut_set hs w i h ∙ ap (λ ms. record { machines = ms; wires = w.wires; told = w.told; fault = w.fault }) (set_same (each as_machine hs) i (as_machine h) (is ∙ sym e))

module _ (w : run.World) (i : ℕ) where
  pub poked_rest : (x : run.Machine) → machine_at w.machines i ≡ x → none_of x.pending ≡ true → poked w i ≡ with_machine w i (told_next x x.memory (next ∷ []))
  poked_rest x is e = simp (is, e)

  pub poked_busy : (x : run.Machine) → machine_at w.machines i ≡ x → none_of x.pending ≡ false → poked w i ≡ w
  poked_busy x is e = simp (is, e)

-- there is no such hut
pub poked_past : (hs : List Hut) (w : run.World) (i : ℕ) → length hs ≤ i → poked (huts_world hs w) i ≡ huts_world hs w
unfolding none_of
poked_past hs w i le =
    let far : length (each as_machine hs) ≤ i = rw (length_each as_machine hs) le in
    poked_rest (huts_world hs w) i (machine [] [] 0 0 []) (hut_past hs i le) refl
    ∙ ap (λ ms. record { machines = ms; wires = w.wires; told = w.told; fault = w.fault }) (set_past (each as_machine hs) i (told_next (machine [] [] 0 0 []) [] (next ∷ [])) far)
