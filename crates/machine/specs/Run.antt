-- Eight machines, each beside its gauge, with slots that keep what they're given, and letters between them; any may stop at any time. Assumes nothing:
-- these are definitions.
use Rattle.std.specs.Prelude.{◌≡◌, ℕ, zero, suc, ◌+◌, ◌≤◌, Bool, true, false, not, ◌&&◌, ltb, List, [], ◌∷◌, ◌++◌, length, drop, ◌==◌, nat_eq, nat_le, nat_lt}
use Rattle.sums.specs.Sums.{pick, or, every, those, none_of, Reading, Gauges, ToldSum}

-- what a machine is told
pub data Event : Type 0 where
  wakes : ℕ → Event  -- which one it is; memory is as at the start
  comes : ℕ → ℕ → ℕ → Event  -- a reading: time, place, value
  later : Event  -- none for now: too many aren't let go of yet
  ends : Event  -- the gauge has no more
  letter : ℕ → List ℕ → Event  -- from a machine
  slot : List ℕ → Event  -- what's in the slot that was asked for
  next : Event

pub data Act : Type 0 where
  more : Act  -- the next reading
  from : ℕ → Act  -- readings are to come from a place in the gauge's row on
  let_go : ℕ → Act  -- those before a place are never asked for again
  sends : ℕ → List ℕ → Act  -- to a machine, up to 4,096 bytes
  keep : ℕ → List ℕ → Act  -- a slot, up to 4,096 bytes
  recall : ℕ → Act
  tells : ℕ → ℕ → ℕ → Act  -- an hour, a place, a sum
  rests : Act

pub record Step : Type 0 where
  pub memory : List ℕ
  pub act : Act

pub record Engine : Type 0 where
  pub start : List ℕ
  pub step : List ℕ → Event → Step

-- a machine: its memory, what it will be told next, if anything, where its gauge is read, what's let go of, and its slots
pub record Machine : Type 0 where
  pub memory : List ℕ
  pub pending : List Event
  pub reads_at : ℕ
  pub gone : ℕ
  pub slots : List (List ℕ)

pub record Letter : Type 0 where
  pub sender : ℕ
  pub reader : ℕ
  pub text : List ℕ

pub record World : Type 0 where
  pub machines : List Machine
  pub wires : List Letter  -- in the order in which they were sent
  pub told : List ToldSum
  pub fault : Bool

unfoldable pub so_many_of : {A : Type 0} → ℕ → A → List A
so_many_of zero x = []
so_many_of (suc n) x = x ∷ so_many_of n x

abbrev pub machine : List ℕ → List Event → ℕ → ℕ → List (List ℕ) → Machine
machine m ev p g ss = record { memory = m; pending = ev; reads_at = p; gone = g; slots = ss }

unfoldable pub machine_at : List Machine → ℕ → Machine
machine_at [] i = machine [] [] 0 0 []
machine_at (m ∷ ms) zero = m
machine_at (m ∷ ms) (suc i) = machine_at ms i

unfoldable pub set_nth : {A : Type 0} → List A → ℕ → A → List A
set_nth [] i x = []
set_nth (y ∷ ys) zero x = x ∷ ys
set_nth (y ∷ ys) (suc i) x = y ∷ set_nth ys i x

unfoldable pub nth_row : {A : Type 0} → List (List A) → ℕ → List A
nth_row [] i = []
nth_row (r ∷ rs) zero = r
nth_row (r ∷ rs) (suc i) = nth_row rs i

abbrev pub with_machine : World → ℕ → Machine → World
with_machine w i m = record { machines = set_nth w.machines i m; wires = w.wires; told = w.told; fault = w.fault }

abbrev pub faulty : World → World
faulty w = record { machines = w.machines; wires = w.wires; told = w.told; fault = true }

unfoldable pub first_reading : List Reading → Event
first_reading [] = ends
first_reading (r ∷ rs) = comes r.time r.key r.value

abbrev pub at_end : List Reading → ℕ → Bool
at_end rs p = nat_le (length rs) p

abbrev pub bytes : List ℕ → Bool
bytes bs = nat_le (length bs) 4096 && every (λ b. ltb b 256) bs

-- one act: of machine i, with its memory after the step
unfoldable pub acted : Gauges → World → ℕ → List ℕ → Act → World
acted gs w i m more =
    let x : Machine = machine_at w.machines i in
    pick (at_end (nth_row gs i) x.reads_at) (with_machine w i (machine m (ends ∷ []) x.reads_at x.gone x.slots))
    (pick (nat_lt x.reads_at (x.gone + 4096))
    (with_machine w i (machine m (first_reading (drop x.reads_at (nth_row gs i)) ∷ []) (suc x.reads_at) x.gone x.slots))
    (with_machine w i (machine m (later ∷ []) x.reads_at x.gone x.slots)))
acted gs w i m (from p) =
    let x : Machine = machine_at w.machines i in
    pick (nat_le x.gone p && nat_le p (x.gone + 4096)) (with_machine w i (machine m (next ∷ []) p x.gone x.slots)) (faulty w)
acted gs w i m (let_go p) =
    let x : Machine = machine_at w.machines i in
    pick (nat_le x.gone p && nat_le p x.reads_at) (with_machine w i (machine m (next ∷ []) x.reads_at p x.slots)) (faulty w)
acted gs w i m (sends j bs) =
    let x : Machine = machine_at w.machines i in
    let v : World = with_machine w i (machine m (next ∷ []) x.reads_at x.gone x.slots) in
    pick ((nat_lt j 8 && not (i == j)) && bytes bs)
    (record { machines = v.machines; wires = v.wires ++ record { sender = i; reader = j; text = bs } ∷ []; told = v.told; fault = v.fault }) (faulty w)
acted gs w i m (keep s bs) =
    let x : Machine = machine_at w.machines i in
    pick (nat_lt s 256 && bytes bs) (with_machine w i (machine m (next ∷ []) x.reads_at x.gone (set_nth x.slots s bs))) (faulty w)
acted gs w i m (recall s) =
    let x : Machine = machine_at w.machines i in
    pick (nat_lt s 256) (with_machine w i (machine m (slot (nth_row x.slots s) ∷ []) x.reads_at x.gone x.slots)) (faulty w)
acted gs w i m (tells h k s) =
    let x : Machine = machine_at w.machines i in
    let v : World = with_machine w i (machine m (next ∷ []) x.reads_at x.gone x.slots) in
    record { machines = v.machines; wires = v.wires; told = v.told ++ record { hour = h; place = k; sum = s } ∷ []; fault = v.fault }
acted gs w i m rests =
    let x : Machine = machine_at w.machines i in
    with_machine w i (machine m [] x.reads_at x.gone x.slots)

-- what a machine is told next, if anything; so many acts
unfoldable pub one_step : Engine → Gauges → World → ℕ → List Event → World
one_step e gs w i [] = w
one_step e gs w i (ev ∷ evs) = acted gs w i (e.step (machine_at w.machines i).memory ev).memory (e.step (machine_at w.machines i).memory ev).act

unfoldable pub goes : ℕ → Engine → Gauges → World → ℕ → World
goes zero e gs w i = w
goes (suc n) e gs w i = pick w.fault w (goes n e gs (one_step e gs w i (machine_at w.machines i).pending) i)

-- a machine that rests is told to go on
abbrev pub poked : World → ℕ → World
poked w i =
    let x : Machine = machine_at w.machines i in
    pick (none_of x.pending) (with_machine w i (machine x.memory (next ∷ []) x.reads_at x.gone x.slots)) w

-- the oldest letter from i to j comes, if j rests
abbrev pub is_between : ℕ → ℕ → Letter → Bool
is_between i j l = l.sender == i && l.reader == j

unfoldable pub first_between : ℕ → ℕ → List Letter → List Letter
first_between i j [] = []
first_between i j (l ∷ ls) = pick (is_between i j l) (l ∷ []) (first_between i j ls)

unfoldable pub without_first : ℕ → ℕ → List Letter → List Letter
without_first i j [] = []
without_first i j (l ∷ ls) = pick (is_between i j l) ls (l ∷ without_first i j ls)

unfoldable pub given : World → ℕ → ℕ → List Letter → World
given w i j [] = w
given w i j (l ∷ ls) =
    let x : Machine = machine_at w.machines j in
    let v : World = with_machine w j (machine x.memory (letter i l.text ∷ []) x.reads_at x.gone x.slots) in
    record { machines = v.machines; wires = without_first i j w.wires; told = v.told; fault = v.fault }

abbrev pub delivered : World → ℕ → ℕ → World
delivered w i j = pick (none_of (machine_at w.machines j).pending) (given w i j (first_between i j w.wires)) w

-- a machine stops: its memory and all letters from it and to it are gone; it wakes
abbrev pub touches : ℕ → Letter → Bool
touches i l = or (l.sender == i) (l.reader == i)

abbrev pub fallen : Engine → World → ℕ → World
fallen e w i =
    let x : Machine = machine_at w.machines i in
    let v : World = with_machine w i (machine e.start (wakes i ∷ []) x.gone x.gone x.slots) in
    record { machines = v.machines; wires = those (λ l. not (touches i l)) w.wires; told = v.told; fault = v.fault }

-- WHAT CAN HAPPEN
pub data Item : Type 0 where
  works : ℕ → ℕ → Item  -- a machine does so many acts at most, till it rests
  poke : ℕ → Item
  brings : ℕ → ℕ → Item  -- a letter from the one to the other
  falls : ℕ → Item

unfoldable pub happened : Engine → Gauges → World → Item → World
happened e gs w (works i n) = goes n e gs w i
happened e gs w (poke i) = poked w i
happened e gs w (brings i j) = delivered w i j
happened e gs w (falls i) = fallen e w i

unfoldable pub all_happened : Engine → Gauges → World → List Item → World
all_happened e gs w [] = w
all_happened e gs w (i ∷ is) = all_happened e gs (happened e gs w i) is

-- CALM: nothing falls; round after round each machine is poked and works, and each letter there is at the head comes, and its reader works
unfoldable pub up_to : ℕ → List ℕ
up_to zero = []
up_to (suc n) = up_to n ++ n ∷ []

unfoldable pub by_each : (World → ℕ → World) → World → List ℕ → World
by_each f w [] = w
by_each f w (i ∷ is) = by_each f (f w i) is

abbrev pub round : ℕ → Engine → Gauges → World → World
round n e gs w =
    let v : World = by_each (λ u i. goes n e gs (poked u i) i) w (up_to 8) in
    by_each (λ u j. by_each (λ t i. goes n e gs (delivered t i j) j) u (up_to 8)) v (up_to 8)

unfoldable pub calm : ℕ → ℕ → Engine → Gauges → World → World
calm zero n e gs w = w
calm (suc k) n e gs w = calm k n e gs (round n e gs w)

unfoldable pub numbered : Engine → ℕ → List Machine
numbered e zero = []
numbered e (suc n) = numbered e n ++ machine e.start (wakes n ∷ []) 0 0 (so_many_of 256 []) ∷ []

abbrev pub new_world : Engine → World
new_world e = record { machines = numbered e 8; wires = []; told = []; fault = false }

unfoldable pub all_small : List ℕ → Bool
all_small ms = every (λ m. ltb m 18446744073709551616) ms

-- memory is all 0 at the start; it never grows, nor do its numbers beyond 64 bits
unfoldable pub Steady : Engine → Type 0
Steady e =
    (length e.start ≤ 65536) × (every (λ m. nat_eq m 0) e.start ≡ true)
    × ((m : List ℕ) (ev : Event) → (length (e.step m ev).memory ≡ length m) × (all_small m ≡ true → all_small (e.step m ev).memory ≡ true))
