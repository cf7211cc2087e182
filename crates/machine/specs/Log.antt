-- The log of a run, with any engine: what machines did, and when they were struck, the latest first. Assumes nothing: these are definitions.
use Rattle.std.specs.Prelude.{ℕ, zero, suc, ◌+◌, Bool, false, ◌&&◌, List, [], ◌∷◌, ◌==◌}
use Rattle.sums.specs.Sums.{pick, Gauges}
use Rattle.machine.specs.Run.{Event, Act, tells, Engine, World, machine_at, one_step, Item, works, poke, brings, falls, happened}

-- what a machine did, or that one was struck
pub data Mark : Type 0 where
  did : ℕ → Act → Mark
  struck : ℕ → Mark

-- it goes along with the world: after a step, so many steps, a thing that happens, and all of a list
unfoldable pub step_log : Engine → World → ℕ → List Event → List Mark → List Mark
step_log e w i [] log = log
step_log e w i (ev ∷ evs) log = did i (e.step (machine_at w.machines i).memory ev).act ∷ log

unfoldable pub goes_log : ℕ → Engine → Gauges → World → ℕ → List Mark → List Mark
goes_log zero e gs w i log = log
goes_log (suc n) e gs w i log =
    pick w.fault log (goes_log n e gs (one_step e gs w i (machine_at w.machines i).pending) i (step_log e w i (machine_at w.machines i).pending log))

unfoldable pub happened_log : Engine → Gauges → World → Item → List Mark → List Mark
happened_log e gs w (works i n) log = goes_log n e gs w i log
happened_log e gs w (poke i) log = log
happened_log e gs w (brings i j) log = log
happened_log e gs w (falls i) log = struck i ∷ log

unfoldable pub all_log : Engine → Gauges → World → List Item → List Mark → List Mark
all_log e gs w [] log = log
all_log e gs w (i ∷ is) log = all_log e gs (happened e gs w i) is (happened_log e gs w i log)

-- ONE ROW, of hour h and place k
abbrev pub is_telling : (h k : ℕ) → Act → Bool
is_telling h k (tells g p s) = g == h && p == k
is_telling h k a = false

-- the last that machine i did is telling it, and it was not struck since
unfoldable pub has_just_told : (h k i : ℕ) → List Mark → Bool
has_just_told h k i [] = false
has_just_told h k i (did j a ∷ log) = pick (i == j) (is_telling h k a) (has_just_told h k i log)
has_just_told h k i (struck j ∷ log) = pick (i == j) false (has_just_told h k i log)

-- how often a machine was struck between telling it and the end of its next act
unfoldable pub struck_telling : (h k : ℕ) → List Mark → ℕ
struck_telling h k [] = 0
struck_telling h k (did i a ∷ log) = struck_telling h k log
struck_telling h k (struck i ∷ log) = pick (has_just_told h k i log) 1 0 + struck_telling h k log

-- how often lightning strikes machine m
unfoldable pub strokes_of : ℕ → List Item → ℕ
strokes_of m [] = 0
strokes_of m (works i n ∷ is) = strokes_of m is
strokes_of m (poke i ∷ is) = strokes_of m is
strokes_of m (brings i j ∷ is) = strokes_of m is
strokes_of m (falls i ∷ is) = pick (i == m) 1 0 + strokes_of m is
