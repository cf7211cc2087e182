-- All that can happen to machines of records, as it is given for engines: works, pokes, letters, strikes, and calm. Assumes nothing: these are definitions.
use Rattle.std.specs.Prelude.{ℕ, zero, suc, ◌&&◌, List, [], ◌∷◌, Some, None, Option, ◌==◌, nat_lt}
use Rattle.sums.specs.Sums.{pick, or, Gauges}
use Rattle.machine.specs.Run.{up_to}
use Rattle.machine.specs.Run as given
use Rattle.protocol.specs.Limits.{crew}
use Rattle.protocol.specs.Memory.{new_memory}
use Rattle.protocol.specs.Phases.{asleep, Event, wakes, letter, go}
use Rattle.protocol.specs.Searches.{put, put₂}
use Rattle.protocol.specs.Statements.{Letter}
use Rattle.protocol_world.specs.Worlds.{Node, World, with_node, after, one_step}

-- so many steps of one, unless something is at fault
unfoldable pub goes : ℕ → Gauges → World → ℕ → World
goes zero gs w i = w
goes (suc n) gs w i = pick w.fault w (goes n gs (one_step gs w i) i)

-- a node that rests is told to go on
abbrev pub poked_by : World → ℕ → Option Event → World
poked_by w i None = with_node w i (after (w.node i) (w.node i).phase (w.node i).memory (Some go))
poked_by w i (Some ev) = w

abbrev pub poked : World → ℕ → World
poked w i = poked_by w i (w.node i).pending

-- the oldest letter from i to j comes, if j rests
abbrev pub with_bringing : World → ℕ → ℕ → Letter → List Letter → World
with_bringing w i j l ls =
    record {
      node = put w.node j (after (w.node j) (w.node j).phase (w.node j).memory (Some (letter i l)));
      wire = put₂ w.wire i j ls;
      told = w.told;
      fault = w.fault;
    }

abbrev pub brought : World → ℕ → ℕ → Option Event → List Letter → World
brought w i j (Some ev) ls = w
brought w i j None [] = w
brought w i j None (l ∷ ls) = with_bringing w i j l ls

abbrev pub delivered : World → ℕ → ℕ → World
delivered w i j = brought w i j (w.node j).pending (w.wire i j)

-- A STRIKE: a node stops; its memory and all letters from it and to it are gone; it wakes
abbrev pub waking : Node → ℕ → Node
waking x i = record {
  phase = asleep;
  memory = new_memory 0;
  pending = Some (wakes i);
  reads_at = x.gone;
  gone = x.gone;
  root = x.root;
  pages = x.pages;
  cursor = x.cursor;
}

abbrev pub fallen : World → ℕ → World
fallen w i = record { node = put w.node i (waking (w.node i) i); wire = λ a b. pick (or (a == i) (b == i)) [] (w.wire a b); told = w.told; fault = w.fault }

-- what happens to one of the crew; nothing happens to others
unfoldable pub happened : Gauges → World → given.Item → World
happened gs w (given.works i n) = pick (nat_lt i crew) (goes n gs w i) w
happened gs w (given.poke i) = pick (nat_lt i crew) (poked w i) w
happened gs w (given.brings i j) = pick (nat_lt i crew && nat_lt j crew) (delivered w i j) w
happened gs w (given.falls i) = pick (nat_lt i crew) (fallen w i) w

unfoldable pub all_happened : Gauges → World → List given.Item → World
all_happened gs w [] = w
all_happened gs w (x ∷ xs) = all_happened gs (happened gs w x) xs

-- CALM: nothing is struck. In a round each is poked, and works; then of each pair one letter comes, if one is under way, and the one that it comes to works
unfoldable pub by_each : (World → ℕ → World) → World → List ℕ → World
by_each f w [] = w
by_each f w (i ∷ is) = by_each f (f w i) is

abbrev pub works_poked : ℕ → Gauges → World → ℕ → World
works_poked n gs w i = goes n gs (poked w i) i

abbrev pub works_given : ℕ → Gauges → ℕ → World → ℕ → World
works_given n gs j w i = goes n gs (delivered w i j) j

abbrev pub round : ℕ → Gauges → World → World
round n gs w = by_each (λ u j. by_each (works_given n gs j) u (up_to crew)) (by_each (works_poked n gs) w (up_to crew)) (up_to crew)

-- so many rounds, of so many acts a turn
unfoldable pub calm : ℕ → ℕ → Gauges → World → World
calm zero n gs w = w
calm (suc k) n gs w = calm k n gs (round n gs w)
