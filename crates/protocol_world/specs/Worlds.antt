-- Machines as records, each with what its drawers stand for, and a queue of letters for each pair; what an act changes. Assumes nothing: these are definitions.
use Rattle.std.specs.Prelude.{ℕ, suc, ◌+◌, Bool, true, false, not, ◌&&◌, List, [], ◌∷◌, ◌++◌, length, Some, None, Option, ◌==◌, nat_le, nat_lt, slice_index_or}
use Rattle.sums.specs.Parts.{no_reading}
use Rattle.sums.specs.Sums.{pick, Reading, Gauges}
use Rattle.machine.specs.Run.{nth_row}
use Rattle.protocol.specs.Limits.{crew}
use Rattle.protocol.specs.Memory.{Cursor, Memory, new_memory}
use Rattle.protocol.specs.Phases.{Phase, asleep, Event, wakes, comes, later, at_end, root_is, page_is, cursor_is, go, Act, more, from, let_go, sends, keep_root, keep_page, keep_cursor, recall_root, recall_page, recall_cursor, tells, rests, Reaction}
use Rattle.protocol.specs.Reader.{PageSet, same_set, Root, blank_root}
use Rattle.protocol.specs.Searches.{put, put₂}
use Rattle.protocol.specs.Statements.{Letter}
use Rattle.protocol.specs.Step.{reacts}
use Rattle.protocol.specs.Tables.{Page}
use Rattle.protocol_world.specs.Wall.{Told}

-- a machine, with its gauge and what its drawers stand for; a strike leaves what is released, and the drawers
pub record Node : Type 0 where
  pub phase : Phase
  pub memory : Memory
  pub pending : Option Event  -- what it is told next; none: it rests
  pub reads_at : ℕ  -- the place in its row of the next reading that comes
  pub gone : ℕ  -- how many readings it has released
  pub root : Root
  pub pages : PageSet → ℕ → Option Page  -- nothing: never kept
  pub cursor : Cursor

pub record World : Type 0 where
  pub node : ℕ → Node
  pub wire : ℕ → ℕ → List Letter  -- from the one to the other, the oldest first
  pub told : List Told  -- the wall
  pub fault : Bool  -- a machine did what may not be done

abbrev pub with_node : World → ℕ → Node → World
with_node w i x = record { node = put w.node i x; wire = w.wire; told = w.told; fault = w.fault }

abbrev pub faulty : World → World
faulty w = record { node = w.node; wire = w.wire; told = w.told; fault = true }

-- a node with a new memory, that is told of something next, and is otherwise as it was
abbrev pub after : Node → Phase → Memory → Option Event → Node
after x p b ev = record { phase = p; memory = b; pending = ev; reads_at = x.reads_at; gone = x.gone; root = x.root; pages = x.pages; cursor = x.cursor }

-- THE SAME, with the next reading of the row; with readings to come from a place on; with readings released; and with one drawer, or page, kept
abbrev pub reading_next : List Reading → Node → Phase → Memory → Node
reading_next row x p b =
    record {
      phase = p;
      memory = b;
      pending = Some (comes (slice_index_or row x.reads_at no_reading));
      reads_at = suc x.reads_at;
      gone = x.gone;
      root = x.root;
      pages = x.pages;
      cursor = x.cursor;
    }

abbrev pub reading_from : Node → Phase → Memory → ℕ → Node
reading_from x p b at = record { phase = p; memory = b; pending = Some go; reads_at = at; gone = x.gone; root = x.root; pages = x.pages; cursor = x.cursor }

abbrev pub letting_go : Node → Phase → Memory → ℕ → Node
letting_go x p b g = record { phase = p; memory = b; pending = Some go; reads_at = x.reads_at; gone = g; root = x.root; pages = x.pages; cursor = x.cursor }

abbrev pub with_root : Node → Phase → Memory → Root → Node
with_root x p b r = record { phase = p; memory = b; pending = Some go; reads_at = x.reads_at; gone = x.gone; root = r; pages = x.pages; cursor = x.cursor }

abbrev pub with_kept_page : Node → Phase → Memory → PageSet → ℕ → Page → Node
with_kept_page x p b s q pg =
    record {
      phase = p;
      memory = b;
      pending = Some go;
      reads_at = x.reads_at;
      gone = x.gone;
      root = x.root;
      pages = λ t j. pick (same_set t s && j == q) (Some pg) (x.pages t j);
      cursor = x.cursor;
    }

abbrev pub with_drawer : Node → Phase → Memory → Cursor → Node
with_drawer x p b c = record { phase = p; memory = b; pending = Some go; reads_at = x.reads_at; gone = x.gone; root = x.root; pages = x.pages; cursor = c }

-- a letter goes on a wire, or a row on the wall
abbrev pub with_sending : World → ℕ → Node → ℕ → Letter → World
with_sending w i x j l = record { node = put w.node i x; wire = put₂ w.wire i j (w.wire i j ++ l ∷ []); told = w.told; fault = w.fault }

abbrev pub with_telling : World → ℕ → Node → Told → World
with_telling w i x t = record { node = put w.node i x; wire = w.wire; told = w.told ++ t ∷ []; fault = w.fault }

-- ONE ACT of node i, which is x, with its phase and memory after it; what may not be done is a fault
abbrev pub acted_at : Gauges → World → ℕ → Node → Phase → Memory → Act → World
acted_at gs w i x p b more =
    pick (nat_le (length (nth_row gs i)) x.reads_at) (with_node w i (after x p b (Some at_end)))
    (pick (nat_lt x.reads_at (x.gone + 4096)) (with_node w i (reading_next (nth_row gs i) x p b)) (with_node w i (after x p b (Some later))))
acted_at gs w i x p b (from at) = pick (nat_le x.gone at && nat_le at (x.gone + 4096)) (with_node w i (reading_from x p b at)) (faulty w)
acted_at gs w i x p b (let_go g) = pick (nat_le x.gone g && nat_le g x.reads_at) (with_node w i (letting_go x p b g)) (faulty w)
acted_at gs w i x p b (sends j l) = pick (nat_lt j crew && not (i == j)) (with_sending w i (after x p b (Some go)) j l) (faulty w)
acted_at gs w i x p b (keep_root r) = with_node w i (with_root x p b r)
acted_at gs w i x p b (keep_cursor c) = with_node w i (with_drawer x p b c)
acted_at gs w i x p b (keep_page s q pg) = with_node w i (with_kept_page x p b s q pg)
acted_at gs w i x p b (recall_page s q) = with_node w i (after x p b (Some (page_is (x.pages s q))))
acted_at gs w i x p b recall_root = with_node w i (after x p b (Some (root_is x.root)))
acted_at gs w i x p b recall_cursor = with_node w i (after x p b (Some (cursor_is x.cursor)))
acted_at gs w i x p b (tells h k s) = with_telling w i (after x p b (Some go)) (record { hour = h; place = k; entry = s })
acted_at gs w i x p b rests = with_node w i (after x p b None)

abbrev pub acted : Gauges → World → ℕ → Phase → Memory → Act → World
acted gs w i p b d = acted_at gs w i (w.node i) p b d

abbrev pub done : Gauges → World → ℕ → Reaction → World
done gs w i d = acted gs w i d.phase d.memory d.act

-- ONE STEP: it is told what is pending, if anything is
abbrev pub told_next : Gauges → World → ℕ → Phase → Option Event → World
told_next gs w i p None = w
told_next gs w i p (Some ev) = done gs w i (reacts p (w.node i).memory ev)

abbrev pub one_step : Gauges → World → ℕ → World
one_step gs w i = told_next gs w i (w.node i).phase (w.node i).pending

-- THE START
abbrev pub new_node : ℕ → Node
new_node i =
    record {
      phase = asleep;
      memory = new_memory 0;
      pending = Some (wakes i);
      reads_at = 0;
      gone = 0;
      root = blank_root 0;
      pages = λ _ _. None;
      cursor = record { hour = 0; slot = 0 };
    }

abbrev pub new_world : World
new_world = record { node = new_node; wire = λ a b. []; told = []; fault = false }
