-- A machine is told `later` only where its roll is full. No proof of safety asks for it; that all goes on needs it.
use Rattle.std.proofs.Common.{◌≡◌, ℕ, ◌+◌, ◌≤◌, leb, ltb, List, [], ◌∷◌, length, Some, None, Option}
use Rattle.std.proofs.lemmas.Bool.{ltb-false}
use Rattle.sums.specs.Sums.{Gauges}
use Rattle.sums.proofs.Picks.{pick_both}
use Rattle.machine.specs.Run.{nth_row}
use Rattle.protocol.specs.Memory.{Memory}
use Rattle.protocol.specs.Phases.{Phase, Reaction, Event, later, at_end, letter, root_is, page_is, cursor_is, go, Act, more, from, let_go, sends, keep_root, keep_page, keep_cursor, recall_root, recall_page, recall_cursor, tells, rests}
use Rattle.protocol.specs.Searches.{put}
use Rattle.protocol.specs.Statements.{Letter}
use Rattle.protocol.specs.Step.{reacts}
use Rattle.protocol.proofs.Puts.{put_each}
use Rattle.protocol_world.specs.Runs.{waking, poked_by, brought}
use Rattle.protocol_world.specs.Worlds.{Node, World, after, reading_next, reading_from, letting_go, with_root, with_kept_page, with_drawer, acted, told_next}
use Rattle.protocol_world.proofs.Induction.{Keeps}

abbrev pub FullRoll : Node → Type 0
FullRoll x = x.pending ≡ Some later → x.gone + 4096 ≤ x.reads_at

abbrev pub FullRolls : World → Type 0
FullRolls w = (i : ℕ) → FullRoll (w.node i)

module _ (gs : Gauges) where
  module _ (w : World) (h : FullRolls w) (i : ℕ) where
    abbrev x : Node
    x = w.node i

    set_full : (x₁ : Node) → FullRoll x₁ → (j : ℕ) → FullRoll (put w.node i x₁ j)
    set_full x₁ f = put_each w.node i x₁ (λ _ y. FullRoll y) f (λ j _. h j)

    acted_full : (p : Phase) (b : Memory) (d : Act) → FullRolls (acted gs w i p b d)
    acted_full p b more = pick_both (leb (length (nth_row gs i)) x.reads_at) _ _ FullRolls (λ _. set_full (after x p b (Some at_end)) (λ e. cc))
        (λ _. pick_both (ltb x.reads_at (x.gone + 4096)) _ _ FullRolls (λ _. set_full (reading_next (nth_row gs i) x p b) (λ e. cc))
        (λ full. set_full (after x p b (Some later)) (λ _. ltb-false x.reads_at (x.gone + 4096) full)))
    acted_full p b (from at) = pick_both _ _ _ FullRolls (λ _. set_full (reading_from x p b at) (λ e. cc)) (λ _. h)
    acted_full p b (let_go g) = pick_both _ _ _ FullRolls (λ _. set_full (letting_go x p b g) (λ e. cc)) (λ _. h)
    acted_full p b (sends j l) = pick_both _ _ _ FullRolls (λ _. set_full (after x p b (Some go)) (λ e. cc)) (λ _. h)
    acted_full p b (keep_root r) = set_full (with_root x p b r) (λ e. cc)
    acted_full p b (keep_page s q pg) = set_full (with_kept_page x p b s q pg) (λ e. cc)
    acted_full p b (keep_cursor c) = set_full (with_drawer x p b c) (λ e. cc)
    acted_full p b recall_root = set_full (after x p b (Some (root_is x.root))) (λ e. cc)
    acted_full p b (recall_page s q) = set_full (after x p b (Some (page_is (x.pages s q)))) (λ e. cc)
    acted_full p b recall_cursor = set_full (after x p b (Some (cursor_is x.cursor))) (λ e. cc)
    acted_full p b (tells m k s) = set_full (after x p b (Some go)) (λ e. cc)
    acted_full p b rests = set_full (after x p b None) (λ e. cc)

    step_full : (p : Phase) (o : Option Event) → FullRolls (told_next gs w i p o)
    step_full p None = h
    step_full p (Some ev) = let d : Reaction = reacts p x.memory ev in acted_full d.phase d.memory d.act

    poke_full : (o : Option Event) → FullRolls (poked_by w i o)
    poke_full None = set_full (after x x.phase x.memory (Some go)) (λ e. cc)
    poke_full (Some ev) = h

    bring_full : (a : ℕ) (o : Option Event) (ls : List Letter) → FullRolls (brought w a i o ls)
    bring_full a (Some ev) ls = h
    bring_full a None [] = h
    bring_full a None (l ∷ ls) = set_full (after x x.phase x.memory (Some (letter a l))) (λ e. cc)

  pub keeps_full : Keeps gs FullRolls
  keeps_full = record {
    steps = λ w i _ h. step_full w h i (w.node i).phase (w.node i).pending;
    pokes = λ w i _ h. poke_full w h i (w.node i).pending;
    delivers = λ w i j _ _ h. bring_full w h j i (w.node j).pending (w.wire i j);
    falls = λ w i _ h. set_full w h i (waking (w.node i) i) (λ e. cc);
  }
