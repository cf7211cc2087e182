-- One machine's turn: what it leaves as it is; that less is left of the machine itself whenever less is left of all; and that one that rests stays.
use Rattle.std.proofs.Common.{◌≡◌, ℕ, zero, suc, ◌+◌, ◌<◌, ◌≤◌, false, ◌&&◌, leb, ltb, eqb, [], ◌∷◌, ◌++◌, length, Some, None, Option, refl, ap, ap₂, ◌∙◌, arith}
use Rattle.std.proofs.lemmas.Bool.{both_ways, and_parts, eqb-true}
use Rattle.sums.specs.Sums.{Gauges}
use Rattle.sums.proofs.Picks.{pick_both}
use Rattle.machine.specs.Run.{nth_row}
use Rattle.protocol.specs.Limits.{crew}
use Rattle.protocol.specs.Memory.{Memory}
use Rattle.protocol.specs.Phases.{Reaction, Phase, Act, more, from, let_go, sends, keep_root, keep_page, keep_cursor, recall_root, recall_page, recall_cursor, tells, rests, Event, go, at_end, later}
use Rattle.protocol.specs.Searches.{put₂, sum_below}
use Rattle.protocol.specs.Statements.{Letter}
use Rattle.protocol.specs.Step.{reacts}
use Rattle.protocol.proofs.Puts.{put_other}
use Rattle.protocol.proofs.Sums.{sum_scaled, sum_but}
use Rattle.protocol_world.specs.Runs.{goes, poked, poked_by}
use Rattle.protocol_world.specs.Wall.{Told}
use Rattle.protocol_world.specs.Worlds.{Node, World, with_node, with_sending, with_telling, faulty, after, reading_next, reading_from, letting_go, acted, told_next, one_step}
use Rattle.protocol_world.proofs.Ranks.{letters_rank, letters_more, node_rank, nodes_rank, wires_rank, rank}

-- P holds after an act, whatever it is, if it holds of each outcome
module _ (gs : Gauges) (w : World) (i : ℕ) (p : Phase) (b : Memory) (P : World → Type 0) where
  pub on_any : (d : Act) → ((x : Node) → P (with_node w i x)) → ((x : Node) (j : ℕ) (l : Letter) → P (with_sending w i x j l)) →
      ((x : Node) (t : Told) → P (with_telling w i x t)) →
      P (faulty w) → P (acted gs w i p b d)
  on_any more x l t f =
      pick_both (leb (length (nth_row gs i)) (w.node i).reads_at) _ _ P (λ _. x (after (w.node i) p b (Some at_end)))
      (λ _. pick_both (ltb (w.node i).reads_at ((w.node i).gone + 4096)) _ _ P (λ _. x (reading_next (nth_row gs i) (w.node i) p b))
      (λ _. x (after (w.node i) p b (Some later))))
  on_any (from at) x l t f = pick_both _ _ _ P (λ _. x (reading_from (w.node i) p b at)) (λ _. f)
  on_any (let_go g) x l t f = pick_both _ _ _ P (λ _. x (letting_go (w.node i) p b g)) (λ _. f)
  on_any (sends j m) x l t f = pick_both _ _ _ P (λ _. l (after (w.node i) p b (Some go)) j m) (λ _. f)
  on_any (keep_root r) x l t f = x _
  on_any (keep_page s q pg) x l t f = x _
  on_any (keep_cursor c) x l t f = x _
  on_any recall_root x l t f = x _
  on_any (recall_page s q) x l t f = x _
  on_any recall_cursor x l t f = x _
  on_any (tells h k s) x l t f = t _ _
  on_any rests x l t f = x _

-- WHAT ONE DOES LEAVES THE OTHERS AS THEY ARE
module _ (gs : Gauges) (i j : ℕ) (apart : j ≡ i → ⊥) where
  acted_other : (w : World) (p : Phase) (b : Memory) (d : Act) → (acted gs w i p b d).node j ≡ w.node j
  acted_other w p b d = on_any gs w i p b (λ v. v.node j ≡ w.node j) d
      (λ x. put_other w.node i x j apart) (λ x _ _. put_other w.node i x j apart) (λ x _. put_other w.node i x j apart) refl

  pub step_other : (w : World) (p : Phase) (o : Option Event) → (told_next gs w i p o).node j ≡ w.node j
  step_other w p None = refl
  step_other w p (Some ev) = let d : Reaction = reacts p (w.node i).memory ev in acted_other w d.phase d.memory d.act

  pub goes_other : (n : ℕ) (w : World) → (goes n gs w i).node j ≡ w.node j
  unfolding goes
  goes_other zero w = refl
  goes_other (suc n) w = pick_both w.fault w _ (λ (v : World). v.node j ≡ w.node j) (λ _. refl)
      (λ _. goes_other n _ ∙ step_other w (w.node i).phase (w.node i).pending)

  poked_other_by : (w : World) (o : Option Event) → (poked_by w i o).node j ≡ w.node j
  poked_other_by w None = put_other w.node i _ j apart
  poked_other_by w (Some ev) = refl

  pub poked_other : (w : World) → (poked w i).node j ≡ w.node j
  poked_other w = poked_other_by w (w.node i).pending

-- ONE THAT RESTS
module _ (gs : Gauges) where
  pub goes_resting : (n : ℕ) (w : World) (i : ℕ) → (w.node i).pending ≡ None → goes n gs w i ≡ w
  unfolding goes
  goes_resting zero w i e = refl
  goes_resting (suc n) w i e = pick_both w.fault w _ (λ v. v ≡ w) (λ _. refl)
      (λ _. let same : one_step gs w i ≡ w = ap (told_next gs w i (w.node i).phase) e in ap (λ v. goes n gs v i) same ∙ goes_resting n w i e)

  -- one act more, where nothing is at fault
  pub goes_more : (n : ℕ) (w : World) (i : ℕ) (P : World → Type 0) → w.fault ≡ false → P (goes n gs (one_step gs w i) i) → P (goes (suc n) gs w i)
  unfolding goes
  goes_more n w i P f p = pick_both w.fault w _ P (λ q. absurd (both_ways _ f q)) (λ _. p)

-- WIRES: an act takes nothing from them
longer : (w : World) (i j : ℕ) (l : Letter) (a b : ℕ) → letters_rank (w.wire a b) ≤ letters_rank (put₂ w.wire i j (w.wire i j ++ l ∷ []) a b)
longer w i j l a b = pick_both (eqb a i && eqb b j) (w.wire i j ++ l ∷ []) (w.wire a b) (λ ls. letters_rank (w.wire a b) ≤ letters_rank ls)
    (λ e. let both = and_parts (eqb a i) (eqb b j) e in
    let same : w.wire a b ≡ w.wire i j = ap₂ w.wire (eqb-true a i both.0) (eqb-true b j both.1) in
    omega (arith, ap letters_rank same, letters_more (w.wire i j) l))
    (λ _. omega arith)

module _ (ahead : ℕ → ℕ) (long : ℕ → ℕ) where
  abbrev Kept : World → World → Type 0
  Kept w v = wires_rank ahead long w ≤ wires_rank ahead long v

  acted_wires : (gs : Gauges) (w : World) (i : ℕ) (p : Phase) (b : Memory) (d : Act) → Kept w (acted gs w i p b d)
  unfolding wires_rank
  acted_wires gs w i p b d = on_any gs w i p b (Kept w) d (λ x. omega arith)
      (λ x j l. omega (
        arith,
        sum_scaled 1 0 (λ a. sum_below (λ c. letters_rank (w.wire a c)) crew)
            (λ a. sum_below (λ c. letters_rank (put₂ w.wire i j (w.wire i j ++ l ∷ []) a c)) crew) crew
            (λ a _. omega (
              arith,
              sum_scaled 1 0 (λ c. letters_rank (w.wire a c)) (λ c. letters_rank (put₂ w.wire i j (w.wire i j ++ l ∷ []) a c)) crew
                  (λ c _. omega (arith, longer w i j l a c)),
            )),
      ))
      (λ x t. omega arith) (omega arith)

  step_wires : (gs : Gauges) (w : World) (i : ℕ) (p : Phase) (o : Option Event) → Kept w (told_next gs w i p o)
  step_wires gs w i p None = omega arith
  step_wires gs w i p (Some ev) = let d : Reaction = reacts p (w.node i).memory ev in acted_wires gs w i d.phase d.memory d.act

  -- WHAT IS LEFT OF ONE: it falls with what is left of all
  node_less : (w v : World) (i : ℕ) → i < crew → ((j : ℕ) → (j ≡ i → ⊥) → v.node j ≡ w.node j) → Kept w v → rank ahead long v < rank ahead long w →
      node_rank ahead (long i) (v.node i) < node_rank ahead (long i) (w.node i)
  unfolding nodes_rank
  node_less w v i lt others wires less =
      omega (
        arith,
        wires,
        less,
        sum_but (λ j. node_rank ahead (long j) (w.node j)) (λ j. node_rank ahead (long j) (v.node j)) i crew lt
            (λ j l ne. ap (λ y. node_rank ahead (long j) y) (others j ne)),
      )

  pub turn_less : (gs : Gauges) (w : World) (i : ℕ) → i < crew → rank ahead long (one_step gs w i) < rank ahead long w →
      node_rank ahead (long i) ((one_step gs w i).node i) < node_rank ahead (long i) (w.node i)
  turn_less gs w i lt less =
      node_less w (one_step gs w i) i lt (λ j ne. step_other gs i j ne w (w.node i).phase (w.node i).pending)
      (step_wires gs w i (w.node i).phase (w.node i).pending) less
