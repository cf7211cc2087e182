-- What an act leaves in memory, where nothing is at fault: what the step leaves.
use Rattle.std.proofs.Common.{◌≡◌, ℕ, ◌+◌, false, leb, ltb, List, [], ◌∷◌, ◌++◌, length, Some, None, refl, ap, ◌∙◌}
use Rattle.std.proofs.lemmas.Bool.{both_ways}
use Rattle.sums.specs.Sums.{Gauges}
use Rattle.sums.proofs.Picks.{pick_both}
use Rattle.machine.specs.Run.{nth_row}
use Rattle.protocol.specs.Memory.{Memory}
use Rattle.protocol.specs.Phases.{Phase, later, at_end, root_is, page_is, cursor_is, go, Act, more, from, let_go, sends, keep_root, keep_page, keep_cursor, recall_root, recall_page, recall_cursor, tells, rests}
use Rattle.protocol.specs.Searches.{put, put₂}
use Rattle.protocol.specs.Statements.{Letter}
use Rattle.protocol.proofs.Puts.{put_same}
use Rattle.protocol_world.specs.Wall.{Told}
use Rattle.protocol_world.specs.Worlds.{Node, World, faulty, after, reading_next, reading_from, letting_go, with_root, with_kept_page, with_drawer, acted}

module _ (gs : Gauges) (v : World) (i : ℕ) (p : Phase) (b : Memory) where
  pub record Left (u : World) : Type 0 where
    pub mind : u.fault ≡ false → ((u.node i).phase ≡ p) × ((u.node i).memory ≡ b)

  -- a node that is set, with this memory
  set_left : (x : Node) → x.phase ≡ p → x.memory ≡ b → (wires : ℕ → ℕ → List Letter) (ts : List Told) →
      Left (record { node = put v.node i x; wire = wires; told = ts; fault = v.fault })
  set_left x e₁ e₂ wires ts = record {
    mind = λ f. (
      ap (λ (y : Node). y.phase) (put_same v.node i x) ∙ e₁,
      ap (λ (y : Node). y.memory) (put_same v.node i x)
          ∙ e₂,
    );
  }

  fault_left : Left (faulty v)
  fault_left = record { mind = λ f. absurd (both_ways _ f refl) }

  abbrev x₀ : Node
  x₀ = v.node i

  pub acted_mind : (d : Act) → Left (acted gs v i p b d)
  acted_mind more = pick_both (leb (length (nth_row gs i)) x₀.reads_at) _ _ Left
      (λ _. set_left (after x₀ p b (Some at_end)) refl refl v.wire v.told)
      (λ _. pick_both (ltb x₀.reads_at (x₀.gone + 4096)) _ _ Left (λ _. set_left (reading_next (nth_row gs i) x₀ p b) refl refl v.wire v.told)
      (λ _. set_left (after x₀ p b (Some later)) refl refl v.wire v.told))
  acted_mind (from at) = pick_both _ _ _ Left (λ _. set_left (reading_from x₀ p b at) refl refl v.wire v.told) (λ _. fault_left)
  acted_mind (let_go g) = pick_both _ _ _ Left (λ _. set_left (letting_go x₀ p b g) refl refl v.wire v.told) (λ _. fault_left)
  acted_mind (sends j l) = pick_both _ _ _ Left (λ _. set_left (after x₀ p b (Some go)) refl refl (put₂ v.wire i j (v.wire i j ++ l ∷ [])) v.told)
      (λ _. fault_left)
  acted_mind (keep_root r) = set_left (with_root x₀ p b r) refl refl v.wire v.told
  acted_mind (keep_page s q pg) = set_left (with_kept_page x₀ p b s q pg) refl refl v.wire v.told
  acted_mind (keep_cursor c) = set_left (with_drawer x₀ p b c) refl refl v.wire v.told
  acted_mind recall_root = set_left (after x₀ p b (Some (root_is x₀.root))) refl refl v.wire v.told
  acted_mind (recall_page s q) = set_left (after x₀ p b (Some (page_is (x₀.pages s q)))) refl refl v.wire v.told
  acted_mind recall_cursor = set_left (after x₀ p b (Some (cursor_is x₀.cursor))) refl refl v.wire v.told
  acted_mind (tells h k s) = set_left (after x₀ p b (Some go)) refl refl v.wire (v.told ++ record { hour = h; place = k; entry = s } ∷ [])
  acted_mind rests = set_left (after x₀ p b None) refl refl v.wire v.told
