-- After a root record: the row is read from its place on, and what is before is released. And the cursor behind a row that was told is kept.
use Rattle.std.proofs.Common.{◌≡◌, ℕ, ◌+◌, ◌<◌, true, List, [], ◌∷◌, length, refl}
use Rattle.std.proofs.lemmas.Bool.{lt-ltb}
use Rattle.protocol.specs.Limits.{crew}
use Rattle.protocol.specs.Memory.{Memory, with_cursor}
use Rattle.protocol.specs.Phases.{Phase}
use Rattle.protocol.specs.Phases as phase
use Rattle.protocol_bridge.specs.Same.{SameMemory}
use Rattle.gauge.specs.Memory.{at, cells, limit, phase_at, index_at, telling_at, me_at, cursor_hour_at, cursor_slot_at}
use Rattle.gauge.specs.Views.{phase_in, memory_of}
use Rattle.gauge.specs.Gauge.{row_placed, row_released}
use Rattle.exchange.specs.Adder.{cursor_noted}
use Rattle.whole.specs.Seen.{filled_as_said}
use Rattle.whole.proofs.Cells.{sets, found, all_in}
use Rattle.whole.proofs.Heads.{phase_now, mail_now, tables_now, said_now, memory_now}

-- what a handler leaves: the phase, what the memory stands for, and the flag of the tables as it should be
pub record Leaves (p : Phase) (b : Memory) (m : List ℕ) : Type 0 where
  pub phase : phase_in m ≡ p
  pub memory : SameMemory b (memory_of m)
  pub said : filled_as_said m ≡ true

module _ (m : List ℕ) (len : length m ≡ cells) (me : at m me_at < crew) (said : filled_as_said m ≡ true) where
  pub placed_leaves : Leaves phase.placed (memory_of m) (row_placed m).memory
  unfolding sets found all_in
  placed_leaves =
      let xs : List (ℕ × ℕ) = (phase_at, 5) ∷ [] in
      record {
        phase = phase_now xs m len refl;
        memory = memory_now xs m len refl (memory_of m) me refl refl refl refl refl refl refl (tables_now xs m len refl refl (memory_of m) refl) (mail_now xs m len refl);
        said = said_now xs m len refl refl said;
      }

  pub released_leaves : Leaves phase.ready (memory_of m) (row_released m).memory
  unfolding sets found all_in
  released_leaves =
      let xs : List (ℕ × ℕ) = (phase_at, 6) ∷ [] in
      record {
        phase = phase_now xs m len refl;
        memory = memory_now xs m len refl (memory_of m) me refl refl refl refl refl refl refl (tables_now xs m len refl refl (memory_of m) refl) (mail_now xs m len refl);
        said = said_now xs m len refl refl said;
      }

  -- the hour and the slot that were told are small
  pub noted_leaves : at m index_at + 1 < limit → Leaves phase.ready (with_cursor (memory_of m) (record { hour = at m telling_at; slot = at m index_at + 1 })) (cursor_noted m).memory
  unfolding sets found all_in
  noted_leaves lt =
      let xs : List (ℕ × ℕ) = (phase_at, 6) ∷ (cursor_slot_at, at m index_at + 1) ∷ (cursor_hour_at, at m telling_at) ∷ [] in
      let b = with_cursor (memory_of m) (record { hour = at m telling_at; slot = at m index_at + 1 }) in
      simp (lt-ltb _ _ lt)
      (record {
        phase = phase_now xs m len refl;
        memory = memory_now xs m len refl b me refl refl refl refl refl refl refl (tables_now xs m len refl refl b refl) (mail_now xs m len refl);
        said = said_now xs m len refl refl said;
      })
