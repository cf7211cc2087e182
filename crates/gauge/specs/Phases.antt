-- The phases and stages of the code by their numbers. Assumes nothing: these are definitions.
use Rattle.std.specs.Prelude.{◌≡◌, ℕ, ◌<◌, Result, MatchResult}
use Rattle.gauge.specs.Memory as memory
use Rattle.gauge.specs.declared.memory.Phase.{Phase}
use Rattle.gauge.specs.declared.memory.UnknownPhase.{UnknownPhase}
use Rattle.gauge.specs.declared.memory.Phase.TheVariants.{Asleep, AsksRoot, AsksPage, AsksCursor, Placing, Placed, Ready, Noting, Saving}
use Rattle.gauge.specs.declared.memory.Stage.{Stage}
use Rattle.gauge.specs.declared.memory.Stage.TheVariants.{Begun, Whole, Ended}

abbrev pub phase_number : Phase → ℕ
phase_number Asleep = memory.asleep
phase_number AsksRoot = memory.asks_root
phase_number AsksPage = memory.asks_page
phase_number AsksCursor = memory.asks_cursor
phase_number Placing = memory.placing
phase_number Placed = memory.placed
phase_number Ready = memory.ready
phase_number Noting = memory.noting
phase_number Saving = memory.saving

-- the phase of a number; none past the last
abbrev pub PhaseSays : (number : ℕ) → Result Phase UnknownPhase → Type 0
PhaseSays n r = MatchResult r (λ p. n ≡ phase_number p) (λ e. (e.0 ≡ n) × (memory.saving < n))

abbrev pub stage_number : Stage → ℕ
stage_number Begun = memory.begun
stage_number Whole = memory.whole
stage_number Ended = memory.ended
