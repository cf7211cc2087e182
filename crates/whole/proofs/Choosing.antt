-- What is done when nothing is half done, by the cells, is what the protocol does: reading on, telling, resting.
use Rattle.std.proofs.Common.{◌≡◌, ℕ, ◌<◌, Bool, true, false, cond, not, ◌&&◌, eqb, List, [], ◌∷◌, length, slice_set, refl, ◌∙◌, ap}
use Rattle.std.proofs.lemmas.Bool.{lt-ltb, both_ways}
use Rattle.sums.specs.Sums.{pick}
use Rattle.protocol.specs.Adder.{place, entry_heard}
use Rattle.protocol.specs.Limits.{crew}
use Rattle.protocol.specs.Mail.{unpaused}
use Rattle.protocol.specs.Phases as phase
use Rattle.protocol.specs.Phases.{Reaction, ready, noting}
use Rattle.protocol.specs.Reader.{begun, whole, ended, is_reading}
use Rattle.protocol_bridge.specs.Same.{SameMemory}
use Rattle.protocol_bridge.specs.Views.{ActSeen}
use Rattle.gauge.specs.Deeds as deed
use Rattle.gauge.specs.Deeds.{Done}
use Rattle.gauge.specs.Memory.{at, cells, limit, phase_at, index_at, telling_at, me_at, paused_at}
use Rattle.gauge.specs.Views.{phase_of, phase_in, next_of, stage_of, memory_of}
use Rattle.exchange.specs.Adder.{sum_heard, slot_told}
use Rattle.machine.specs.Machine.{as_act}
use Rattle.whole.specs.Seen.{filled_as_said, own_views}
use Rattle.whole.proofs.Cells.{sets, found, all_in}
use Rattle.whole.proofs.Heads.{phase_now, mail_now, tables_now, said_now, memory_now}

-- what is done by the cells is what the protocol does
pub record Does (r : Reaction) (d : Done) : Type 0 where
  pub phase : phase_in d.memory ≡ r.phase
  pub memory : SameMemory r.memory (memory_of d.memory)
  pub said : filled_as_said d.memory ≡ true
  pub act : ActSeen own_views r.act (as_act d.deed)

-- two choices by the same test
pub by_test : {A B : Type 0} (P : A → B → Type 0) (s t : Bool) (a a' : A) (b b' : B) → s ≡ t → (t ≡ true → P a b) → (t ≡ false → P a' b') →
    P (pick s a a') (cond t b b')
by_test P true true a a' b b' e f g = f refl
by_test P false false a a' b b' e f g = g refl
by_test P true false a a' b b' e f g = absurd (both_ways _ e refl)
by_test P false true a a' b b' e f g = absurd (both_ways _ refl e)

-- a reader reads on
pub reads_is : (t h x p : ℕ) → is_reading (stage_of t h x) && not (not (eqb p 0)) ≡ eqb t 0 && eqb p 0
reads_is t h x p = on (eqb t 0) (eqb t 1) (eqb p 0)
  where
    on : (a b c : Bool) → is_reading (cond a (begun h) (cond b (whole h (next_of x)) ended)) && not (not c) ≡ a && c
    on true b true = refl
    on true b false = refl
    on false true c = refl
    on false false c = refl

module _ (n : List ℕ) (len : length n ≡ cells) (me : at n me_at < crew) (ph : at n phase_at ≡ 6) (said : filled_as_said n ≡ true) where
  pub phase_ready : phase_in n ≡ ready
  phase_ready = ap (λ a. phase_of a (at n index_at) (at n telling_at)) ph

  pub itself : SameMemory (memory_of n) (memory_of n)
  unfolding sets found all_in
  itself =
      let xs : List (ℕ × ℕ) = [] in
      memory_now xs n len refl (memory_of n) me refl refl refl refl refl refl refl (tables_now xs n len refl refl (memory_of n) refl) (mail_now xs n len refl)

  pub more_does : Does (phase.does ready (memory_of n) phase.more) (deed.does n deed.more)
  more_does = record { phase = phase_ready; memory = itself; said = said; act = refl }

  pub rests_does : Does (phase.does ready (unpaused (memory_of n)) phase.rests) (deed.does (slice_set n paused_at 0) deed.rests)
  unfolding sets found all_in
  rests_does =
      let xs : List (ℕ × ℕ) = (paused_at, 0) ∷ [] in
      let b = unpaused (memory_of n) in
      record {
        phase = phase_now xs n len refl ∙ phase_ready;
        memory = memory_now xs n len refl b me refl refl refl refl refl refl refl (tables_now xs n len refl refl b refl) (mail_now xs n len refl);
        said = said_now xs n len refl refl said;
        act = refl;
      }

  pub tells_does : (h s : ℕ) → sum_heard n h s < limit →
      Does (phase.does (noting h s) (memory_of n) (phase.tells h (place (memory_of n) s) (entry_heard (memory_of n) h (place (memory_of n) s)))) (slot_told n h s)
  unfolding sets found all_in
  tells_does h s lt =
      let xs : List (ℕ × ℕ) = (telling_at, h) ∷ (index_at, s) ∷ (phase_at, 7) ∷ [] in
      simp (lt-ltb _ _ lt)
      (record {
        phase = phase_now xs n len refl;
        memory = memory_now xs n len refl (memory_of n) me refl refl refl refl refl refl refl (tables_now xs n len refl refl (memory_of n) refl) (mail_now xs n len refl);
        said = said_now xs n len refl refl said;
        act = refl;
      })
