-- An hour is passed: the cursor goes past it, and those that wait to hear of it are to be told.
use Rattle.std.proofs.Common.{◌≡◌, ℕ, suc, ◌+◌, ◌<◌, Bool, true, cond, not, ◌&&◌, eqb, List, [], ◌∷◌, length, refl, sym, ap, ap₂, add-one, ◌∙◌, arith}
use Rattle.std.proofs.lemmas.Bool.{lt-ltb}
use Rattle.sums.specs.Sums.{or}
use Rattle.store.specs.Records.{cursor, cursor_bytes}
use Rattle.protocol.specs.Adder.{passing}
use Rattle.protocol.specs.Limits.{crew}
use Rattle.protocol.specs.Mail.{waits_for, due_to_waiting}
use Rattle.protocol.specs.Phases as phase
use Rattle.protocol.specs.Phases.{ready}
use Rattle.protocol_bridge.specs.Same.{SameMail}
use Rattle.protocol_bridge.proofs.Alike.{hour_same}
use Rattle.gauge.specs.Memory.{at, cells, limit, phase_at, me_at, word_at, passed_at, due_at, woke_at, cursor_hour_at, cursor_slot_at, hour_at, filled_at}
use Rattle.gauge.specs.Views.{flag_in, mail_in, memory_of}
use Rattle.exchange.specs.Adder.{with_cursor, due_where, hour_passed}
use Rattle.whole.specs.Seen.{filled_as_said}
use Rattle.whole.proofs.Cells.{sets, found, all_in, length_sets}
use Rattle.whole.proofs.Parts.{Kept, word_kept}
use Rattle.whole.proofs.Heads.{phase_by, memory_by, open_kept, said_kept, cell, unset}
use Rattle.whole.proofs.Dues.{due_other, due_is, due_flag}
use Rattle.whole.proofs.Bytes.{cursor_kept, cursor_fits_bytes}
use Rattle.whole.proofs.Choosing.{Does, phase_ready}

module _ (n : List ℕ) (len : length n ≡ cells) (me : at n me_at < crew) (ph : at n phase_at ≡ 6) (said : filled_as_said n ≡ true) (h : ℕ) (lt : h + 1 < limit) where
  abbrev xs : List (ℕ × ℕ)
  xs = (cursor_slot_at, 0) ∷ (cursor_hour_at, h + 1) ∷ []

  abbrev c : List ℕ
  c = with_cursor n (h + 1) 0

  abbrev waits : ℕ → Bool
  waits = waits_for (memory_of c) h

  abbrev after : List ℕ
  after = due_where waits crew c

  long : length c ≡ cells
  unfolding sets
  long = length_sets xs n ∙ len

  moved : (i : ℕ) → at c i ≡ found xs i (at n i)
  unfolding sets all_in
  moved i = cell xs n len refl i

  unmoved : (b : ℕ) → Kept word_at b n c
  unfolding sets all_in
  unmoved b = unset xs n len refl b

  named : (i : ℕ) → i < word_at → at after i ≡ found xs i (at n i)
  named i l = due_other waits crew c i (λ k lk q. omega (arith, q)) ∙ moved i

  before : Kept word_at due_at n after
  before i le l = due_other waits crew c i (λ k lk q. omega (arith, q)) ∙ unmoved due_at i le l

  behind : Kept woke_at cells n after
  behind i le l = due_other waits crew c i (λ k lk q. omega (arith, q)) ∙ unmoved cells i (omega arith) l

  same_wait : (j : ℕ) → j < crew → waits_for (memory_of n) h j ≡ waits j
  unfolding found
  same_wait j lj =
      ap₂ (λ a b. not (eqb j a) && b) (sym (moved me_at))
      (hour_same h (word_kept n c j lj (λ i le l. unmoved passed_at i le l) (λ i le l. unmoved cells i (omega arith) l)))

  mail : SameMail (due_to_waiting (memory_of n) h) (mail_in after)
  mail = record {
    word = λ j lj. word_kept n after j lj (λ i le l. before i le (omega arith)) (λ i le l. behind i (omega arith) l);
    passed = λ j lj. sym (before (passed_at + j) (omega arith) (omega arith));
    due = λ j lj.
        ap (or (flag_in n (due_at + j))) (same_wait j lj) ∙ due_flag (waits j) (at n (due_at + j))
        ∙ ap (λ v. not (eqb v 0)) (sym (due_is waits crew c j (omega (arith, long)) lj ∙ ap (cond (waits j) 1) (unmoved cells (due_at + j) (omega arith) (omega arith))));
    woke = λ j lj. ap (λ v. not (eqb v 0)) (sym (behind (woke_at + j) (omega arith) (omega arith)));
  }

  pub passes_does : Does (phase.does ready (passing (memory_of n) h) (phase.keep_cursor (record { hour = suc h; slot = 0 }))) (hour_passed n h)
  unfolding found
  passes_does =
      let b = passing (memory_of n) h in
      simp (lt-ltb _ _ lt)
      (record {
        phase = phase_by xs n after named ∙ phase_ready n len me ph said;
        memory = memory_by xs n after named b me refl refl refl refl refl refl (ap (λ k. record { hour = k; slot = 0 }) (sym (add-one h)))
            (open_kept n after (named hour_at (omega arith)) (λ i le l. behind i (omega arith) (omega arith)) b refl) mail;
        said = said_kept n after (named filled_at (omega arith)) (λ i le l. behind i (omega arith) (omega arith)) said;
        act = (
          cursor_bytes (cursor (h + 1) 0),
          refl,
          cursor_kept (cursor (h + 1) 0) (record { hour = lt; cell = omega arith }) ∙ ap (λ k. record { hour = k; slot = 0 }) (add-one h),
          cursor_fits_bytes (cursor (h + 1) 0),
        );
      })
