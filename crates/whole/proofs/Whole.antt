-- An hour is whole, or the row is at its end: the reader has something new to say to all.
use Rattle.std.proofs.Common.{◌≡◌, ◌⊎◌, inl, inr, ℕ, ◌+◌, ◌<◌, ◌≤◌, true, false, not, eqb, List, [], ◌∷◌, length, replicate, refl, sym, ap, ◌∙◌, subst, ⊎_elim, arith}
use Rattle.std.proofs.lemmas.Bool.{eqb-true, eq-eqb, both_ways, cases_Bool}
use Rattle.std.proofs.lemmas.List.{length-set, length-replicate, get_or-replicate, get_or-set_other}
use Rattle.sums.specs.Written.{written}
use Rattle.sums.proofs.Overwrites.{length_written}
use Rattle.protocol.specs.Limits.{crew}
use Rattle.protocol.specs.Mail as protocol
use Rattle.protocol.specs.Reader.{Stage}
use Rattle.protocol_bridge.specs.Same.{SameMail, SameMemory}
use Rattle.gauge.specs.Memory.{at, cells, me_at, stage_at, hour_at, next_at, filled_at, word_at, passed_at, due_at, woke_at}
use Rattle.gauge.specs.Views.{phase_in, stage_of, flag_in, mail_in, memory_of}
use Rattle.gauge.specs.Gauge.{due_to_all, with_news}
use Rattle.whole.specs.Seen.{filled_as_said}
use Rattle.whole.proofs.Cells.{sets, found, all_in, here, length_sets, written_before, written_in, written_behind}
use Rattle.whole.proofs.Parts.{Kept, word_kept}
use Rattle.whole.proofs.Heads.{phase_by, memory_by, open_kept, said_kept, cell, unset}

-- something is due to all but this machine
module _ (m : List ℕ) (len : length m ≡ cells) (me : at m me_at < crew) where
  abbrev ones : List ℕ
  ones = replicate crew 1

  abbrev row : List ℕ
  row = written m due_at ones

  room : due_at + length ones ≤ length m
  room = omega (arith, len, length-replicate {A = ℕ} crew 1)

  row_long : length row ≡ cells
  row_long = length_written m due_at ones room ∙ len

  pub due_long : length (due_to_all m) ≡ cells
  due_long = length-set row (due_at + at m me_at) 0 ∙ row_long

  pub due_other : (c : ℕ) → (c < due_at) ⊎ (woke_at ≤ c) → at (due_to_all m) c ≡ at m c
  due_other c side =
      get_or-set_other row (due_at + at m me_at) c 0 0 (λ q. away side q)
      ∙ ⊎_elim (λ l. written_before m ones due_at room c l) (λ g. written_behind m ones due_at room c (omega (arith, g, length-replicate {A = ℕ} crew 1))) side
    where
      away : (c < due_at) ⊎ (woke_at ≤ c) → c ≡ due_at + at m me_at → ⊥
      away (inl l) q = omega (arith, l, q)
      away (inr g) q = omega (arith, g, q, me)

  pub due_all : (j : ℕ) → j < crew → not (eqb j (at m me_at)) ≡ flag_in (due_to_all m) (due_at + j)
  due_all j lj =
      ⊎_elim
      (λ (e : eqb j (at m me_at) ≡ true). subst (λ b. not b ≡ flag_in (due_to_all m) (due_at + j)) (sym e)
      (subst (λ k. false ≡ flag_in (due_to_all m) (due_at + k)) (sym (eqb-true j (at m me_at) e))
      (ap (λ v. not (eqb v 0)) (sym (here row (due_at + at m me_at) 0 (omega (arith, row_long, me)))))))
      (λ (e : eqb j (at m me_at) ≡ false). subst (λ b. not b ≡ flag_in (due_to_all m) (due_at + j)) (sym e)
      (ap (λ v. not (eqb v 0))
      (sym (get_or-set_other row (due_at + at m me_at) (due_at + j) 0 0 (λ q. both_ways _ e (eq-eqb j (at m me_at) (omega (arith, q))))
      ∙ written_in m ones due_at room j (omega (arith, lj, length-replicate {A = ℕ} crew 1)) ∙ get_or-replicate crew j 1 0 lj))))
      (cases_Bool (eqb j (at m me_at)))

-- the reader has come to a new stage of its hour
module _ (m : List ℕ) (len : length m ≡ cells) (me : at m me_at < crew) (t x : ℕ) where
  abbrev xs : List (ℕ × ℕ)
  xs = (next_at, x) ∷ (stage_at, t) ∷ []

  abbrev staged : List ℕ
  staged = sets xs m

  staged_long : length staged ≡ cells
  staged_long = length_sets xs m ∙ len

  moved : (c : ℕ) → at staged c ≡ found xs c (at m c)
  unfolding all_in
  moved c = cell xs m len refl c

  unmoved : (b : ℕ) → Kept word_at b m staged
  unfolding all_in
  unmoved b = unset xs m len refl b

  staged_me : at staged me_at ≡ at m me_at
  unfolding found
  staged_me = moved me_at

  low : at staged me_at < crew
  low = subst (λ v. v < crew) (sym staged_me) me

  abbrev after : List ℕ
  after = due_to_all staged

  pub news_is : with_news m t x ≡ after
  unfolding sets
  news_is = refl

  pub news_long : length after ≡ cells
  news_long = due_long staged staged_long low

  pub news_named : (c : ℕ) → c < word_at → at after c ≡ found xs c (at m c)
  news_named c lt = due_other staged staged_long low c (inl (omega arith)) ∙ moved c

  before : Kept word_at due_at m after
  before c le lt = due_other staged staged_long low c (inl lt) ∙ unmoved due_at c le lt

  behind : Kept woke_at cells m after
  behind c le lt = due_other staged staged_long low c (inr le) ∙ unmoved cells c (omega arith) lt

  mail : SameMail (protocol.due_to_all (memory_of m)) (mail_in after)
  mail = record {
    word = λ j lj. word_kept m after j lj (λ c le l. before c le (omega arith)) (λ c le l. behind c (omega arith) l);
    passed = λ j lj. sym (before (passed_at + j) (omega arith) (omega arith));
    due = λ j lj. subst (λ v. not (eqb j v) ≡ flag_in after (due_at + j)) staged_me (due_all staged staged_long low j lj);
    woke = λ j lj. ap (λ v. not (eqb v 0)) (sym (behind (woke_at + j) (omega arith) (omega arith)));
  }

  pub news_memory : (s : Stage) → s ≡ stage_of t (at m hour_at) x → SameMemory (protocol.with_news (memory_of m) s) (memory_of after)
  unfolding found
  news_memory s e = memory_by xs m after news_named (protocol.with_news (memory_of m) s) me refl e refl refl refl refl refl
      (open_kept m after (news_named hour_at (omega arith)) (λ c le l. behind c (omega arith) (omega arith)) (protocol.with_news (memory_of m) s) refl) mail

  pub news_phase : phase_in after ≡ phase_in m
  unfolding found
  news_phase = phase_by xs m after news_named

  pub news_said : filled_as_said m ≡ true → filled_as_said after ≡ true
  unfolding found
  news_said h = said_kept m after (news_named filled_at (omega arith)) (λ c le l. behind c (omega arith) (omega arith)) h
