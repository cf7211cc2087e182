-- The cursor has come: the machine has booted. Each other is to be told that it woke, and the flag says whether the tables have a reading.
use Rattle.std.proofs.Common.{◌≡◌, ℕ, ◌+◌, ◌<◌, ◌≤◌, Bool, true, false, cond, not, eqb, List, [], ◌∷◌, length, refl, sym, ap, ◌∙◌, subst, arith}
use Rattle.std.proofs.lemmas.Bool.{lt-ltb, both_ways}
use Rattle.store.specs.Records.{cursor_of}
use Rattle.protocol.specs.Boot.{booted_memory}
use Rattle.protocol.specs.Limits.{crew}
use Rattle.protocol.specs.Memory.{Memory}
use Rattle.protocol.specs.Phases as protocol
use Rattle.protocol_bridge.specs.Same.{SameMail}
use Rattle.gauge.specs.Gauge.{counts_in, due_to_all}
use Rattle.gauge.specs.Memory.{at, cells, limit, phase_at, me_at, hour_at, pos_at, filled_at, cursor_hour_at, cursor_slot_at, word_at, passed_at, due_at, woke_at, sums_at, counts_at, word_sums_at}
use Rattle.gauge.specs.Views.{flag_in, stage_in, tables_in, mail_in, memory_of}
use Rattle.machine.specs.Boot.{woke_to_all, has_reading, booted, cursor_recalled}
use Rattle.machine.specs.Run as given
use Rattle.whole.specs.Seen.{filled_as_said, cursor_seen}
use Rattle.whole.proofs.Does.{BootDoes}
use Rattle.whole.proofs.Cells.{sets, found, all_in, length_sets, not_set}
use Rattle.whole.proofs.Heads.{cell, phase_by, memory_by}
use Rattle.whole.proofs.Parts.{Kept, word_kept, tables_kept, open_of}
use Rattle.whole.proofs.Waking.{length_all_but, all_but_before, all_but_behind, all_but_one, filled_by_counts}

-- ALL ARE TO BE TOLD, by the flags that are due and of waking
module _ (m : List ℕ) (len : length m ≡ cells) (me : at m me_at < crew) where
  due_fits : due_at + crew ≤ length m
  due_fits = omega (arith, len)

  due_long : length (due_to_all m) ≡ length m
  due_long = length_all_but m due_at (at m me_at) due_fits me

  me_kept : at (due_to_all m) me_at ≡ at m me_at
  me_kept = all_but_before m due_at (at m me_at) due_fits me me_at (omega arith)

  me_still : at (due_to_all m) me_at < crew
  me_still = omega (arith, me_kept, me)

  woke_fits : woke_at + crew ≤ length (due_to_all m)
  woke_fits = omega (arith, due_long, len)

  told_long : length (woke_to_all (due_to_all m)) ≡ cells
  told_long = length_all_but (due_to_all m) woke_at (at (due_to_all m) me_at) woke_fits me_still ∙ due_long ∙ len

  told_before : Kept 0 due_at m (woke_to_all (due_to_all m))
  told_before c le l =
      all_but_before (due_to_all m) woke_at (at (due_to_all m) me_at) woke_fits me_still c (omega arith)
      ∙ all_but_before m due_at (at m me_at) due_fits me c l

  told_behind : Kept sums_at cells m (woke_to_all (due_to_all m))
  told_behind c le l =
      all_but_behind (due_to_all m) woke_at (at (due_to_all m) me_at) woke_fits me_still c (omega arith)
      ∙ all_but_behind m due_at (at m me_at) due_fits me c (omega arith)

  told_due : (j : ℕ) → j < crew → flag_in (woke_to_all (due_to_all m)) (due_at + j) ≡ not (eqb j (at m me_at))
  told_due j lj =
      ap (λ v. not (eqb v 0)) (all_but_before (due_to_all m) woke_at (at (due_to_all m) me_at) woke_fits me_still (due_at + j) (omega arith))
      ∙ all_but_one m due_at (at m me_at) due_fits me j lj

  told_woke : (j : ℕ) → j < crew → flag_in (woke_to_all (due_to_all m)) (woke_at + j) ≡ not (eqb j (at m me_at))
  told_woke j lj =
      all_but_one (due_to_all m) woke_at (at (due_to_all m) me_at) woke_fits me_still j lj ∙ ap (λ v. not (eqb j v)) me_kept

-- the flag is set by the counts
flag_by : (v : Bool) → cond v (not (eqb (cond v 1 0) 0)) (not (not (eqb (cond v 1 0) 0))) ≡ true
flag_by true = refl
flag_by false = refl

said_by : (m n : List ℕ) → length m ≡ cells → Kept counts_at (counts_at + 1024) m n → at n filled_at ≡ cond (has_reading (counts_in m)) 1 0 →
    filled_as_said n ≡ true
said_by m n len k e =
    subst (λ v. cond v (flag_in n filled_at) (not (flag_in n filled_at)) ≡ true) (sym (filled_by_counts m n len k))
    (subst (λ a. cond (has_reading (counts_in m)) (not (eqb a 0)) (not (not (eqb a 0))) ≡ true) (sym e) (flag_by (has_reading (counts_in m))))

-- THE CURSOR of hour h and slot s
module _ (m : List ℕ) (len : length m ≡ cells) (me : at m me_at < crew) (h s : ℕ) where
  pub cursor_set : BootDoes (protocol.does protocol.placed (booted_memory (memory_of m) (record { hour = h; slot = s })) (protocol.from (at m pos_at)))
      (booted m (record { hour = h; cell = s }))
  unfolding sets found all_in
  cursor_set =
      let f : ℕ = cond (has_reading (counts_in m)) 1 0 in
      let xs : List (ℕ × ℕ) = (cursor_slot_at, s) ∷ (cursor_hour_at, h) ∷ (filled_at, f) ∷ [] in
      let ys : List (ℕ × ℕ) = (phase_at, 5) ∷ [] in
      let zs : List (ℕ × ℕ) = (phase_at, 5) ∷ (cursor_slot_at, s) ∷ (cursor_hour_at, h) ∷ (filled_at, f) ∷ [] in
      let k : List ℕ = sets xs m in
      let k_long : length k ≡ cells = length_sets xs m ∙ len in
      let k_me : at k me_at ≡ at m me_at = cell xs m len refl me_at in
      let k_crew : at k me_at < crew = omega (arith, k_me, me) in
      let k_rows : Kept word_at cells m k = λ c le l. not_set xs m word_at cells c refl le l in
      let n : List ℕ = woke_to_all (due_to_all k) in
      let n_long : length n ≡ cells = told_long k k_long k_crew in
      let n_front : Kept 0 due_at k n = told_before k k_long k_crew in
      let n_back : Kept sums_at cells k n = told_behind k k_long k_crew in
      let o : List ℕ = sets ys n in
      let o_rows : Kept word_at cells n o = λ c le l. not_set ys n word_at cells c refl le l in
      let named : (c : ℕ) → c < word_at → at o c ≡ found zs c (at m c) = λ c l.
      cell ys n n_long refl c ∙ ap (found ys c) (n_front c (omega arith) (omega arith) ∙ cell xs m len refl c) in
      let words : Kept word_at passed_at m o = λ c le l. o_rows c le (omega arith) ∙ n_front c (omega arith) (omega arith) ∙ k_rows c le (omega arith) in
      let passed : (j : ℕ) → j < crew → at o (passed_at + j) ≡ at m (passed_at + j) = λ j lj.
      o_rows (passed_at + j) (omega arith) (omega arith) ∙ n_front (passed_at + j) (omega arith) (omega arith)
      ∙ k_rows (passed_at + j) (omega arith) (omega arith) in
      let rows : Kept sums_at cells m o = λ c le l. o_rows c (omega arith) l ∙ n_back c le l ∙ k_rows c (omega arith) l in
      let tables : Kept sums_at word_sums_at m o = λ c le l. rows c le (omega arith) in
      let pages : Kept word_sums_at cells m o = λ c le l. rows c (omega arith) l in
      let counts : Kept counts_at (counts_at + 1024) m o = λ c le l. rows c (omega arith) (omega arith) in
      let hour : at o hour_at ≡ at m hour_at = named hour_at (omega arith) in
      let due : (j : ℕ) → j < crew → not (eqb j (at m me_at)) ≡ flag_in o (due_at + j) = λ j lj.
      sym (ap (λ v. not (eqb v 0)) (o_rows (due_at + j) (omega arith) (omega arith)) ∙ told_due k k_long k_crew j lj ∙ ap (λ v. not (eqb j v)) k_me) in
      let woke : (j : ℕ) → j < crew → not (eqb j (at m me_at)) ≡ flag_in o (woke_at + j) = λ j lj.
      sym (ap (λ v. not (eqb v 0)) (o_rows (woke_at + j) (omega arith) (omega arith)) ∙ told_woke k k_long k_crew j lj ∙ ap (λ v. not (eqb j v)) k_me) in
      let b : Memory = booted_memory (memory_of m) (record { hour = h; slot = s }) in
      let mail : SameMail b.mail (mail_in o) =
      record { word = λ j lj. word_kept m o j lj words pages; passed = λ j lj. sym (passed j lj); due = due; woke = woke } in
      record {
        phase = phase_by zs m o named;
        memory =
            memory_by zs m o named b me refl refl refl refl refl refl refl
            (open_of (stage_in m) (tables_in m) (tables_in o) (tables_kept m o hour tables)) mail;
        said = λ e. said_by m o len counts (named filled_at (omega arith));
        begun = λ e. absurd (both_ways _ refl e);
        act = ap given.from (n_front pos_at (omega arith) (omega arith) ∙ cell xs m len refl pos_at);
      }

pub cursor_does : (m bs : List ℕ) → length m ≡ cells → at m me_at < crew → (cursor_of bs).hour < limit → (cursor_of bs).cell < limit →
    BootDoes (protocol.does protocol.placed (booted_memory (memory_of m) (cursor_seen bs)) (protocol.from (at m pos_at))) (cursor_recalled m bs)
cursor_does m bs len me lh lc = simp (lt-ltb _ _ lh, lt-ltb _ _ lc) (cursor_set m len me (cursor_of bs).hour (cursor_of bs).cell)
