-- The reader goes on to its next hour: the tables are cleared, and nothing is kept.
use Rattle.std.proofs.Common.{◌≡◌, ℕ, zero, suc, ◌+◌, ◌-◌, ◌*◌, ◌<◌, ◌≤◌, Bool, true, false, cond, not, eqb, List, [], ◌∷◌, length, replicate, refl, sym, ap, ap₂, add-one, ◌∙◌, subst, arith}
use Rattle.std.proofs.lemmas.Bool.{lt-ltb, ne_eqb}
use Rattle.std.proofs.lemmas.List.{length-replicate, get_or-replicate}
use Rattle.sums.specs.Cells.{places, slots}
use Rattle.sums.specs.Sums.{or}
use Rattle.sums.proofs.Overwrites.{length_written}
use Rattle.protocol.specs.GoingOn.{goes_on}
use Rattle.protocol.specs.Limits.{crew}
use Rattle.protocol.specs.Reader.{begun, whole, ended, first_open}
use Rattle.protocol.specs.Searches.{any_below}
use Rattle.protocol.specs.Tables.{Tables, blank, blank_page, comes_at, filled}
use Rattle.protocol_bridge.specs.Same.{SamePage, SameFrom, SameOpen, SameTables}
use Rattle.gauge.specs.Memory.{at, cells, limit, phase_at, me_at, stage_at, hour_at, next_at, paused_at, filled_at, word_at, sums_at, counts_at, word_sums_at}
use Rattle.gauge.specs.Views.{next_of, stage_in, table_in, tables_in, memory_of}
use Rattle.gauge.specs.Gauge.{tables_cleared, gone_on}
use Rattle.whole.specs.Seen.{filled_as_said}
use Rattle.whole.proofs.Cells.{sets, found, all_in, written_before, written_in, written_behind}
use Rattle.whole.proofs.Parts.{Kept, mail_kept}
use Rattle.whole.proofs.Heads.{phase_by, memory_by, filled_as, cell, unset}
use Rattle.whole.proofs.Choosing.{Does, phase_ready}

-- tables without a reading
none_below : (n : ℕ) → any_below (λ _. false) n ≡ false
unfolding any_below
none_below zero = refl
none_below (suc n) = ap (λ b. or b false) (none_below n)

pub not_filled : (t : Tables) → SameTables t blank → filled t ≡ false
unfolding filled comes_at blank_page
not_filled t e = filled_as t blank e ∙ none_below 1024

module _ (m : List ℕ) (len : length m ≡ cells) where
  abbrev zeros : List ℕ
  zeros = replicate (2 * places) 0

  zeros_long : length zeros ≡ 2048
  zeros_long = length-replicate {A = ℕ} (2 * places) 0

  pub cleared_long : length (tables_cleared m) ≡ cells
  cleared_long = length_written m sums_at zeros (omega (arith, zeros_long, len)) ∙ len

  pub cleared_before : (c : ℕ) → c < sums_at → at (tables_cleared m) c ≡ at m c
  cleared_before c lt = written_before m zeros sums_at (omega (arith, zeros_long, len)) c lt

  pub cleared_behind : (c : ℕ) → word_sums_at ≤ c → at (tables_cleared m) c ≡ at m c
  cleared_behind c le = written_behind m zeros sums_at (omega (arith, zeros_long, len)) c (omega (arith, zeros_long))

  pub cleared_in : (c : ℕ) → sums_at ≤ c → c < word_sums_at → at (tables_cleared m) c ≡ 0
  cleared_in c le lt =
      let e : sums_at + (c - sums_at) ≡ c = omega arith in
      subst (λ k. at (tables_cleared m) k ≡ 0) e
      (written_in m zeros sums_at (omega (arith, zeros_long, len)) (c - sums_at) (omega (arith, zeros_long)) ∙ get_or-replicate (2 * places) (c - sums_at) 0 0 (omega arith))

module _ (n : List ℕ) (len : length n ≡ cells) (me : at n me_at < crew) (ph : at n phase_at ≡ 6) (said : filled_as_said n ≡ true) (lt : at n hour_at + 1 < limit)
    (st : at n stage_at ≡ 1) where
  abbrev xs : List (ℕ × ℕ)
  xs = (filled_at, 0) ∷ (paused_at, 0) ∷ (hour_at, at n hour_at + 1) ∷ (stage_at, 0) ∷ []

  abbrev after : List ℕ
  after = sets xs (tables_cleared n)

  named : (c : ℕ) → c < word_at → at after c ≡ found xs c (at n c)
  unfolding sets all_in
  named c l = cell xs (tables_cleared n) (cleared_long n len) refl c ∙ ap (found xs c) (cleared_before n len c (omega arith))

  unmoved : (b : ℕ) → Kept word_at b (tables_cleared n) after
  unfolding sets all_in
  unmoved b = unset xs (tables_cleared n) (cleared_long n len) refl b

  blank_now : (j : ℕ) → j < crew → SamePage ((table_in after).page j) blank_page
  unfolding blank_page
  blank_now j lj = record {
    entries = λ s ls. ap₂ (λ a b. record { sum = a; count = b })
        (unmoved cells (sums_at + slots * j + s) (omega arith) (omega arith) ∙ cleared_in n len (sums_at + slots * j + s) (omega arith) (omega arith))
        (unmoved cells (counts_at + slots * j + s) (omega arith) (omega arith) ∙ cleared_in n len (counts_at + slots * j + s) (omega arith) (omega arith));
  }

  later_blank : (lo : ℕ) → lo ≡ suc (at n hour_at) → SameFrom lo (tables_in n) (tables_in after)
  later_blank lo e h j le lj =
      subst (λ b. SamePage ((cond b (table_in n) blank).page j) ((tables_in after h).page j)) (sym (ne_eqb h (at n hour_at) (λ q. omega (arith, q, e, le))))
      (on (eqb h (at after hour_at)))
    where
      on : (b : Bool) → SamePage (blank.page j) ((cond b (table_in after) blank).page j)
      on true = record { entries = λ s ls. sym ((blank_now j lj).entries s ls) }
      on false = record { entries = λ s ls. refl }

  stage_is : stage_in n ≡ whole (at n hour_at) (next_of (at n next_at))
  stage_is = ap (λ t. cond (eqb t 0) (begun (at n hour_at)) (cond (eqb t 1) (whole (at n hour_at) (next_of (at n next_at))) ended)) st

  pub goes_does : Does (goes_on (memory_of n)) (gone_on n)
  unfolding sets found
  goes_does =
      let b = (goes_on (memory_of n)).memory in
      let tables : SameOpen (begun (first_open (stage_in n))) (tables_in n) (tables_in after) =
      subst (λ s. SameOpen (begun (first_open s)) (tables_in n) (tables_in after)) (sym stage_is) (later_blank (suc (at n hour_at)) refl) in
      simp (lt-ltb _ _ lt)
      (record {
        phase = phase_by xs n after named ∙ phase_ready n len me ph said;
        memory = memory_by xs n after named b me refl (ap (λ s. begun (first_open s)) stage_is ∙ ap begun (sym (add-one (at n hour_at)))) refl refl refl refl refl tables
            (mail_kept n after (λ c le l. unmoved cells c le (omega arith) ∙ cleared_before n len c l) (λ c le l. unmoved cells c (omega arith) l ∙ cleared_behind n len c le));
        said = subst (λ f. cond f (not (eqb (at after filled_at) 0)) (not (not (eqb (at after filled_at) 0))) ≡ true) (sym (not_filled (table_in after) blank_now))
            (ap (λ v. not (not (eqb v 0))) (named filled_at (omega arith)));
        act = refl;
      })
