-- Boot: what the memory stands for once a machine wakes, and once its root record has come.
use Rattle.std.proofs.Common.{◌≡◌, ℕ, zero, suc, ◌+◌, ◌-◌, ◌*◌, ◌<◌, ◌≤◌, Bool, true, false, cond, not, eqb, ltb, List, [], ◌∷◌, length, leb, replicate, refl, sym, ap, ap₂, ◌∙◌, subst, arith}
use Rattle.std.specs.Prelude.{slice_set}
use Rattle.std.proofs.lemmas.Bool.{lt-ltb, both_ways}
use Rattle.std.proofs.lemmas.List.{length-replicate}
use Rattle.sums.specs.Cells.{slots}
use Rattle.sums.specs.Sums.{or}
use Rattle.protocol.specs.Limits.{crew}
use Rattle.protocol.specs.Boot.{rooted}
use Rattle.protocol.specs.Memory.{no_mail, new_memory, with_reader}
use Rattle.protocol_world.specs.Drawers as protocol_drawers
use Rattle.protocol.specs.Reader.{no_set, Reader, begun, reader_at}
use Rattle.protocol.specs.Phases.{Phase, asleep, asks_root, asks_page, asks_cursor, placing, placed, ready, noting, saving, Reaction}
use Rattle.protocol.specs.Phases as protocol
use Rattle.protocol.specs.OpenHours.{no_tables}
use Rattle.protocol.specs.Tables.{Page, blank, blank_page}
use Rattle.protocol_bridge.specs.Same.{SamePage, SameFrom, SameOpen, SameMail, SameWord, same_nothing, SameMemory}
use Rattle.gauge.specs.Deeds.{recall, does}
use Rattle.gauge.specs.Memory.{at, cells, limit, phase_at, index_at, telling_at, me_at, stage_at, hour_at, next_at, pos_at, set_at, paused_at, kept_at, cursor_hour_at, cursor_slot_at, word_at, word_hour_at, word_next_at, passed_at, due_at, woke_at, sums_at, counts_at, word_sums_at, word_counts_at}
use Rattle.gauge.specs.Views.{phase_of, phase_in, stage_of, set_of, page_in, table_in, tables_in, word_of, mail_in, memory_of}
use Rattle.sums.specs.Written.{written}
use Rattle.sums.proofs.Overwrites.{length_written}
use Rattle.store.specs.Records.{root, root_of, set_number}
use Rattle.store.specs.declared.records.PageSet.{PageSet}
use Rattle.store.specs.declared.records.PageSet.TheVariants.{First, Second}
use Rattle.store.specs.declared.records.PageSet.TheVariants as page_set
use Rattle.machine.specs.Boot.{woken, page_asked, root_recalled}
use Rattle.whole.specs.Seen.{names_set, as_root, root_seen, set_seen}
use Rattle.whole.proofs.Does.{BootDoes, Named, named_set, begun_named, next_asked}
use Rattle.whole.proofs.Heads.{phase_by, memory_by}
use Rattle.whole.proofs.Cells.{sets, found, all_in, not_set, written_before, written_in, written_behind}
use Rattle.whole.proofs.Parts.{Kept, mail_kept}

-- NOTHING YET
pub zero_at : (n c : ℕ) → at (replicate n 0) c ≡ 0
zero_at zero c = refl
zero_at (suc n) zero = refl
zero_at (suc n) (suc c) = zero_at n c

-- from cell a on, up to cell b, all is zero
abbrev Zeros : (a b : ℕ) (m : List ℕ) → Type 0
Zeros a b m = (c : ℕ) → a ≤ c → c < b → at m c ≡ 0

blank_tables : (m : List ℕ) → Zeros sums_at word_sums_at m → (lo : ℕ) → SameFrom lo no_tables (tables_in m)
unfolding blank_page
blank_tables m z lo h j le lj = on (eqb h (at m hour_at))
  where
    on : (b : Bool) → SamePage (blank.page j) ((cond b (table_in m) blank).page j)
    on true = record {
      entries = λ s ls.
          ap₂ (λ x y. record { sum = x; count = y }) (sym (z (sums_at + slots * j + s) (omega arith) (omega arith)))
          (sym (z (counts_at + slots * j + s) (omega arith) (omega arith)));
    }
    on false = record { entries = λ s ls. refl }

blank_mail : (m : List ℕ) → Zeros word_at sums_at m → SameMail no_mail (mail_in m)
blank_mail m z = record {
  word = λ j lj.
      let page : Page = page_in m (word_sums_at + slots * j) (word_counts_at + slots * j) in
      subst (λ v. SameWord (no_mail.word j) (word_of v (at m (word_hour_at + j)) (at m (word_next_at + j)) page))
      (sym (z (word_at + j) (omega arith) (omega arith))) same_nothing;
  passed = λ j lj. sym (z (passed_at + j) (omega arith) (omega arith));
  due = λ j lj. ap (λ v. not (eqb v 0)) (sym (z (due_at + j) (omega arith) (omega arith)));
  woke = λ j lj. ap (λ v. not (eqb v 0)) (sym (z (woke_at + j) (omega arith) (omega arith)));
}

module _ (m : List ℕ) (len : length m ≡ cells) where
  -- IT WAKES
  pub wakes_does : (i : ℕ) → i < crew → BootDoes (record { phase = asks_root; memory = new_memory i; act = protocol.recall_root }) (woken m i)
  unfolding sets found all_in
  wakes_does i lt =
      let xs : List (ℕ × ℕ) = (phase_at, 1) ∷ (me_at, i) ∷ [] in
      let n : List ℕ = replicate (length m) 0 in
      let z : (c : ℕ) → at n c ≡ 0 = zero_at (length m) in
      let long : length n ≡ cells = length-replicate (length m) 0 ∙ len in
      let k : Named xs n (sets xs n) = named_set xs n n long refl (λ c le l. refl) in
      let none : Zeros word_at cells (sets xs n) = λ c le l. not_set xs n word_at cells c refl le l ∙ z c in
      let tables : Zeros sums_at word_sums_at (sets xs n) = λ c le l. none c (omega arith) (omega arith) in
      let mail : Zeros word_at sums_at (sets xs n) = λ c le l. none c le (omega arith) in
      simp (lt-ltb i crew lt)
      (record {
        phase = phase_by xs n (sets xs n) k;
        memory =
            memory_by xs n (sets xs n) k (new_memory i) lt refl (ap₂ (λ a h. stage_of a h (at n next_at)) (sym (z stage_at)) (sym (z hour_at))) (sym (z pos_at))
            (ap set_of (sym (z set_at))) (ap (λ v. not (eqb v 0)) (sym (z paused_at))) (sym (z kept_at))
            (ap₂ (λ a b. record { hour = a; slot = b }) (sym (z cursor_hour_at)) (sym (z cursor_slot_at)))
            (blank_tables (sets xs n) tables 0) (blank_mail (sets xs n) mail);
        said = λ e. absurd (both_ways _ refl e);
        begun = λ e. absurd (both_ways _ refl e);
        act = refl;
      })

  -- ITS ROOT RECORD HAS COME
  -- the reader at a root record, by the number of its set, over tables that are blank
  abbrev root_over : List ℕ → (number hour pos : ℕ) → List ℕ
  root_over n w h p = slice_set (slice_set (slice_set (slice_set (slice_set (slice_set n stage_at 0) hour_at h) pos_at p) set_at w) paused_at 0) kept_at p

  module _ (me : at m me_at < crew) (n : List ℕ) (long : length n ≡ cells) (front : Kept 0 sums_at m n) (none : Zeros sums_at word_sums_at n)
      (back : Kept word_sums_at cells m n) where
    root_memory : (xs : List (ℕ × ℕ)) (r : Reader) → all_in (λ i. ltb i word_at) xs ≡ true → all_in (λ i. or (ltb i word_at) (leb cells i)) xs ≡ true →
        found xs me_at (at m me_at) ≡ at m me_at → found xs cursor_hour_at (at m cursor_hour_at) ≡ at m cursor_hour_at →
        found xs cursor_slot_at (at m cursor_slot_at) ≡ at m cursor_slot_at →
        r.stage ≡ stage_of (found xs stage_at (at m stage_at)) (found xs hour_at (at m hour_at)) (found xs next_at (at m next_at)) →
        r.pos ≡ found xs pos_at (at m pos_at) → r.set ≡ set_of (found xs set_at (at m set_at)) →
        r.paused ≡ not (eqb (found xs paused_at (at m paused_at)) 0) → r.kept ≡ found xs kept_at (at m kept_at) →
        (h : ℕ) → r.stage ≡ begun h → r.tables ≡ no_tables → SameMemory (with_reader (memory_of m) r) (memory_of (sets xs n))
    root_memory xs r low low₂ e₁ e₂ e₃ stage pos set paused kept h b t =
        let k : Named xs m (sets xs n) = named_set xs m n long low (λ c le l. front c le (omega arith)) in
        let rows : Kept word_at cells n (sets xs n) = λ c le l. not_set xs n word_at cells c low₂ le l in
        let zeros : Zeros sums_at word_sums_at (sets xs n) = λ c le l. rows c (omega arith) (omega arith) ∙ none c le l in
        let words : Kept word_at sums_at m (sets xs n) = λ c le l. rows c le (omega arith) ∙ front c (omega arith) l in
        let pages : Kept word_sums_at cells m (sets xs n) = λ c le l. rows c (omega arith) l ∙ back c le l in
        memory_by xs m (sets xs n) k (with_reader (memory_of m) r) me (sym e₁) stage pos set paused kept
        (ap₂ (λ a c. record { hour = a; slot = c }) (sym e₂) (sym e₃))
        (subst (λ s. SameOpen s r.tables (tables_in (sets xs n))) (sym b)
        (subst (λ u. SameFrom h u (tables_in (sets xs n))) (sym t) (blank_tables (sets xs n) zeros h)))
        (mail_kept m (sets xs n) words pages)

    phase_as : (xs : List (ℕ × ℕ)) → all_in (λ i. ltb i word_at) xs ≡ true →
        phase_in (sets xs n) ≡ phase_of (found xs phase_at (at m phase_at)) (found xs index_at (at m index_at)) (found xs telling_at (at m telling_at))
    phase_as xs low = phase_by xs m (sets xs n) (named_set xs m n long low (λ c le l. front c le (omega arith)))

    -- a root record that names a set, by its number
    named_root : (w h p : ℕ) → names_set w ≡ true →
        BootDoes (next_asked (with_reader (memory_of m) (reader_at (record { set = set_of w; hour = h; pos = p }))) 0)
        (does (slice_set (slice_set (root_over n w h p) phase_at 2) index_at 0) (recall (protocol_drawers.page_drawer (set_of w) 0)))
    unfolding sets found all_in
    named_root w h p some =
        let xs : List (ℕ × ℕ) = (index_at, 0) ∷ (phase_at, 2) ∷ (kept_at, p) ∷ (paused_at, 0) ∷ (set_at, w) ∷ (pos_at, p) ∷ (hour_at, h) ∷ (stage_at, 0) ∷ [] in
        record {
          phase = phase_as xs refl;
          memory =
              root_memory xs (reader_at (record { set = set_of w; hour = h; pos = p })) refl refl refl refl refl refl refl refl refl refl h refl refl;
          said = λ e. absurd (both_ways _ refl e);
          begun = λ e. begun_named xs m (sets xs n) (named_set xs m n long refl (λ c le l. front c le (omega arith))) some;
          act = refl;
        }

    rooted_over : (s : PageSet) (h p : ℕ) →
        BootDoes (rooted (memory_of m) (as_root (root s h p)) (set_seen s)) (page_asked (root_over n (set_number s) h p) s 0)
    unfolding sets found all_in
    rooted_over page_set.None h p =
        let xs : List (ℕ × ℕ) = (phase_at, 3) ∷ (kept_at, p) ∷ (paused_at, 0) ∷ (set_at, 0) ∷ (pos_at, p) ∷ (hour_at, h) ∷ (stage_at, 0) ∷ [] in
        record {
          phase = phase_as xs refl;
          memory = root_memory xs (reader_at (record { set = no_set; hour = h; pos = p })) refl refl refl refl refl refl refl refl refl refl h refl refl;
          said = λ e. absurd (both_ways _ refl e);
          begun = λ e. absurd (both_ways _ refl e);
          act = refl;
        }
    rooted_over First h p = named_root 1 h p refl
    rooted_over Second h p = named_root 2 h p refl

  module _ (me : at m me_at < crew) where
    -- so many zeros are written over the tables
    zeros_over : (zs : List ℕ) → length zs ≡ 2048 → ((c : ℕ) → at zs c ≡ 0) → (s : PageSet) (h p : ℕ) →
        BootDoes (rooted (memory_of m) (as_root (root s h p)) (set_seen s)) (page_asked (root_over (written m sums_at zs) (set_number s) h p) s 0)
    zeros_over zs lz z =
        let fits : sums_at + length zs ≤ length m = omega (arith, lz, len) in
        let none : Zeros sums_at word_sums_at (written m sums_at zs) = λ c le l.
        let e : sums_at + (c - sums_at) ≡ c = omega arith in
        subst (λ i. at (written m sums_at zs) i ≡ 0) e (written_in m zs sums_at fits (c - sums_at) (omega (arith, lz)) ∙ z (c - sums_at)) in
        rooted_over me (written m sums_at zs) (length_written m sums_at zs fits ∙ len) (λ c le l. written_before m zs sums_at fits c l) none
        (λ c le l. written_behind m zs sums_at fits c (omega (arith, lz)))

    pub root_does : (bs : List ℕ) → (root_of bs).hour < limit → (root_of bs).pos < limit →
        BootDoes (rooted (memory_of m) (root_seen bs) (root_seen bs).set) (root_recalled m bs)
    root_does bs lh lp =
        simp (lt-ltb _ _ lh, lt-ltb _ _ lp)
        (zeros_over (replicate (2 * 1024) 0) (length-replicate {A = ℕ} 2048 0) (zero_at 2048) (root_of bs).set (root_of bs).hour (root_of bs).pos)
