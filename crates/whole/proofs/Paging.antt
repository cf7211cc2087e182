-- Boot: what the memory stands for once a page has come that the root record names.
use Rattle.std.proofs.Common.{◌≡◌, ◌⊎◌, inl, inr, ⊎_elim, ℕ, suc, ◌+◌, ◌*◌, ◌/◌, ◌%◌, ◌<◌, ◌≤◌, Bool, true, false, cond, not, eqb, ltb, List, [], ◌∷◌, Some, length, leb, refl, sym, ap, ap₂, ◌∙◌, subst, arith}
use Rattle.std.proofs.lemmas.Bool.{lt-ltb, and_from, ltb-true, ltb-false, eqb-true, and_parts, both_ways, cases_lt, cases_eq, eq-eqb, ne_eqb}
use Rattle.sums.specs.Cells.{slots}
use Rattle.sums.specs.Pages.{page_sums, page_counts}
use Rattle.sums.proofs.Columns.{length_sums, length_counts}
use Rattle.sums.specs.Sums.{or, pick}
use Rattle.protocol.specs.Limits.{crew}
use Rattle.protocol.specs.Boot.{paged, asks_next}
use Rattle.protocol.specs.Memory.{Memory}
use Rattle.protocol.specs.Reader.{begun, first_open}
use Rattle.protocol.specs.OpenHours.{with_page_at}
use Rattle.protocol.specs.Searches.{put}
use Rattle.protocol.specs.Tables.{Page, Tables, blank, with_page}
use Rattle.protocol_bridge.specs.Same.{SamePage, SameFrom, SameOpen, SameMemory}
use Rattle.protocol_bridge.proofs.Same.{page_trans}
use Rattle.gauge.specs.Deeds.{Done}
use Rattle.gauge.specs.Gauge.{set_named}
use Rattle.gauge.specs.Memory.{at, cells, phase_at, index_at, me_at, stage_at, hour_at, next_at, pos_at, set_at, paused_at, kept_at, cursor_hour_at, cursor_slot_at, word_at, sums_at, counts_at, word_sums_at}
use Rattle.gauge.specs.Views.{stage_of, set_of, table_in, tables_in, memory_of}
use Rattle.sums.specs.Written.{written}
use Rattle.sums.proofs.Overwrites.{length_written}
use Rattle.machine.specs.Boot.{page_asked, page_asked_in, page_recalled}
use Rattle.whole.specs.Seen.{names_set, begun_with_set, page_of_rows, page_seen}
use Rattle.whole.proofs.Bytes.{drawer_by_number, no_drawer, seen_page}
use Rattle.whole.proofs.Does.{BootDoes, Named, named_set, begun_named, found_behind, next_asked, cursor_asked, next_page}
use Rattle.whole.proofs.Heads.{phase_by, memory_by}
use Rattle.whole.proofs.Cells.{sets, found, all_in, not_set, written_before, written_in, written_behind}
use Rattle.whole.proofs.Parts.{Kept, mail_kept, page_kept}

sides : (j q : ℕ) → (j ≡ q → ⊥) → (j < q) ⊎ (q < j)
sides j q ne = ⊎_elim (λ l. inl l) (λ l. inr (omega (arith, l, ne))) (cases_lt j q)

module _ (m : List ℕ) (len : length m ≡ cells) (me : at m me_at < crew) where
  -- two rows are written over page q of the tables
  abbrev page_over : (q : ℕ) (ss cs : List ℕ) → List ℕ
  page_over q ss cs = written (written m (sums_at + slots * q) ss) (counts_at + slots * q) cs

  -- the records then
  abbrev after : (q : ℕ) (ss cs : List ℕ) → Memory
  after q ss cs = paged (memory_of m) q (page_of_rows ss cs)

  module _ (q : ℕ) (lt : q < crew) (ss cs : List ℕ) (ls : length ss ≡ slots) (lc : length cs ≡ slots) where
    first_fits : sums_at + slots * q + length ss ≤ length m
    first_fits = omega (arith, ls, len, lt)

    first_long : length (written m (sums_at + slots * q) ss) ≡ length m
    first_long = length_written m (sums_at + slots * q) ss first_fits

    second_fits : counts_at + slots * q + length cs ≤ length (written m (sums_at + slots * q) ss)
    second_fits = omega (arith, first_long, lc, len, lt)

    page_long : length (page_over q ss cs) ≡ cells
    page_long = length_written (written m (sums_at + slots * q) ss) (counts_at + slots * q) cs second_fits ∙ first_long ∙ len

    -- its numbers, and what is beside them
    page_sums_now : (i : ℕ) → i < slots → at (page_over q ss cs) (sums_at + slots * q + i) ≡ at ss i
    page_sums_now i li =
        written_before (written m (sums_at + slots * q) ss) cs (counts_at + slots * q) second_fits (sums_at + slots * q + i) (omega arith)
        ∙ written_in m ss (sums_at + slots * q) first_fits i (omega (arith, ls))

    page_counts_now : (i : ℕ) → i < slots → at (page_over q ss cs) (counts_at + slots * q + i) ≡ at cs i
    page_counts_now i li = written_in (written m (sums_at + slots * q) ss) cs (counts_at + slots * q) second_fits i (omega (arith, lc))

    page_front : (c : ℕ) → c < sums_at + slots * q → at (page_over q ss cs) c ≡ at m c
    page_front c l =
        written_before (written m (sums_at + slots * q) ss) cs (counts_at + slots * q) second_fits c (omega arith)
        ∙ written_before m ss (sums_at + slots * q) first_fits c l

    page_between : (c : ℕ) → sums_at + slots * q + slots ≤ c → c < counts_at + slots * q → at (page_over q ss cs) c ≡ at m c
    page_between c le l =
        written_before (written m (sums_at + slots * q) ss) cs (counts_at + slots * q) second_fits c l
        ∙ written_behind m ss (sums_at + slots * q) first_fits c (omega (arith, ls))

    page_back : (c : ℕ) → counts_at + slots * q + slots ≤ c → at (page_over q ss cs) c ≡ at m c
    page_back c le =
        written_behind (written m (sums_at + slots * q) ss) cs (counts_at + slots * q) second_fits c (omega (arith, lc))
        ∙ written_behind m ss (sums_at + slots * q) first_fits c (omega (arith, ls))

    -- what stands in another page is kept
    other_page : (j : ℕ) → j < crew → (j ≡ q → ⊥) → SamePage ((table_in m).page j) ((table_in (page_over q ss cs)).page j)
    other_page j lj ne = page_kept m (page_over q ss cs) (sums_at + slots * j) (counts_at + slots * j)
        (λ c le l. ⊎_elim (λ f. page_front c (omega arith)) (λ f. page_between c (omega arith) (omega arith)) (sides j q ne))
        (λ c le l. ⊎_elim (λ f. page_between c (omega arith) (omega arith)) (λ f. page_back c (omega arith)) (sides j q ne))

    this_page : SamePage (page_of_rows ss cs) ((table_in (page_over q ss cs)).page q)
    this_page = record { entries = λ s l. ap₂ (λ x y. record { sum = x; count = y }) (sym (page_sums_now s l)) (sym (page_counts_now s l)) }

    each_page : (j : ℕ) → j < crew → SamePage (pick (eqb j q) (page_of_rows ss cs) ((table_in m).page j)) ((table_in (page_over q ss cs)).page j)
    each_page j lj = ⊎_elim
        (λ e. subst (λ i. SamePage (pick (eqb i q) (page_of_rows ss cs) ((table_in m).page i)) ((table_in (page_over q ss cs)).page i)) (sym e)
        (subst (λ b. SamePage (pick b (page_of_rows ss cs) ((table_in m).page q)) ((table_in (page_over q ss cs)).page q)) (sym (eq-eqb q q refl)) this_page))
        (λ ne.
        subst (λ b. SamePage (pick b (page_of_rows ss cs) ((table_in m).page j)) ((table_in (page_over q ss cs)).page j)) (sym (ne_eqb j q ne))
        (other_page j lj ne))
        (cases_eq j q)

    -- the tables of all hours
    page_tables : (n : List ℕ) → at n hour_at ≡ at m hour_at → Kept sums_at word_sums_at (page_over q ss cs) n →
        SameFrom (at m hour_at) (with_page_at (tables_in m) (at m hour_at) q (page_of_rows ss cs)) (tables_in n)
    page_tables n e k h j le lj =
        let f : ℕ = at m hour_at in
        let now_in : ℕ → Tables = λ g. cond (eqb h g) (table_in n) blank in
        let hour : f + q / crew ≡ f = omega arith in
        let number : q % crew ≡ q = omega arith in
        subst (λ f. SamePage ((put (tables_in m) f (with_page (tables_in m f) (q % crew) (page_of_rows ss cs)) h).page j) ((tables_in n h).page j)) (sym hour)
        (subst (λ i. SamePage ((put (tables_in m) f (with_page (tables_in m f) i (page_of_rows ss cs)) h).page j) ((tables_in n h).page j)) (sym number)
        (subst (λ g. SamePage ((put (tables_in m) f (with_page (tables_in m f) q (page_of_rows ss cs)) h).page j) ((now_in g).page j)) (sym e)
        (subst (λ b. SamePage ((put (tables_in m) f (with_page (cond b (table_in m) blank) q (page_of_rows ss cs)) h).page j) ((now_in f).page j))
        (sym (eq-eqb f f refl)) (on (eqb h f)))))
      where
        now : SamePage ((table_in (page_over q ss cs)).page j) ((table_in n).page j)
        now =
            page_kept (page_over q ss cs) n (sums_at + slots * j) (counts_at + slots * j)
            (λ c le l. k c (omega arith) (omega arith)) (λ c le l. k c (omega arith) (omega arith))

        on : (b : Bool) →
            SamePage ((pick b (with_page (table_in m) q (page_of_rows ss cs)) (cond b (table_in m) blank)).page j) ((cond b (table_in n) blank).page j)
        on true = page_trans _ _ _ (each_page j lj) now
        on false = record { entries = λ s ls. refl }

    -- the memory, with what is done next set before the rest
    module _ (begins : at m stage_at ≡ 0) where
      reader_begins : stage_of (at m stage_at) (at m hour_at) (at m next_at) ≡ begun (at m hour_at)
      reader_begins = ap (λ v. stage_of v (at m hour_at) (at m next_at)) begins

      page_memory : (xs : List (ℕ × ℕ)) → all_in (λ i. ltb i me_at) xs ≡ true → all_in (λ i. ltb i word_at) xs ≡ true →
          all_in (λ i. or (ltb i word_at) (leb cells i)) xs ≡ true → SameMemory (after q ss cs) (memory_of (sets xs (page_over q ss cs)))
      page_memory xs few low low₂ =
          let k : Named xs m (sets xs (page_over q ss cs)) = named_set xs m (page_over q ss cs) page_long low (λ c le l. page_front c (omega arith)) in
          let o : (c : ℕ) → me_at ≤ c → at m c ≡ found xs c (at m c) = λ c le. found_behind xs me_at c (at m c) few le in
          let rows : Kept word_at cells (page_over q ss cs) (sets xs (page_over q ss cs)) = λ c le l.
          not_set xs (page_over q ss cs) word_at cells c low₂ le l in
          let tables : Kept sums_at word_sums_at (page_over q ss cs) (sets xs (page_over q ss cs)) = λ c le l. rows c (omega arith) (omega arith) in
          let words : Kept word_at sums_at m (sets xs (page_over q ss cs)) = λ c le l. rows c le (omega arith) ∙ page_front c (omega arith) in
          let pages : Kept word_sums_at cells m (sets xs (page_over q ss cs)) = λ c le l. rows c (omega arith) l ∙ page_back c (omega arith) in
          let hour : at (sets xs (page_over q ss cs)) hour_at ≡ at m hour_at = k hour_at (omega arith) ∙ sym (o hour_at (omega arith)) in
          memory_by xs m (sets xs (page_over q ss cs)) k (paged (memory_of m) q (page_of_rows ss cs)) me (o me_at (omega arith))
          (ap (λ a. stage_of a (at m hour_at) (at m next_at)) (o stage_at (omega arith))
          ∙ ap₂ (λ a c. stage_of (found xs stage_at (at m stage_at)) a c) (o hour_at (omega arith)) (o next_at (omega arith)))
          (o pos_at (omega arith)) (ap set_of (o set_at (omega arith))) (ap (λ v. not (eqb v 0)) (o paused_at (omega arith))) (o kept_at (omega arith))
          (ap₂ (λ a c. record { hour = a; slot = c }) (o cursor_hour_at (omega arith)) (o cursor_slot_at (omega arith)))
          (subst (λ s. SameOpen s (with_page_at (tables_in m) (first_open s) q (page_of_rows ss cs)) (tables_in (sets xs (page_over q ss cs))))
          (sym reader_begins) (page_tables (sets xs (page_over q ss cs)) hour tables))
          (mail_kept m (sets xs (page_over q ss cs)) words pages)

      page_asked_next : (w : ℕ) → names_set (at m set_at) ≡ true →
          BootDoes (next_page (after q ss cs) w) (page_asked (page_over q ss cs) (set_named (at m set_at)) w)
      unfolding sets found all_in
      page_asked_next w some = on (ltb w 8) refl
        where
          named : (xs : List (ℕ × ℕ)) → all_in (λ i. ltb i word_at) xs ≡ true → Named xs m (sets xs (page_over q ss cs))
          named xs low = named_set xs m (page_over q ss cs) page_long low (λ c le l. page_front c (omega arith))

          on : (b : Bool) → ltb w 8 ≡ b →
              BootDoes (pick b (next_asked (after q ss cs) w) (cursor_asked (after q ss cs))) (page_asked (page_over q ss cs) (set_named (at m set_at)) w)
          on true e =
              let xs : List (ℕ × ℕ) = (index_at, w) ∷ (phase_at, 2) ∷ [] in
              subst (λ d. BootDoes (next_asked (after q ss cs) w) (page_asked_in (page_over q ss cs) w d))
              (sym (drawer_by_number (at m set_at) w some (ltb-true w 8 e)))
              (record {
                phase = phase_by xs m (sets xs (page_over q ss cs)) (named xs refl);
                memory = page_memory xs refl refl refl;
                said = λ x. absurd (both_ways _ refl x);
                begun = λ x. begun_named xs m (sets xs (page_over q ss cs)) (named xs refl) (and_from _ _ (ap (λ v. eqb v 0) begins) some);
                act = refl;
              })
          on false e =
              let xs : List (ℕ × ℕ) = (phase_at, 3) ∷ [] in
              subst (λ d. BootDoes (cursor_asked (after q ss cs)) (page_asked_in (page_over q ss cs) w d))
              (sym (no_drawer (set_named (at m set_at)) w (ltb-false w 8 e)))
              (record {
                phase = phase_by xs m (sets xs (page_over q ss cs)) (named xs refl);
                memory = page_memory xs refl refl refl;
                said = λ x. absurd (both_ways _ refl x);
                begun = λ x. absurd (both_ways _ refl x);
                act = refl;
              })

  pub page_does : (bs : List ℕ) (p : Page) → at m index_at < crew → begun_with_set m ≡ true → page_seen bs ≡ Some p →
      BootDoes (asks_next (paged (memory_of m) (at m index_at) p) (at m index_at)) (page_recalled m bs)
  page_does bs p lt begins seen =
      let q : ℕ = at m index_at in
      let fit = seen_page bs p seen in
      let both = and_parts (eqb (at m stage_at) 0) _ begins in
      let next : q + 1 ≡ suc q = omega arith in
      let asked : Done = page_asked (page_over q (page_sums bs) (page_counts bs)) (set_named (at m set_at)) (q + 1) in
      simp (lt-ltb _ _ lt, fit.0)
      (subst (λ g. BootDoes (asks_next (paged (memory_of m) q g) q) asked) fit.1
      (subst (λ w. BootDoes (next_page (after q (page_sums bs) (page_counts bs)) w) asked) next
      (page_asked_next q lt (page_sums bs) (page_counts bs) (length_sums bs) (length_counts bs) (eqb-true _ _ both.0) (q + 1) both.1)))
