-- What comes from the gauge, by the cells as by the protocol: a reading is taken in or makes the hour whole, and the row ends.
use Rattle.std.proofs.Common.{◌≡◌, inl, inr, ℕ, suc, ◌+◌, ◌-◌, ◌*◌, ◌/◌, ◌%◌, ◌<◌, ◌≤◌, max, Bool, true, false, cond, not, eqb, leb, List, [], ◌∷◌, length, length-set, get_or, set, Some, None, Ok, Option, refl, sym, ap, ap₂, add-one, ◌∙◌, subst, ⊎_elim, arith}
use Rattle.std.proofs.lemmas.Bool.{eqb-true, eq-eqb, ne_eqb, lt-ltb, ltb-true, le-leb, lt-leb, leb-true, leb-false, both_ways, and_parts, cases_Bool, cases_lt}
use Rattle.sums.specs.Cells.{places, slots}
use Rattle.sums.specs.Sums.{pick, or, Reading, hour_of, a_reading}
use Rattle.sums.specs.Tables.{entry_with}
use Rattle.protocol.specs.Entries.{is_counted, join, one_entry}
use Rattle.protocol.specs.Limits.{late, crew}
use Rattle.protocol.specs.Mail.{with_news}
use Rattle.protocol.specs.Memory.{Memory, with_reader}
use Rattle.protocol.specs.OpenHours.{hour_in, oldest, raised, sooner, taking_in}
use Rattle.protocol.specs.Reader.{Stage, begun, whole, ended, read_on}
use Rattle.protocol.specs.Reading.{reads_by, reads, ends_by, ends}
use Rattle.protocol.specs.Tables.{blank, blank_page, with_reading, taking, comes_at, filled}
use Rattle.protocol_world.specs.Sizes.{top, StageSized, EntrySized, PageSized, OpenSized, MemorySized}
use Rattle.protocol_bridge.specs.Same.{SamePage, SameTables, SameFrom, SameMemory}
use Rattle.protocol.proofs.Searches.{any_here}
use Rattle.protocol.specs.Searches.{any_below}
use Rattle.gauge.specs.Gauge.{sums_in, counts_in, taken_by, takes, read, row_ended}
use Rattle.gauge.specs.Gauge.{with_news as with_news_cells}
use Rattle.gauge.specs.Memory.{at, cells, limit, no_next, phase_at, me_at, stage_at, hour_at, next_at, pos_at, filled_at, sums_at, counts_at}
use Rattle.gauge.specs.Views.{stage_of, stage_in, table_in, tables_in, memory_of}
use Rattle.whole.specs.Seen.{filled_as_said}
use Rattle.whole.proofs.Bytes.{at_row, length_row}
use Rattle.whole.proofs.Cells.{sets, found, length_sets}
use Rattle.whole.proofs.Parts.{mail_kept}
use Rattle.whole.proofs.Heads.{memory_by}
use Rattle.whole.proofs.Reading.{flag_is, oldest_now, none_later, old_tables, taken_named, taken_mail, tables_taken, said_taken}
use Rattle.whole.proofs.Whole.{news_is, news_long, news_named, news_memory, news_said}

-- none of the numbers below n
none_here : (g : ℕ → Bool) (n k : ℕ) → k < n → any_below g n ≡ false → g k ≡ false
none_here g n k lt none = ⊎_elim (λ (t : g k ≡ true). absurd (both_ways _ none (any_here g n k lt t))) (λ t. t) (cases_Bool (g k))

-- what is taken in leaves a memory of which nothing is half done
pub record Taken (b : Memory) (o : Option (List ℕ)) : Type 0 where
  pub memory : List ℕ
  pub is : o ≡ Some memory
  pub long : length memory ≡ cells
  pub me : at memory me_at < crew
  pub ready : at memory phase_at ≡ 6
  pub said : filled_as_said memory ≡ true
  pub same : SameMemory b (memory_of memory)

module _ (m : List ℕ) (len : length m ≡ cells) (me : at m me_at < crew) (ph : at m phase_at ≡ 6) (said : filled_as_said m ≡ true) (st : at m stage_at ≡ 0)
    (sized : MemorySized (memory_of m)) where
  abbrev f : ℕ
  f = at m hour_at

  abbrev b : Memory
  b = memory_of m

  pub stage_is : stage_in m ≡ begun f
  stage_is = ap (λ t. stage_of t f (at m next_at)) st

  hour_low : f < top
  hour_low = subst StageSized stage_is sized.stage

  -- what is whole, or has ended
  news_taken : (t x : ℕ) (s : Stage) → s ≡ stage_of t f x → Taken (with_news b s) (Some (with_news_cells m t x))
  unfolding found
  news_taken t x s e = record {
    memory = with_news_cells m t x;
    is = refl;
    long = subst (λ n. length n ≡ cells) (sym (news_is m len me t x)) (news_long m len me t x);
    me = subst (λ n. at n me_at < crew) (sym (news_is m len me t x)) (subst (λ v. v < crew) (sym (news_named m len me t x me_at (omega arith))) me);
    ready = subst (λ n. at n phase_at ≡ 6) (sym (news_is m len me t x)) (news_named m len me t x phase_at (omega arith) ∙ ph);
    said = subst (λ n. filled_as_said n ≡ true) (sym (news_is m len me t x)) (news_said m len me t x said);
    same = subst (λ n. SameMemory (with_news b s) (memory_of n)) (sym (news_is m len me t x)) (news_memory m len me t x s e);
  }

  -- THE ROW'S END
  pub ended_taken : Taken (ends b (stage_in m)) (Some (row_ended m))
  ended_taken =
      subst (λ s. Taken (ends b s) (Some (row_ended m))) (sym stage_is)
      (subst (λ o. Taken (ends_by b o) (Some (row_ended m))) (sym (oldest_now m ∙ ap (λ c. hour_in f (pick c (Some 0) None)) (flag_is m said))) (on (eqb (at m filled_at) 0)))
    where
      -- by the flag: nothing is in the tables, or something is
      on : (z : Bool) → Taken (ends_by b (hour_in f (pick (not z) (Some 0) None))) (Some (cond z (with_news_cells m 2 no_next) (with_news_cells m 1 no_next)))
      on true = news_taken 2 no_next ended refl
      on false = subst (λ o. Taken (with_news b (whole (f + 0) o)) (Some (with_news_cells m 1 no_next))) (sym (none_later m))
          (news_taken 1 no_next (whole (f + 0) None) (ap (λ k. whole k None) (omega arith)))

  -- nothing is in the tables, where the flag says so
  no_reading : eqb (at m filled_at) 0 ≡ true → SameTables (table_in m) blank
  unfolding filled comes_at blank_page
  no_reading z j lj = record {
    entries = λ s ls.
        let none : filled (table_in m) ≡ false = flag_is m said ∙ ap not z in
        let no : is_counted (((table_in m).page j).entries s) ≡ false = uncounted none j lj s ls in
        let count : at m (counts_at + slots * j + s) ≡ 0 = zero_of _ no in
        let same : SamePage ((tables_in m f).page j) ((table_in m).page j) = subst (λ c. SamePage ((cond c (table_in m) blank).page j) ((table_in m).page j)) (sym (eq-eqb f f refl)) (record { entries = λ s ls. refl }) in
        let small : EntrySized (((table_in m).page j).entries s) = subst EntrySized (same.entries s ls) ((open_now.0 f j (omega arith) lj).entries s ls) in
        ap₂ (λ x y. record { sum = x; count = y }) (small.2 count) count;
  }
    where
      zero_of : (v : ℕ) → not (eqb v 0) ≡ false → v ≡ 0
      zero_of v e = ⊎_elim (λ (t : eqb v 0 ≡ true). eqb-true v 0 t) (λ (t : eqb v 0 ≡ false). absurd (both_ways _ e (ap not t))) (cases_Bool (eqb v 0))

      open_now : OpenSized (tables_in m) (begun f)
      open_now = subst (OpenSized (tables_in m)) stage_is sized.pages

      uncounted : filled (table_in m) ≡ false → (j : ℕ) → j < crew → (s : ℕ) → s < slots → is_counted (((table_in m).page j).entries s) ≡ false
      uncounted none j lj s ls =
          let k : ℕ = crew * s + j in
          let page : k % crew ≡ j = omega (arith, lj) in
          let slot : k / crew ≡ s = omega (arith, lj) in
          subst (λ x. is_counted (((table_in m).page x).entries s) ≡ false) page
          (subst (λ y. is_counted (((table_in m).page (k % crew)).entries y) ≡ false) slot
          (none_here (λ n. is_counted (((table_in m).page (n % crew)).entries (n / crew))) 1024 k (omega (arith, lj, ls)) none))

  -- A READING
  module _ (r : Reading) (ok : a_reading r ≡ true) (low : f ≤ hour_of r) where
    abbrev h : ℕ
    h = hour_of r

    time_low : r.time < 4611686018427387904
    time_low = ltb-true _ _ (and_parts _ _ ok).0

    key_low : r.key < 1024
    key_low = ltb-true _ _ (and_parts _ _ (and_parts _ _ ok).1).0

    value_low : r.value < 4294967296
    value_low = ltb-true _ _ (and_parts _ _ (and_parts _ _ ok).1).1

    abbrev i : ℕ
    i = slots * (r.key % crew) + r.key / crew

    abbrev pub news_b : Memory
    news_b = with_news b (whole (f + 0) (Some (sooner (oldest (tables_in m) (suc (f + 0))) (h - late))))

    abbrev read_b : Memory
    read_b = with_reader b (read_on b.reader (raised f h) r)

    raised_is : raised f h ≡ h
    raised_is = ⊎_elim (λ (l : f < h). ap (λ c. pick c f (h - 0)) (lt-leb h (f + 0) (omega (arith, l))) ∙ omega arith)
        (λ (g : h ≤ f). ap (λ c. pick c f (h - 0)) (le-leb h (f + 0) (omega arith)) ∙ omega (arith, g, low)) (cases_lt f h)

    -- where it is taken in, the tables have nothing of an earlier hour
    empty_if : takes m h ≡ true → f < h → SameTables (table_in m) blank
    empty_if t lt = on (eqb (at m filled_at) 0) refl t
      where
        on : (z : Bool) → eqb (at m filled_at) 0 ≡ z → or z (leb h f) ≡ true → SameTables (table_in m) blank
        on true e t = no_reading e
        on false e t = absurd (omega (arith, lt, leb-true h f t))

    -- what the protocol makes of it
    pub reads_is : reads b (stage_in m) r ≡ pick (takes m h) read_b news_b
    reads_is = ap (λ s. reads b s r) stage_is
        ∙ ap (λ o. reads_by b f o r) (oldest_now m ∙ ap (λ c. hour_in f (pick c (Some 0) None)) (flag_is m said)) ∙ on (eqb (at m filled_at) 0)
      where
        later : (c : Bool) → leb h f ≡ c → pick (leb h (f + 0 + late)) read_b news_b ≡ pick c read_b news_b
        later true e = ap (λ c. pick c read_b news_b) (le-leb h (f + 0 + late) (omega (arith, leb-true h f e)))
        later false e = ap (λ c. pick c read_b news_b) (lt-leb h (f + 0 + late) (omega (arith, leb-false h f e)))

        on : (z : Bool) → reads_by b f (hour_in f (pick (not z) (Some 0) None)) r ≡ pick (or z (leb h f)) read_b news_b
        on true = refl
        on false = later (leb h f) refl

    -- its entry, as it is to be
    sum_now : takes m h ≡ true → (((tables_in m h).page (r.key % crew)).entries (r.key / crew)).sum ≡ at m (sums_at + i)
    sum_now t = ap (λ x. x.sum) ((old_tables m len r key_low low (empty_if t) (r.key % crew) (omega arith)).entries (r.key / crew) (omega (arith, key_low))) ∙ ap (at m) (omega arith)

    count_now : takes m h ≡ true → (((tables_in m h).page (r.key % crew)).entries (r.key / crew)).count ≡ at m (counts_at + i)
    count_now t = ap (λ x. x.count) ((old_tables m len r key_low low (empty_if t) (r.key % crew) (omega arith)).entries (r.key / crew) (omega (arith, key_low))) ∙ ap (at m) (omega arith)

    module _ (room : takes m h ≡ true → OpenSized (taking_in (tables_in m) r) (begun (raised f h))) where
      -- the page that it is taken into, where that has room
      entry_room : takes m h ≡ true → (at m (sums_at + i) + r.value < 18446744073709551616) × (at m (counts_at + i) + 1 < 4294967296)
      unfolding with_reading
      entry_room t =
          let page : PageSized ((taking_in (tables_in m) r h).page (r.key % crew)) = (room t).0 h (r.key % crew) (omega (arith, raised_is)) (omega arith) in
          let taken : PageSized (with_reading ((tables_in m h).page (r.key % crew)) r) =
          subst (λ c. PageSized (pick c (with_reading ((tables_in m h).page (r.key % crew)) r) ((tables_in m h).page (r.key % crew)))) (eq-eqb (r.key % crew) (r.key % crew) refl)
          (subst (λ c. PageSized ((pick c (taking (tables_in m h) r) (tables_in m h)).page (r.key % crew))) (eq-eqb h h refl) page) in
          let entry : EntrySized (join (((tables_in m h).page (r.key % crew)).entries (r.key / crew)) (one_entry r)) =
          subst (λ c. EntrySized (pick c (join (((tables_in m h).page (r.key % crew)).entries (r.key / crew)) (one_entry r)) (((tables_in m h).page (r.key % crew)).entries (r.key / crew))))
          (eq-eqb (r.key / crew) (r.key / crew) refl) (taken.entries (r.key / crew) (omega (arith, key_low))) in
          (subst (λ v. v + r.value < 18446744073709551616) (sum_now t) entry.0, subst (λ v. v + 1 < 4294967296) (count_now t) entry.1)

      abbrev after : List ℕ
      after = sets ((filled_at, 1) ∷ (pos_at, at m pos_at + 1) ∷ (hour_at, max (at m hour_at) h) ∷ [])
          (set (set m (sums_at + i) (at m (sums_at + i) + r.value)) (counts_at + i) (at m (counts_at + i) + 1))

      entry_is : takes m h ≡ true → entry_with (sums_in m) (counts_in m) r.key r.value ≡ Ok (record { cell = i; sum = at m (sums_at + i) + r.value; count = at m (counts_at + i) + 1 })
      entry_is t =
          let ls : length (sums_in m) ≡ places = length_row m sums_at places (omega (arith, len)) in
          let lc : length (counts_in m) ≡ places = length_row m counts_at places (omega (arith, len)) in
          let sum_here : get_or (sums_in m) i 0 ≡ at m (sums_at + i) = at_row m sums_at places i (omega (arith, key_low)) in
          let count_here : get_or (counts_in m) i 0 ≡ at m (counts_at + i) = at_row m counts_at places i (omega (arith, key_low)) in
          let room : (at m (sums_at + i) + r.value < 18446744073709551616) × (at m (counts_at + i) + 1 < 4294967296) = entry_room t in
          simp (lt-ltb _ _ key_low, ls, lc, sum_here, count_here, lt-ltb _ _ room.0, lt-ltb _ _ room.1)

      taken_is : takes m h ≡ true → taken_by m h (entry_with (sums_in m) (counts_in m) r.key r.value) ≡ Some after
      unfolding sets
      taken_is t = ap (taken_by m h) (entry_is t) ∙ ap (λ c. cond c (Some after) None) (lt-ltb (at m pos_at + 1) limit (omega (arith, sized.pos)))

      one_more : takes m h ≡ true → Taken read_b (Some after)
      unfolding found
      one_more t =
          let empty = empty_if t in
          let named = taken_named m len r key_low low empty in
          let up : raised f h ≡ max f h = raised_is ∙ omega (arith, low) in
          let tables : SameFrom (raised f h) (taking_in (tables_in m) r) (tables_in after) = subst (λ k. SameFrom k (taking_in (tables_in m) r) (tables_in after)) (sym raised_is) (tables_taken m len r key_low low empty) in
          record {
            memory = after;
            is = refl;
            long = length_sets _ _ ∙ length-set _ _ _ ∙ length-set _ _ _ ∙ len;
            me = subst (λ v. v < crew) (sym (named me_at (omega arith))) me;
            ready = named phase_at (omega arith) ∙ ph;
            said = said_taken m len r key_low low empty;
            same = memory_by ((filled_at, 1) ∷ (pos_at, at m pos_at + 1) ∷ (hour_at, max (at m hour_at) h) ∷ []) m after named read_b me refl
                (ap begun up ∙ sym (ap (λ t. stage_of t (max f h) (at m next_at)) st)) (sym (add-one (at m pos_at))) refl refl refl refl tables
                (mail_kept m after (λ c le lt. taken_mail m len r key_low low empty c le (omega arith) (inl lt)) (λ c le lt. taken_mail m len r key_low low empty c (omega arith) lt (inr le)));
          }

      made_whole : Taken news_b (Some (with_news_cells m 1 h))
      made_whole =
          subst (λ o. Taken (with_news b (whole (f + 0) (Some (sooner o (h - late))))) (Some (with_news_cells m 1 h))) (sym (none_later m))
          (news_taken 1 h (whole (f + 0) (Some (h - late)))
          (ap₂ (λ x y. whole x (Some y)) (omega arith) (omega arith) ∙ ap (λ c. whole f (cond c None (Some h))) (sym (ne_eqb h no_next (λ q. omega (arith, q, time_low))))))

      pub reading_taken : Taken (reads b (stage_in m) r) (read m r.time r.key r.value)
      reading_taken =
          subst (λ x. Taken x (read m r.time r.key r.value)) (sym reads_is)
          (subst (Taken (pick (takes m h) read_b news_b)) (sym (ap (λ z. cond z (cond (takes m h) taken (Some (with_news_cells m 1 h))) None) ok)) (on (takes m h) refl))
        where
          taken : Option (List ℕ)
          taken = taken_by m h (entry_with (sums_in m) (counts_in m) r.key r.value)

          on : (c : Bool) → takes m h ≡ c → Taken (pick c read_b news_b) (cond c taken (Some (with_news_cells m 1 h)))
          on true t = subst (Taken read_b) (sym (taken_is t)) (one_more t)
          on false t = made_whole
