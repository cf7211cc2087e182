-- A reading is taken in by the cells as by the protocol.
use Rattle.std.proofs.Common.{◌≡◌, ◌≢◌, ◌⊎◌, inl, inr, ℕ, suc, ◌+◌, ◌*◌, ◌/◌, ◌%◌, ◌<◌, ◌≤◌, max, Bool, true, false, cond, not, eqb, List, [], ◌∷◌, length, set, Some, None, refl, sym, ap, ap₂, ◌∙◌, subst, ⊎_elim, arith}
use Rattle.std.proofs.lemmas.Bool.{eqb-true, eq-eqb, ne_eqb, both_ways, cases_Bool, cases_lt}
use Rattle.std.proofs.lemmas.List.{length-set, get_or-set_other}
use Rattle.sums.specs.Cells.{slots}
use Rattle.sums.specs.Sums.{pick, Reading, hour_of}
use Rattle.protocol.specs.Entries.{is_counted, join, one_entry}
use Rattle.protocol.specs.Limits.{crew}
use Rattle.protocol.specs.OpenHours.{hour_in, oldest, taking_in}
use Rattle.protocol.specs.Searches.{find, put}
use Rattle.protocol.specs.Tables.{Page, blank, blank_page, with_reading, taking, comes_at, filled}
use Rattle.protocol_bridge.specs.Same.{SamePage, SameTables, SameFrom}
use Rattle.protocol_bridge.proofs.Same.{page_trans}
use Rattle.protocol.proofs.Searches.{any_here}
use Rattle.gauge.specs.Memory.{at, cells, hour_at, pos_at, filled_at, word_at, sums_at, counts_at, word_sums_at}
use Rattle.gauge.specs.Views.{flag_in, table_in, tables_in}
use Rattle.whole.specs.Seen.{filled_as_said}
use Rattle.whole.proofs.Cells.{sets, found, all_in, here}
use Rattle.whole.proofs.Parts.{Kept}
use Rattle.whole.proofs.Heads.{cell, unset}
use Rattle.whole.proofs.Going.{not_filled}

-- the flag says whether the tables have a reading
pub flag_is : (m : List ℕ) → filled_as_said m ≡ true → filled (table_in m) ≡ flag_in m filled_at
flag_is m h = on (filled (table_in m)) (flag_in m filled_at) h
  where
    on : (a b : Bool) → cond a b (not b) ≡ true → a ≡ b
    on true b e = sym e
    on false true e = absurd (both_ways _ refl e)
    on false false e = refl

-- THE OLDEST open hour with a reading
module _ (m : List ℕ) where
  abbrev f : ℕ
  f = at m hour_at

  hour_tables : tables_in m (f + 0) ≡ table_in m
  hour_tables = ap (λ b. cond b (table_in m) blank) (eq-eqb (f + 0) f (omega arith))

  pub oldest_now : oldest (tables_in m) f ≡ hour_in f (pick (filled (table_in m)) (Some 0) None)
  unfolding find
  oldest_now = ap (λ t. hour_in f (pick (filled t) (Some 0) None)) hour_tables

  blank_later : (h : ℕ) → h ≢ f → tables_in m h ≡ blank
  blank_later h ne = ap (λ b. cond b (table_in m) blank) (ne_eqb h f ne)

  pub none_later : oldest (tables_in m) (suc (f + 0)) ≡ None
  unfolding find
  none_later =
      ap (λ t. hour_in (suc (f + 0)) (pick (filled t) (Some 0) None)) (blank_later (suc (f + 0) + 0) (λ q. omega (arith, q)))
      ∙ ap (λ b. hour_in (suc (f + 0)) (pick b (Some 0) None)) (not_filled blank (λ j lj. record { entries = λ s ls. refl }))

-- TABLES WITH A READING of hour h at a place whose page is q and whose slot is s
module _ (m : List ℕ) (len : length m ≡ cells) (r : Reading) (key : r.key < 1024) (low : at m hour_at ≤ hour_of r)
    (empty : at m hour_at < hour_of r → SameTables (table_in m) blank) where
  abbrev h : ℕ
  h = hour_of r

  abbrev q : ℕ
  q = r.key % crew

  abbrev p : ℕ
  p = r.key / crew

  -- its cell
  abbrev i : ℕ
  i = slots * q + p

  abbrev sum : ℕ
  sum = at m (sums_at + i) + r.value

  abbrev count : ℕ
  count = at m (counts_at + i) + 1

  abbrev l : List ℕ
  l = set (set m (sums_at + i) sum) (counts_at + i) count

  abbrev xs : List (ℕ × ℕ)
  xs = (filled_at, 1) ∷ (pos_at, at m pos_at + 1) ∷ (hour_at, max (at m hour_at) h) ∷ []

  abbrev after : List ℕ
  after = sets xs l

  slot_low : p < slots
  slot_low = omega (arith, key)

  l_long : length l ≡ cells
  l_long = length-set (set m (sums_at + i) sum) (counts_at + i) count ∙ length-set m (sums_at + i) sum ∙ len

  l_other : (c : ℕ) → c ≢ sums_at + i → c ≢ counts_at + i → at l c ≡ at m c
  l_other c a b = get_or-set_other (set m (sums_at + i) sum) (counts_at + i) c count 0 b ∙ get_or-set_other m (sums_at + i) c sum 0 a

  l_sum : at l (sums_at + i) ≡ sum
  l_sum = get_or-set_other (set m (sums_at + i) sum) (counts_at + i) (sums_at + i) count 0 (λ e. omega (arith, e)) ∙ here m (sums_at + i) sum (omega (arith, len, slot_low))

  l_count : at l (counts_at + i) ≡ count
  l_count = here (set m (sums_at + i) sum) (counts_at + i) count (omega (arith, len, slot_low, length-set m (sums_at + i) sum))

  sum_at_cell : at l (sums_at + slots * q + p) ≡ sum
  sum_at_cell = let e : sums_at + i ≡ sums_at + slots * q + p = omega arith in subst (λ c. at l c ≡ sum) e l_sum

  count_at_cell : at l (counts_at + slots * q + p) ≡ count
  count_at_cell = let e : counts_at + i ≡ counts_at + slots * q + p = omega arith in subst (λ c. at l c ≡ count) e l_count

  pub taken_named : (c : ℕ) → c < word_at → at after c ≡ found xs c (at m c)
  unfolding all_in
  taken_named c lt = cell xs l l_long refl c ∙ ap (found xs c) (l_other c (λ e. omega (arith, e)) (λ e. omega (arith, e)))

  later : (b : ℕ) → Kept word_at b l after
  unfolding all_in
  later b = unset xs l l_long refl b

  pub taken_mail : (c : ℕ) → word_at ≤ c → c < cells → (c < sums_at) ⊎ (word_sums_at ≤ c) → at after c ≡ at m c
  taken_mail c le lt side = later cells c le lt ∙ l_other c (λ e. off side e) (λ e. off₂ side e)
    where
      off : (c < sums_at) ⊎ (word_sums_at ≤ c) → c ≡ sums_at + i → ⊥
      off (inl a) e = omega (arith, a, e)
      off (inr a) e = omega (arith, a, e, slot_low)

      off₂ : (c < sums_at) ⊎ (word_sums_at ≤ c) → c ≡ counts_at + i → ⊥
      off₂ (inl a) e = omega (arith, a, e)
      off₂ (inr a) e = omega (arith, a, e, slot_low)

  -- the entries of page j now
  page_other : (j : ℕ) → j < crew → j ≢ q → SamePage ((table_in m).page j) ((table_in after).page j)
  page_other j lj ne = record {
    entries = λ s ls. ap₂ (λ a b. record { sum = a; count = b })
        (sym (later cells (sums_at + slots * j + s) (omega arith) (omega arith) ∙ l_other (sums_at + slots * j + s) (λ e. ne (omega (arith, e, ls, slot_low))) (λ e. omega (arith, e, ls, lj, slot_low))))
        (sym (later cells (counts_at + slots * j + s) (omega arith) (omega arith) ∙ l_other (counts_at + slots * j + s) (λ e. omega (arith, e, ls, lj, slot_low)) (λ e. ne (omega (arith, e, ls, slot_low)))));
  }

  abbrev old_page : Page
  old_page = (table_in m).page q

  abbrev new_page : Page
  new_page = (table_in after).page q

  joined : join (old_page.entries p) (one_entry r) ≡ record { sum = sum; count = count }
  joined =
      let e : sums_at + slots * q + p ≡ sums_at + i = omega arith in
      let k : counts_at + slots * q + p ≡ counts_at + i = omega arith in
      ap₂ (λ a b. record { sum = at m a + r.value; count = at m b + 1 }) e k

  page_here : SamePage (with_reading ((table_in m).page q) r) ((table_in after).page q)
  unfolding with_reading
  page_here = record {
    entries = λ s ls.
        ⊎_elim
        (λ (e : eqb s p ≡ true). subst (λ b. pick b (join (old_page.entries p) (one_entry r)) (old_page.entries s) ≡ new_page.entries s) (sym e)
        (subst (λ k. join (old_page.entries p) (one_entry r) ≡ new_page.entries k) (sym (eqb-true s p e))
        (joined ∙ ap₂ (λ a b. record { sum = a; count = b })
        (sym (later cells (sums_at + slots * q + p) (omega arith) (omega (arith, slot_low)) ∙ sum_at_cell)) (sym (later cells (counts_at + slots * q + p) (omega arith) (omega (arith, slot_low)) ∙ count_at_cell)))))
        (λ (e : eqb s p ≡ false). subst (λ b. pick b (join (old_page.entries p) (one_entry r)) (old_page.entries s) ≡ new_page.entries s) (sym e)
        (ap₂ (λ a b. record { sum = a; count = b })
        (sym (later cells (sums_at + slots * q + s) (omega arith) (omega (arith, ls)) ∙ l_other (sums_at + slots * q + s) (λ k. both_ways _ e (eq-eqb s p (omega (arith, k)))) (λ k. omega (arith, k, ls, slot_low))))
        (sym (later cells (counts_at + slots * q + s) (omega arith) (omega (arith, ls)) ∙ l_other (counts_at + slots * q + s) (λ k. omega (arith, k, ls, slot_low)) (λ k. both_ways _ e (eq-eqb s p (omega (arith, k))))))))
        (cases_Bool (eqb s p));
  }

  -- the pages of hour h with the reading, whatever they were
  pub old_tables : (j : ℕ) → j < crew → SamePage ((tables_in m h).page j) ((table_in m).page j)
  old_tables j lj =
      ⊎_elim
      (λ (e : eqb h (at m hour_at) ≡ true). subst (λ b. SamePage ((cond b (table_in m) blank).page j) ((table_in m).page j)) (sym e) (record { entries = λ s ls. refl }))
      (λ (e : eqb h (at m hour_at) ≡ false). subst (λ b. SamePage ((cond b (table_in m) blank).page j) ((table_in m).page j)) (sym e)
      (record { entries = λ s ls. sym ((empty (above e) j lj).entries s ls) }))
      (cases_Bool (eqb h (at m hour_at)))
    where
      above : eqb h (at m hour_at) ≡ false → at m hour_at < h
      above e = ⊎_elim (λ l. l) (λ (g : h ≤ at m hour_at). absurd (both_ways _ e (eq-eqb h (at m hour_at) (omega (arith, g, low))))) (cases_lt (at m hour_at) h)

  read_same : (a b : Page) → SamePage a b → SamePage (with_reading a r) (with_reading b r)
  unfolding with_reading
  read_same a b e = record {
    entries = λ s ls. on (eqb s p) s ls;
  }
    where
      on : (c : Bool) (s : ℕ) → s < slots → pick c (join (a.entries p) (one_entry r)) (a.entries s) ≡ pick c (join (b.entries p) (one_entry r)) (b.entries s)
      on true s ls = ap (λ x. join x (one_entry r)) (e.entries p slot_low)
      on false s ls = e.entries s ls

  pub page_taken : (j : ℕ) → j < crew → SamePage ((taking (tables_in m h) r).page j) ((table_in after).page j)
  page_taken j lj =
      ⊎_elim
      (λ (e : eqb j q ≡ true). subst (λ b. SamePage (pick b (with_reading ((tables_in m h).page q) r) ((tables_in m h).page j)) ((table_in after).page j)) (sym e)
      (subst (λ k. SamePage (with_reading ((tables_in m h).page q) r) ((table_in after).page k)) (sym (eqb-true j q e))
      (page_trans _ _ _ (read_same _ _ (old_tables q (omega arith))) page_here)))
      (λ (e : eqb j q ≡ false). subst (λ b. SamePage (pick b (with_reading ((tables_in m h).page q) r) ((tables_in m h).page j)) ((table_in after).page j)) (sym e)
      (page_trans _ _ _ (old_tables j lj) (page_other j lj (λ k. both_ways _ e (eq-eqb j q k)))))
      (cases_Bool (eqb j q))

  hour_after : at after hour_at ≡ h
  unfolding found
  hour_after = taken_named hour_at (omega arith) ∙ omega (arith, low)

  -- from hour h on
  pub tables_taken : SameFrom h (taking_in (tables_in m) r) (tables_in after)
  tables_taken g j le lj =
      subst (λ v. SamePage ((put (tables_in m) h (taking (tables_in m h) r) g).page j) ((cond (eqb g v) (table_in after) blank).page j)) (sym hour_after)
      (⊎_elim
      (λ (e : eqb g h ≡ true). subst (λ b. SamePage ((pick b (taking (tables_in m h) r) (tables_in m g)).page j) ((cond b (table_in after) blank).page j)) (sym e) (page_taken j lj))
      (λ (e : eqb g h ≡ false). subst (λ b. SamePage ((pick b (taking (tables_in m h) r) (tables_in m g)).page j) ((cond b (table_in after) blank).page j)) (sym e)
      (subst (λ t. SamePage (t.page j) blank_page) (sym (blank_later m g (λ k. both_ways _ e (eq-eqb g h (omega (arith, k, le, low)))))) (record { entries = λ s ls. refl })))
      (cases_Bool (eqb g h)))

  -- and the flag is as it should be: the reading is counted
  pub said_taken : filled_as_said after ≡ true
  unfolding found filled comes_at
  said_taken =
      let flag : at after filled_at ≡ 1 = taken_named filled_at (omega arith) in
      let counted : at after (counts_at + slots * q + p) ≡ count = later cells (counts_at + slots * q + p) (omega arith) (omega (arith, slot_low)) ∙ count_at_cell in
      let some : is_counted (new_page.entries p) ≡ true = ap not (ne_eqb (at after (counts_at + slots * q + p)) 0 (λ e. omega (arith, e, counted))) in
      let all : filled (table_in after) ≡ true = any_here (λ k. is_counted (((table_in after).page (k % crew)).entries (k / crew))) 1024 r.key key some in
      subst (λ b. cond b (flag_in after filled_at) (not (flag_in after filled_at)) ≡ true) (sym all) (ap (λ v. not (eqb v 0)) flag)
