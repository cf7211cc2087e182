-- Pages that come one after the other make the tables in memory those that the drawers stand for.
use Rattle.std.proofs.Common.{◌≡◌, ℕ, suc, ◌+◌, ◌*◌, ◌<◌, ◌≤◌, true, cond, ltb, eqb, List, [], ◌∷◌, ◌++◌, length, take, drop, replicate, Some, None, Option, refl, sym, ap, ◌∙◌, subst, arith, add-one, ◌≢◌, ◌&&◌}
use Rattle.std.proofs.lemmas.Bool.{and_from, and_parts, eqb-true, lt-ltb}
use Rattle.std.proofs.lemmas.List.{length-set, take-append-drop, take_at, drop_at, length-take-le, ext_get_or, length-drop, length-replicate}
use Rattle.sums.specs.Cells.{pages, slots, places}
use Rattle.sums.specs.Pages.{page_sums, page_counts, page_length}
use Rattle.sums.specs.Written.{written}
use Rattle.sums.proofs.Columns.{length_sums, length_counts}
use Rattle.sums.proofs.Overwrites.{length_written, written_left, written_right}
use Rattle.sums.specs.Tables.{zero_table}
use Rattle.store.specs.Drawers.{Drawers, drawer_at, page_drawer, root_drawer}
use Rattle.store.specs.Kept.{kept_of}
use Rattle.store.specs.Laws.{ReadBack}
use Rattle.store.specs.declared.records.PageSet.{PageSet}
use Rattle.store.specs.declared.records.PageSet.TheVariants.{First, Second}
use Rattle.store.specs.declared.records.PageSet.TheVariants as page_set
use Rattle.store.specs.declared.records.Root.{Root}
use Rattle.store.specs.Records.{set_number, root_of}
use Rattle.store.proofs.Boots.{boot_law}
use Rattle.store.proofs.Numbered.{page_within, page_has_drawer}
use Rattle.gauge.specs.Deeds.{rests, does}
use Rattle.gauge.specs.Gauge.{set_named, sums_in, counts_in, tables_cleared}
use Rattle.gauge.specs.Memory.{at, cells, limit, row_in, index_at, stage_at, hour_at, pos_at, set_at, paused_at, kept_at, sums_at, counts_at}
use Rattle.machine.specs.Boot.{page_asked_in, page_asked, page_fits, page_read, page_recalled, root_read, root_recalled}
use Rattle.machine.specs.Run.{nth_row}
use Rattle.whole.specs.Stand.{TablesRead, AllRead, BootStands}
use Rattle.whole.proofs.Bytes.{at_row, length_row}
use Rattle.whole.proofs.Cells.{here, behind, written_before, written_in, written_behind, sets, found, all_in, length_sets, not_set}
use Rattle.whole.proofs.Boots.{zero_at}
use Rattle.whole.proofs.Heads.{cell}
use Rattle.whole.proofs.Parts.{Kept}
use Rattle.whole.proofs.Stands.{row_is}

-- ROWS of k cells, from a on
row_kept : (m n : List ℕ) (a k : ℕ) → a + k ≤ length m → a + k ≤ length n → Kept a (a + k) m n → row_in n a k ≡ row_in m a k
row_kept m n a k lm ln kept =
    ext_get_or 0 (row_in n a k) (row_in m a k) (length_row n a k ln ∙ sym (length_row m a k lm))
    (λ i lt.
    let l : i < k = omega (arith, lt, length_row n a k ln) in
    at_row n a k i l ∙ kept (a + i) (omega arith) (omega arith) ∙ sym (at_row m a k i l))

-- numbers are written over a part of it
row_over : (m ys : List ℕ) (a k x : ℕ) → a + k ≤ length m → x + length ys ≤ k → row_in (written m (a + x) ys) a k ≡ written (row_in m a k) x ys
unfolding row_in
row_over m ys a k x le fits =
    let zs = drop a m in
    let front : length (take a m) ≡ a = length-take-le a m (omega arith) in
    let long : length (take k zs) ≡ k = length-take-le k zs (omega (arith, length-drop a m)) in
    let behind : written m (a + x) ys ≡ take a m ++ written zs x ys =
    ap (λ l. written l (a + x) ys) (sym (take-append-drop a m)) ∙ written_right (take a m) zs (a + x) x ys (omega (arith, front)) in
    let within : written zs x ys ≡ written (take k zs) x ys ++ drop k zs =
    ap (λ l. written l x ys) (sym (take-append-drop k zs)) ∙ written_left (take k zs) (drop k zs) x ys (omega (arith, long)) in
    ap (λ l. take k (drop a l)) behind
    ∙ ap (take k) (drop_at (take a m) (written zs x ys) a front ∙ within)
    ∙ take_at (written (take k zs) x ys) (drop k zs) k (length_written (take k zs) x ys (omega (arith, long)) ∙ long)

-- A PAGE is read into its part of the tables
module _ (m : List ℕ) (len : length m ≡ cells) (p : ℕ) (lt : p < pages) (bs : List ℕ) where
  first_long : length (written m (sums_at + slots * p) (page_sums bs)) ≡ cells
  first_long = length_written m (sums_at + slots * p) (page_sums bs) (omega (arith, len, length_sums bs)) ∙ len

  second_fits : counts_at + slots * p + length (page_counts bs) ≤ length (written m (sums_at + slots * p) (page_sums bs))
  second_fits = omega (arith, first_long, length_counts bs)

  read_long : length (page_read m p bs) ≡ cells
  read_long = length_written (written m (sums_at + slots * p) (page_sums bs)) (counts_at + slots * p) (page_counts bs) second_fits ∙ first_long

  -- cells before the tables
  read_before : (c : ℕ) → c < sums_at → at (page_read m p bs) c ≡ at m c
  read_before c lc =
      written_before (written m (sums_at + slots * p) (page_sums bs)) (page_counts bs) (counts_at + slots * p) second_fits c (omega arith)
      ∙ written_before m (page_sums bs) (sums_at + slots * p) (omega (arith, len, length_sums bs)) c (omega arith)

  read_sums : sums_in (page_read m p bs) ≡ written (sums_in m) (slots * p) (page_sums bs)
  read_sums =
      row_kept (written m (sums_at + slots * p) (page_sums bs)) (page_read m p bs) sums_at places (omega (arith, first_long)) (omega (arith, read_long))
      (λ c le l. written_before (written m (sums_at + slots * p) (page_sums bs)) (page_counts bs) (counts_at + slots * p) second_fits c (omega arith))
      ∙ row_over m (page_sums bs) sums_at places (slots * p) (omega (arith, len)) (omega (arith, length_sums bs))

  read_counts : counts_in (page_read m p bs) ≡ written (counts_in m) (slots * p) (page_counts bs)
  read_counts =
      row_over (written m (sums_at + slots * p) (page_sums bs)) (page_counts bs) counts_at places (slots * p) (omega (arith, first_long)) (omega (arith, length_counts bs))
      ∙ ap (λ l. written l (slots * p) (page_counts bs))
      (row_kept m (written m (sums_at + slots * p) (page_sums bs)) counts_at places (omega (arith, len)) (omega (arith, first_long))
      (λ c le l. written_behind m (page_sums bs) (sums_at + slots * p) (omega (arith, len, length_sums bs)) c (omega (arith, length_sums bs))))

-- WHAT IS ASKED FOR NEXT changes two cells before the tables
asked_long : (m : List ℕ) (q : ℕ) (o : Option ℕ) → length (page_asked_in m q o).memory ≡ length m
asked_long m q (Some d) = length-set _ index_at q ∙ length-set m 0 2
asked_long m q None = length-set m 0 3

asked_behind : (m : List ℕ) (q : ℕ) (o : Option ℕ) (c : ℕ) → index_at < c → at (page_asked_in m q o).memory c ≡ at m c
asked_behind m q (Some d) c lt = behind _ index_at q c lt ∙ behind m 0 2 c (omega arith)
asked_behind m q None c lt = behind m 0 3 c (omega arith)

asked_index : (m : List ℕ) (q : ℕ) (o : Option ℕ) (d : ℕ) → o ≡ Some d → index_at < length m → at (page_asked_in m q o).memory index_at ≡ q
asked_index m q (Some e) d is lt = here _ index_at q (omega (arith, length-set m 0 2))
asked_index m q None d is lt = absurd cc

read_back : (ds : Drawers) (n : ℕ) (ss ts cs us : List ℕ) → ss ≡ ts → cs ≡ us → ReadBack ds n ss cs → ReadBack ds n ts us
read_back ds n ss ts cs us e f r = subst (λ l. ReadBack ds n l us) e (subst (ReadBack ds n ss) f r)

-- a page has come
one_more : (ds : Drawers) (n d : ℕ) (m : List ℕ) → TablesRead ds n m → page_drawer (kept_of ds).root.set n ≡ Some d → page_fits (drawer_at ds d) ≡ true →
    TablesRead ds (suc n) (page_recalled m (drawer_at ds d)).memory
one_more ds n d m was there fit =
    let bs = drawer_at ds d in
    let s = (kept_of ds).root.set in
    let lt = page_within s n d there in
    let some : s ≢ page_set.None = λ e. absurd (let none : ◌≡◌ {A = Option ℕ} None (Some d) = sym (ap (λ t. page_drawer t n) e) ∙ there in cc) in
    let k = page_read m n bs in
    let o = page_drawer s (suc n) in
    let after = (page_asked_in k (suc n) o).memory in
    let long : length k ≡ cells = read_long m was.long n lt bs in
    let long_after : length after ≡ cells = asked_long k (suc n) o ∙ long in
    let columns = boot_law.pages_only bs (eqb-true _ _ (and_parts (eqb (length bs) page_length) _ fit).0) in
    let kept : (a : ℕ) → index_at < a → a + places ≤ cells → row_in after a places ≡ row_in k a places =
    λ a la fits. row_kept k after a places (omega (arith, long)) (omega (arith, long_after)) (λ c le l. asked_behind k (suc n) o c (omega arith)) in
    let is : (page_recalled m bs).memory ≡ after =
    ap (λ i. (cond (ltb i pages && page_fits bs) (page_asked (page_read m i bs) (set_named (at m set_at)) (i + 1)) (does m rests)).memory) (was.asked lt)
    ∙ ap (λ t. (cond t (page_asked k (set_named (at m set_at)) (n + 1)) (does m rests)).memory) (and_from _ _ (lt-ltb n pages lt) fit)
    ∙ ap (λ t. (page_asked k t (n + 1)).memory) was.named
    ∙ ap (λ q. (page_asked k s q).memory) (add-one n) in
    subst (TablesRead ds (suc n)) (sym is)
    (record {
      long = long_after;
      named = ap set_named (asked_behind k (suc n) o set_at (omega arith) ∙ read_before m was.long n lt bs set_at (omega arith)) ∙ was.named;
      asked = λ more. let next = page_has_drawer s (suc n) some more in asked_index k (suc n) o next.0 next.1 (omega (arith, long));
      back =
          read_back ds (suc n) _ (sums_in after) _ (counts_in after)
          (sym (kept sums_at (omega arith) (omega arith) ∙ read_sums m was.long n lt bs ∙ ap (written (sums_in m) (slots * n)) (sym columns.0)))
          (sym (kept counts_at (omega arith) (omega arith) ∙ read_counts m was.long n lt bs ∙ ap (written (counts_in m) (slots * n)) (sym columns.1)))
          (boot_law.one_more ds n d (sums_in m) (counts_in m) there was.back);
    })

-- THE ROOT RECORD has come: the tables are cleared, and the set is the one that it names
named_back : (s : PageSet) → set_named (set_number s) ≡ s
named_back page_set.None = refl
named_back First = refl
named_back Second = refl

module _ (m : List ℕ) (len : length m ≡ cells) (r : Root) where
  abbrev over : List (ℕ × ℕ)
  over = (kept_at, r.pos) ∷ (paused_at, 0) ∷ (set_at, set_number r.set) ∷ (pos_at, r.pos) ∷ (hour_at, r.hour) ∷ (stage_at, 0) ∷ []

  abbrev zeros : List ℕ
  zeros = replicate (2 * places) 0

  cleared_fits : sums_at + length zeros ≤ length m
  cleared_fits = omega (arith, len, length-replicate {A = ℕ} (2 * places) 0)

  cleared_long : length (tables_cleared m) ≡ cells
  cleared_long = length_written m sums_at zeros cleared_fits ∙ len

  root_long : length (root_read m r) ≡ cells
  unfolding sets
  root_long = length_sets over (tables_cleared m) ∙ cleared_long

  root_named : at (root_read m r) set_at ≡ set_number r.set
  unfolding sets found all_in
  root_named = cell over (tables_cleared m) cleared_long refl set_at

  -- a row of the tables is all zeros
  root_row : (a x : ℕ) → a ≡ sums_at + x → x + places ≤ 2 * places → row_in (root_read m r) a places ≡ replicate places 0
  unfolding sets all_in
  root_row a x e fits =
      ext_get_or 0 (row_in (root_read m r) a places) (replicate places 0) (long ∙ sym (length-replicate {A = ℕ} places 0))
      (λ i lt.
      let l : i < places = omega (arith, lt, long) in
      let place : a + i ≡ sums_at + (x + i) = omega (arith, e) in
      at_row (root_read m r) a places i l
      ∙ not_set over (tables_cleared m) sums_at cells (a + i) refl (omega (arith, e)) (omega (arith, e))
      ∙ ap (at (tables_cleared m)) place
      ∙ written_in m zeros sums_at cleared_fits (x + i) (omega (arith, length-replicate {A = ℕ} (2 * places) 0))
      ∙ zero_at (2 * places) (x + i) ∙ sym (zero_at places i))
    where
      long : length (row_in (root_read m r) a places) ≡ places
      long = length_row (root_read m r) a places (omega (arith, root_long, e))

-- the root record of drawers
module _ (ds : Drawers) (m : List ℕ) (len : length m ≡ cells) (lh : (kept_of ds).root.hour < limit) (lp : (kept_of ds).root.pos < limit) where
  abbrev r : Root
  r = (kept_of ds).root

  abbrev after : List ℕ
  after = (page_asked_in (root_read m r) 0 (page_drawer r.set 0)).memory

  came : (root_recalled m (nth_row ds root_drawer)).memory ≡ after
  came =
      ap (λ q. (cond (ltb q.hour limit && ltb q.pos limit) (page_asked (root_read m q) q.set 0) (does m rests)).memory)
      (ap root_of (row_is ds root_drawer) ∙ sym (boot_law.root ds))
      ∙ ap (λ t. (cond t (page_asked (root_read m r) r.set 0) (does m rests)).memory) (and_from _ _ (lt-ltb _ _ lh) (lt-ltb _ _ lp))

  after_long : length after ≡ cells
  after_long = asked_long (root_read m r) 0 (page_drawer r.set 0) ∙ root_long m len r

  after_row : (a : ℕ) → index_at < a → a + places ≤ cells → row_in after a places ≡ row_in (root_read m r) a places
  after_row a la fits =
      row_kept (root_read m r) after a places (omega (arith, root_long m len r)) (omega (arith, after_long))
      (λ c le l. asked_behind (root_read m r) 0 (page_drawer r.set 0) c (omega arith))

  root_first : (r.set ≢ page_set.None) → TablesRead ds 0 (root_recalled m (nth_row ds root_drawer)).memory
  root_first some =
      let first = page_has_drawer r.set 0 some (omega arith) in
      subst (TablesRead ds 0) (sym came)
      (record {
        long = after_long;
        named = ap set_named (asked_behind (root_read m r) 0 (page_drawer r.set 0) set_at (omega arith) ∙ root_named m len r) ∙ named_back r.set;
        asked = λ _. asked_index (root_read m r) 0 (page_drawer r.set 0) first.0 first.1 (omega (arith, root_long m len r));
        back =
            boot_law.begun ds (sums_in after) (counts_in after) (length_row after sums_at places (omega (arith, after_long)))
            (length_row after counts_at places (omega (arith, after_long)));
      })

  root_blank : r.set ≡ page_set.None → AllRead ds (root_recalled m (nth_row ds root_drawer)).memory
  unfolding zero_table
  root_blank none =
      let zeros = boot_law.blank ds none in
      subst (AllRead ds) (sym came) (
        after_row sums_at (omega arith) (omega arith) ∙ root_row m len r sums_at 0 (omega arith) (omega arith) ∙ sym zeros.0,
        after_row counts_at (omega arith) (omega arith) ∙ root_row m len r counts_at places (omega arith) (omega arith) ∙ sym zeros.1,
      )

pub boot_stands : BootStands
unfolding BootStands
boot_stands = (
  λ ds m len lh lp. (root_first ds m len lh lp, root_blank ds m len lh lp),
  λ ds n d m was there fit.
      subst (λ bs. TablesRead ds (suc n) (page_recalled m bs).memory) (sym (row_is ds d))
      (one_more ds n d m was there (ap page_fits (sym (row_is ds d)) ∙ fit)),
  λ ds m was. boot_law.done ds (sums_in m) (counts_in m) was.back,
)
