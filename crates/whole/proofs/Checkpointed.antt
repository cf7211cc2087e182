-- What the machine that runs reads of its drawers as a checkpoint, or the cursor, is kept in them.
use Rattle.std.proofs.Common.{◌≡◌, ℕ, zero, suc, ◌<◌, ◌≤◌, ◌≢◌, true, cond, List, [], length, replicate, Some, None, sym, ap, ap₂, ◌∙◌, subst, arith, length-set}
use Rattle.std.proofs.lemmas.Bool.{and_from, eq-eqb}
use Rattle.std.proofs.lemmas.List.{get_or-set_other}
use Rattle.sums.specs.Cells.{pages, slots}
use Rattle.sums.specs.Digits.{fits}
use Rattle.sums.specs.Pages.{sum_width, count_width, page_bytes, page_sums, page_counts}
use Rattle.sums.specs.Sums.{every}
use Rattle.sums.proofs.Columns.{length_page, sums_back, counts_back}
use Rattle.store.specs.Drawers.{Drawers, drawers, drawer_at, with_drawer, root_drawer, cursor_drawer}
use Rattle.store.specs.Kept.{Kept, kept, kept_of, page_cut}
use Rattle.store.specs.Laws.{TablesFit, AtomicLaw, EmptyLaw, PagesKept, cut_bytes, with_page, with_pages}
use Rattle.store.specs.Records.{shadow_of, RootFits, root_bytes, cursor_bytes}
use Rattle.store.specs.declared.records.PageSet.TheVariants as page_set
use Rattle.store.specs.declared.records.Root.{Root}
use Rattle.store.proofs.Checkpoints.{atomic, cursor_alone, empty, page_more, shadow_other, shadow_page}
use Rattle.store.proofs.Columns.{length_cut, cut_fits}
use Rattle.store.proofs.Numbered.{page_apart, page_has_drawer}
use Rattle.machine.specs.Boot.{page_fits}
use Rattle.machine.specs.Run.{nth_row, set_nth}
use Rattle.protocol_world.specs.Drawers.{page_drawer}
use Rattle.whole.specs.Seen.{page_of_rows, page_seen, set_seen, own_views}
use Rattle.whole.specs.Stand.{ReadAs, CheckpointRead, CheckpointsStand}
use Rattle.whole.proofs.Stands.{row_is, set_is, drawer_seen, read_as}

-- drawers that stand for this, with one of them kept
kept_read : (ds : Drawers) (d : ℕ) (bs : List ℕ) (k : Kept) → kept_of (with_drawer ds d bs) ≡ k → ReadAs own_views (set_nth ds d bs) k
kept_read ds d bs k e =
    subst (λ es. ReadAs own_views es k) (sym (set_is ds d bs)) (subst (ReadAs own_views (with_drawer ds d bs)) e (read_as (with_drawer ds d bs)))

-- columns that fit a page are read as they were kept
page_taken : (ss cs : List ℕ) → length ss ≡ slots → length cs ≡ slots → every (fits sum_width) ss ≡ true → every (fits count_width) cs ≡ true →
    page_seen (page_bytes ss cs) ≡ Some (page_of_rows ss cs)
page_taken ss cs ls lc fs fc =
    let bs = page_bytes ss cs in
    let a = sums_back ss cs ls fs in
    let b = counts_back ss cs ls lc fc in
    let fit : page_fits bs ≡ true =
    and_from _ _ (eq-eqb _ _ (length_page ss cs ls lc)) (and_from _ _ (ap (every (fits sum_width)) a ∙ fs) (ap (every (fits count_width)) b ∙ fc)) in
    ap (λ t. cond t (Some (page_of_rows (page_sums bs) (page_counts bs))) None) fit ∙ ap₂ (λ x y. Some (page_of_rows x y)) a b

module _ (ds : Drawers) (len : length ds ≡ drawers) (r : Root) (ss cs : List ℕ) (fit : TablesFit ss cs) (some : r.set ≢ page_set.None) where
  -- the pages of a checkpoint, one by one
  pages_put : (n : ℕ) → n ≤ pages → (length (with_pages ds r.set ss cs n) ≡ drawers) × PagesKept (with_pages ds r.set ss cs n) r.set ss cs n
  unfolding with_pages
  pages_put zero le = (len, λ p d lt at. absurd (omega arith))
  pages_put (suc n) le =
      let es = with_pages ds r.set ss cs n in
      let before = pages_put n (omega arith) in
      let drawer = page_has_drawer r.set n some (omega arith) in
      let bs = cut_bytes n ss cs in
      subst (λ fs. (length fs ≡ drawers) × PagesKept fs r.set ss cs (suc n)) (sym (ap (λ o. with_page es o bs) drawer.1)) (
        length-set es drawer.0 bs ∙ before.0,
        page_more es r.set ss cs n drawer.0 before.0 before.1 drawer.1,
      )

  abbrev saved : Drawers
  saved = with_pages ds r.set ss cs pages

  -- each is read once the root record is kept
  page_there : (p : ℕ) → p < pages →
      page_seen (nth_row (set_nth saved root_drawer (root_bytes r)) (page_drawer (set_seen r.set) p)) ≡ Some (page_of_rows (page_cut p ss) (page_cut p cs))
  page_there p lt =
      let d = page_drawer (set_seen r.set) p in
      let at = drawer_seen r.set p some lt in
      let apart = page_apart r.set p d at in
      ap page_seen
      (row_is (set_nth saved root_drawer (root_bytes r)) d
      ∙ ap (λ es. drawer_at es d) (set_is saved root_drawer (root_bytes r))
      ∙ get_or-set_other saved root_drawer d (root_bytes r) [] (λ e. omega (arith, apart.0, e))
      ∙ (pages_put pages (omega arith)).1 p d lt at)
      ∙ page_taken (page_cut p ss) (page_cut p cs) (length_cut p ss fit.sums_length lt) (length_cut p cs fit.counts_length lt)
      (cut_fits p ss fit.sums_length lt sum_width fit.sums) (cut_fits p cs fit.counts_length lt count_width fit.counts)

checkpoint_read : (ds : Drawers) (r : Root) (ss cs : List ℕ) → length ds ≡ drawers → RootFits r → TablesFit ss cs → r.set ≡ shadow_of (kept_of ds).root.set →
    CheckpointRead ds r ss cs
unfolding AtomicLaw
checkpoint_read ds r ss cs len fits fit shadow =
    let whole = atomic ds r ss cs len fits fit shadow in
    let some : r.set ≢ page_set.None = λ e. (shadow_other (kept_of ds).root.set).0 (sym shadow ∙ e) in
    record {
      before = λ n le. subst (ReadAs own_views (with_pages ds r.set ss cs n)) (whole.0 n le) (read_as (with_pages ds r.set ss cs n));
      committed = kept_read (with_pages ds r.set ss cs pages) root_drawer (root_bytes r) (kept r ss cs (kept_of ds).cursor) whole.1;
      taken = page_there ds len r ss cs fit some;
    }

pub checkpoints_stand : CheckpointsStand
unfolding CheckpointsStand EmptyLaw
checkpoints_stand = (
  λ ds s p d bs at other. kept_read ds d bs (kept_of ds) (shadow_page ds s p d bs at other),
  checkpoint_read,
  λ ds c len fits. kept_read ds cursor_drawer (cursor_bytes c) (kept (kept_of ds).root (kept_of ds).sums (kept_of ds).counts c) (cursor_alone ds len c fits),
  subst (ReadAs own_views (replicate drawers [])) empty (read_as (replicate drawers [])),
)
