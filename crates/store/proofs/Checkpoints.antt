-- What the drawers stand for as a checkpoint, the cursor or a blank root is kept.
use Rattle.std.proofs.Common.{◌≡◌, ℕ, zero, suc, ◌<◌, ◌≤◌, List, [], length, replicate, Some, sym, refl, ap, ◌∙◌, subst, arith, length-set}
use Rattle.std.proofs.lemmas.List.{get_or-set_same, get_or-set_other}
use Rattle.std.proofs.lemmas.Grind.{common_steps}
use Rattle.sums.specs.Cells.{pages, slots}
use Rattle.sums.specs.Pages.{sum_width, count_width}
use Rattle.sums.specs.Tables.{zero_table}
use Rattle.store.specs.Drawers.{Drawers, drawers, drawer_at, with_drawer, root_drawer, cursor_drawer, page_drawer}
use Rattle.store.specs.Kept.{kept, kept_of, sums_in, counts_in, table_in, page_cut}
use Rattle.store.specs.Laws.{TablesFit, ShadowLaw, cut_bytes, PagesKept, CommitLaw, with_page, with_pages, AtomicLaw, CursorLaw, BlankLaw, EmptyLaw, CheckpointLaws}
use Rattle.store.specs.Records.{shadow_of, RootFits, CursorFits, zero_root, root_bytes, root_of, zero_cursor, cursor_bytes, cursor_of}
use Rattle.store.specs.declared.records.Cursor.{Cursor}
use Rattle.store.specs.declared.records.PageSet.{PageSet}
use Rattle.store.specs.declared.records.PageSet.TheVariants.{First, Second}
use Rattle.store.specs.declared.records.PageSet.TheVariants as page_set
use Rattle.store.specs.declared.records.Root.{Root}
use Rattle.store.proofs.Columns.{sums_in_back, counts_in_back, length_cut, cut_fits}
use Rattle.store.proofs.Numbered.{page_has_drawer, page_within, page_apart, pages_apart}
use Rattle.store.proofs.PageRows.{table_same, table_is}
use Rattle.store.proofs.RoundTrips.{root_back, cursor_back}

-- what drawers stand for, by the parts
pub kept_is : (ds : Drawers) (r : Root) (ss cs : List ℕ) (c : Cursor) → root_of (drawer_at ds root_drawer) ≡ r → table_in sums_in ds r.set ≡ ss →
    table_in counts_in ds r.set ≡ cs → cursor_of (drawer_at ds cursor_drawer) ≡ c → kept_of ds ≡ kept r ss cs c
unfolding kept_of
kept_is ds r ss cs c er es ec eu = simp (er, es, ec, eu)

-- a drawer that is not the root's, the cursor's or a page's of the root's set
pub kept_elsewhere : (ds : Drawers) (d : ℕ) (bs : List ℕ) → (d ≡ root_drawer → ⊥) → (d ≡ cursor_drawer → ⊥) →
    ((p e : ℕ) → page_drawer (kept_of ds).root.set p ≡ Some e → e ≡ d → ⊥) → kept_of (with_drawer ds d bs) ≡ kept_of ds
unfolding kept_of
kept_elsewhere ds d bs root cursor page =
    let s = (kept_of ds).root.set in
    let es = with_drawer ds d bs in
    let same : (p e : ℕ) → page_drawer s p ≡ Some e → drawer_at es e ≡ drawer_at ds e = λ p e at. get_or-set_other ds d e bs [] (page p e at) in
    kept_is es (kept_of ds).root (kept_of ds).sums (kept_of ds).counts (kept_of ds).cursor
    (ap root_of (get_or-set_other ds d root_drawer bs [] (λ e. root (sym e))))
    (table_same sums_in es ds s same) (table_same counts_in es ds s same)
    (ap cursor_of (get_or-set_other ds d cursor_drawer bs [] (λ e. cursor (sym e))))

pub shadow_page : (ds : Drawers) (s : PageSet) (p d : ℕ) (bs : List ℕ) → page_drawer s p ≡ Some d → (s ≡ (kept_of ds).root.set → ⊥) →
    kept_of (with_drawer ds d bs) ≡ kept_of ds
shadow_page ds s p d bs at other =
    let a = page_apart s p d at in
    kept_elsewhere ds d bs (λ e. omega arith) (λ e. omega arith)
    (λ q e there same. other (pages_apart s (kept_of ds).root.set p q d at (there ∙ ap Some same)).0)

pub shadow_other : (s : PageSet) → (shadow_of s ≡ page_set.None → ⊥) × (shadow_of s ≡ s → ⊥)
shadow_other page_set.None = (λ e. cc, λ e. cc)
shadow_other First = (λ e. cc, λ e. cc)
shadow_other Second = (λ e. cc, λ e. cc)

-- one page more of a set
pub page_more : (ds : Drawers) (s : PageSet) (ss cs : List ℕ) (n d : ℕ) → length ds ≡ drawers → PagesKept ds s ss cs n → page_drawer s n ≡ Some d →
    PagesKept (with_drawer ds d (cut_bytes n ss cs)) s ss cs (suc n)
page_more ds s ss cs n d len before here p e lt at =
    let within : d < length ds = omega (arith, page_apart s n d here) in
    grind (arith, common_steps, before p e, pages_apart s s p n d)

module _ (ds : Drawers) (len : length ds ≡ drawers) where
  -- what is read of the root's drawer and of the others, once a root is kept
  module _ (r : Root) (fits : RootFits r) where
    rooted : Drawers
    rooted = with_drawer ds root_drawer (root_bytes r)

    root_there : root_of (drawer_at rooted root_drawer) ≡ r
    unfolding rooted
    root_there = ap root_of (get_or-set_same ds root_drawer (root_bytes r) [] (omega arith)) ∙ root_back r fits

    cursor_stays : cursor_of (drawer_at rooted cursor_drawer) ≡ (kept_of ds).cursor
    unfolding rooted kept_of
    cursor_stays = ap cursor_of (get_or-set_other ds root_drawer cursor_drawer (root_bytes r) [] (λ e. omega arith))

    pub commit : (ss cs : List ℕ) → TablesFit ss cs → (r.set ≡ page_set.None → ⊥) → PagesKept ds r.set ss cs pages →
        kept_of (with_drawer ds root_drawer (root_bytes r)) ≡ kept r ss cs (kept_of ds).cursor
    unfolding rooted
    commit ss cs fit some all =
        kept_is rooted r ss cs (kept_of ds).cursor root_there
        (table_is sums_in rooted r.set ss some fit.sums_length
        (λ p d at.
        ap sums_in (page p d at)
        ∙ sums_in_back (page_cut p ss) (page_cut p cs) (ls p d at) (lc p d at)
        (cut_fits p ss fit.sums_length (page_within r.set p d at) sum_width fit.sums)))
        (table_is counts_in rooted r.set cs some fit.counts_length
        (λ p d at.
        ap counts_in (page p d at)
        ∙ counts_in_back (page_cut p ss) (page_cut p cs) (ls p d at) (lc p d at)
        (cut_fits p cs fit.counts_length (page_within r.set p d at) count_width fit.counts)))
        cursor_stays
      where
        ls : (p d : ℕ) → page_drawer r.set p ≡ Some d → length (page_cut p ss) ≡ slots
        ls p d at = length_cut p ss fit.sums_length (page_within r.set p d at)

        lc : (p d : ℕ) → page_drawer r.set p ≡ Some d → length (page_cut p cs) ≡ slots
        lc p d at = length_cut p cs fit.counts_length (page_within r.set p d at)

        page : (p d : ℕ) → page_drawer r.set p ≡ Some d → drawer_at rooted d ≡ cut_bytes p ss cs
        page p d at =
            get_or-set_other ds root_drawer d (root_bytes r) [] (λ e. omega (arith, page_apart r.set p d at))
            ∙ all p d (page_within r.set p d at) at

    pub blank : r.set ≡ page_set.None → kept_of (with_drawer ds root_drawer (root_bytes r)) ≡ kept r zero_table zero_table (kept_of ds).cursor
    unfolding rooted table_in
    blank none =
        kept_is rooted r zero_table zero_table (kept_of ds).cursor root_there (ap (table_in sums_in rooted) none) (ap (table_in counts_in rooted) none) cursor_stays

  pub cursor_alone : (c : Cursor) → CursorFits c →
      kept_of (with_drawer ds cursor_drawer (cursor_bytes c)) ≡ kept (kept_of ds).root (kept_of ds).sums (kept_of ds).counts c
  unfolding kept_of
  cursor_alone c fits =
      let s = (kept_of ds).root.set in
      let es = with_drawer ds cursor_drawer (cursor_bytes c) in
      let same : (p e : ℕ) → page_drawer s p ≡ Some e → drawer_at es e ≡ drawer_at ds e =
      λ p e at. get_or-set_other ds cursor_drawer e (cursor_bytes c) [] (λ f. omega (arith, page_apart s p e at)) in
      kept_is es (kept_of ds).root (kept_of ds).sums (kept_of ds).counts c
      (ap root_of (get_or-set_other ds cursor_drawer root_drawer (cursor_bytes c) [] (λ e. omega arith)))
      (table_same sums_in es ds s same) (table_same counts_in es ds s same)
      (ap cursor_of (get_or-set_same ds cursor_drawer (cursor_bytes c) [] (omega arith)) ∙ cursor_back c fits)

  module _ (s : PageSet) (ss cs : List ℕ) (some : s ≡ page_set.None → ⊥) (other : s ≡ (kept_of ds).root.set → ⊥) where
    -- the pages of a checkpoint, one by one
    pages_put : (n : ℕ) → n ≤ pages →
        (length (with_pages ds s ss cs n) ≡ drawers) × PagesKept (with_pages ds s ss cs n) s ss cs n × (kept_of (with_pages ds s ss cs n) ≡ kept_of ds)
    unfolding with_pages
    pages_put zero le = (len, λ p d lt at. absurd (omega arith), refl)
    pages_put (suc n) le =
        let es = with_pages ds s ss cs n in
        let before = pages_put n (omega arith) in
        let drawer = page_has_drawer s n some (omega arith) in
        let d = drawer.0 in
        let bs = cut_bytes n ss cs in
        subst (λ fs. (length fs ≡ drawers) × PagesKept fs s ss cs (suc n) × (kept_of fs ≡ kept_of ds)) (sym (ap (λ o. with_page es o bs) drawer.1)) (
          length-set es d bs ∙ before.0,
          page_more es s ss cs n d before.0 before.1 drawer.1,
          shadow_page es s n d bs drawer.1 (λ e. other (e ∙ ap (λ k. k.root.set) before.2)) ∙ before.2,
        )

pub atomic : AtomicLaw
unfolding AtomicLaw
atomic ds r ss cs len fits fit shadow =
    let at-hand = (kept_of ds).root.set in
    let some : r.set ≡ page_set.None → ⊥ = λ e. (shadow_other at-hand).0 (sym shadow ∙ e) in
    let other : r.set ≡ at-hand → ⊥ = λ e. (shadow_other at-hand).1 (sym shadow ∙ e) in
    let put = pages_put ds len r.set ss cs some other in
    let last = put pages (omega arith) in (
      λ n le. (put n le).2,
      commit (with_pages ds r.set ss cs pages) last.0 r fits ss cs fit some last.1 ∙ ap (λ k. kept r ss cs k.cursor) last.2,
    )

pub empty : EmptyLaw
unfolding EmptyLaw root_of cursor_of table_in
empty = kept_is (replicate drawers []) zero_root zero_table zero_table zero_cursor refl refl refl refl

pub checkpoint_laws : CheckpointLaws
unfolding ShadowLaw CommitLaw CursorLaw BlankLaw
checkpoint_laws =
    record {
      shadow = (shadow_other, shadow_page);
      commit = (λ ds s ss cs p d lt at. absurd (omega arith), page_more, λ ds r ss cs len fits fit some all. commit ds len r fits ss cs fit some all);
      atomic = atomic;
      cursor = λ ds c len fits. cursor_alone ds len c fits;
      blank = λ ds r len fits none. blank ds len r fits none;
      empty = empty;
    }
