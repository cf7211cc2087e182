-- What drawers stand for is what the machine that runs reads of them, page by page.
use Rattle.std.proofs.Common.{◌≡◌, ℕ, zero, suc, ◌+◌, ◌*◌, ◌<◌, ◌≢◌, eqb, List, [], ◌∷◌, length, get_or, set, take, drop, Some, refl, sym, ap, ap₂, ◌∙◌}
use Rattle.std.proofs.lemmas.Bool.{eqb-true, and_parts}
use Rattle.std.proofs.lemmas.List.{get_or-take, get_or-drop}
use Rattle.sums.specs.Cells.{pages, slots}
use Rattle.sums.specs.Pages.{page_sums, page_counts, page_length}
use Rattle.store.specs.Drawers.{Drawers, drawer_at, with_drawer, first_set, second_set}
use Rattle.store.specs.Drawers as store
use Rattle.store.specs.Kept.{kept_of}
use Rattle.store.specs.declared.records.PageSet.{PageSet}
use Rattle.store.specs.declared.records.PageSet.TheVariants.{First, Second}
use Rattle.store.specs.declared.records.PageSet.TheVariants as page_set
use Rattle.store.proofs.Boots.{boot_law}
use Rattle.store.proofs.Numbered.{there}
use Rattle.machine.specs.Run.{nth_row, set_nth}
use Rattle.protocol.specs.Tables.{Page}
use Rattle.protocol_world.specs.Drawers.{page_drawer}
use Rattle.whole.specs.Seen.{page_seen, set_seen, as_root, as_cursor, root_seen, cursor_seen, own_views}
use Rattle.whole.specs.Stand.{kept_entry, ReadAs, DrawersStand}
use Rattle.whole.proofs.Bytes.{seen_page}

-- drawers by the definitions' own ways to look into a list
pub row_is : (ds : Drawers) (d : ℕ) → nth_row ds d ≡ drawer_at ds d
unfolding nth_row
row_is [] d = refl
row_is (x ∷ ds) zero = refl
row_is (x ∷ ds) (suc d) = row_is ds d

pub set_is : (ds : Drawers) (d : ℕ) (bs : List ℕ) → set_nth ds d bs ≡ set ds d bs
unfolding set_nth
set_is [] d bs = refl
set_is (x ∷ ds) zero bs = refl
set_is (x ∷ ds) (suc d) bs = ap (λ l. x ∷ l) (set_is ds d bs)

-- the drawer of a page of a set that has pages
pub drawer_seen : (s : PageSet) (p : ℕ) → (s ≢ page_set.None) → p < pages → store.page_drawer s p ≡ Some (page_drawer (set_seen s) p)
drawer_seen page_set.None p some lt = absurd (some refl)
drawer_seen First p some lt = there first_set p _ lt refl
drawer_seen Second p some lt = there second_set p _ lt refl

-- a number of a row of so many within a longer one
number_in : (w p s : ℕ) (xs ys : List ℕ) → take w (drop (w * p) xs) ≡ ys → s < w → get_or ys s 0 ≡ get_or xs (w * p + s) 0
number_in w p s xs ys e lt = ap (λ l. get_or l s 0) (sym e) ∙ get_or-take w (drop (w * p) xs) s 0 lt ∙ get_or-drop (w * p) xs s 0

module _ (ds : Drawers) where
  -- a page that the root record names
  page_stands : (p d : ℕ) (g : Page) → store.page_drawer (kept_of ds).root.set p ≡ Some d → page_seen (drawer_at ds d) ≡ Some g → (s : ℕ) → s < slots →
      g.entries s ≡ kept_entry (kept_of ds) p s
  page_stands p d g at seen s lt =
      let bs = drawer_at ds d in
      let read = seen_page bs g seen in
      let long : length bs ≡ page_length = eqb-true _ _ (and_parts (eqb (length bs) page_length) _ read.0).0 in
      let cut = boot_law.cuts ds p d at in
      let columns = boot_law.pages_only bs long in
      ap (λ q. q.entries s) (sym read.1)
      ∙ ap₂ (λ x y. record { sum = x; count = y }) (number_in slots p s (kept_of ds).sums (page_sums bs) (cut.0 ∙ columns.0) lt)
      (number_in slots p s (kept_of ds).counts (page_counts bs) (cut.1 ∙ columns.1) lt)

  pub read_as : ReadAs own_views ds (kept_of ds)
  read_as = record {
    root_read = ap root_seen (row_is ds store.root_drawer) ∙ ap as_root (sym (boot_law.root ds));
    cursor_read = ap cursor_seen (row_is ds store.cursor_drawer) ∙ ap as_cursor (sym (boot_law.cursor ds));
    page_read = λ p g some lt seen s ls.
        page_stands p (page_drawer (set_seen (kept_of ds).root.set) p) g (drawer_seen (kept_of ds).root.set p some lt)
        (sym (ap page_seen (row_is ds (page_drawer (set_seen (kept_of ds).root.set) p))) ∙ seen) s ls;
    no_pages = boot_law.blank ds;
    lengths = boot_law.lengths ds;
  }

pub drawers_stand : DrawersStand
unfolding DrawersStand
drawers_stand = (read_as, set_is)
