-- The drawers' numbers, all different and below 256, and the sets' numbers.
use Rattle.std.proofs.Common.{◌≡◌, ℕ, ◌+◌, ◌<◌, ◌≤◌, ◌⊎◌, cond, ltb, Some, None, refl, inl, inr, arith, lit<}
use Rattle.std.proofs.lemmas.Bool.{cond-false, le-ltb}
use Rattle.std.proofs.lemmas.Bool.Decides.{nat_tests}
use Rattle.sums.specs.Cells.{pages}
use Rattle.store.specs.Drawers.{drawers, cursor_copy, first_set, second_set, page_drawer, DrawersLaw}
use Rattle.store.specs.Records.{set_number}
use Rattle.store.specs.declared.records.PageSet.{PageSet}
use Rattle.store.specs.declared.records.PageSet.TheVariants.{First, Second}
use Rattle.store.specs.declared.records.PageSet.TheVariants as page_set

-- a page of a set whose pages lie from a drawer on
pub lies_at : (from p d : ℕ) → cond (ltb p pages) (Some (from + p)) None ≡ Some d → (p < pages) × (d ≡ from + p)
lies_at from p d e = grind (arith, nat_tests)

pub there : (from p d : ℕ) → p < pages → from + p ≡ d → cond (ltb p pages) (Some (from + p)) None ≡ Some d
there from p d lt e = grind (arith, nat_tests)

pub page_has_drawer : (s : PageSet) (p : ℕ) → (s ≡ page_set.None → ⊥) → p < pages → (d : ℕ) × (page_drawer s p ≡ Some d)
page_has_drawer page_set.None p some lt = absurd (some refl)
page_has_drawer First p some lt = (first_set + p, there first_set p _ lt refl)
page_has_drawer Second p some lt = (second_set + p, there second_set p _ lt refl)

pub page_within : (s : PageSet) (p d : ℕ) → page_drawer s p ≡ Some d → p < pages
page_within page_set.None p d e = absurd cc
page_within First p d e = (lies_at first_set p d e).0
page_within Second p d e = (lies_at second_set p d e).0

pub no_page : (s : PageSet) (p : ℕ) → pages ≤ p → page_drawer s p ≡ None
no_page page_set.None p le = refl
no_page First p le = cond-false _ _ _ (le-ltb p pages le)
no_page Second p le = cond-false _ _ _ (le-ltb p pages le)

pub page_apart : (s : PageSet) (p d : ℕ) → page_drawer s p ≡ Some d → (cursor_copy < d) × (d < drawers)
page_apart page_set.None p d e = absurd cc
page_apart First p d e = let l = lies_at first_set p d e in (omega arith, omega arith)
page_apart Second p d e = let l = lies_at second_set p d e in (omega arith, omega arith)

pub pages_apart : (s t : PageSet) (p q d : ℕ) → page_drawer s p ≡ Some d → page_drawer t q ≡ Some d → (s ≡ t) × (p ≡ q)
pages_apart page_set.None t p q d e f = absurd cc
pages_apart First page_set.None p q d e f = absurd cc
pages_apart First First p q d e f = grind (arith, lies_at first_set p d e, lies_at first_set q d f)
pages_apart First Second p q d e f = grind (arith, lies_at first_set p d e, lies_at second_set q d f)
pages_apart Second page_set.None p q d e f = absurd cc
pages_apart Second First p q d e f = grind (arith, lies_at second_set p d e, lies_at first_set q d f)
pages_apart Second Second p q d e f = grind (arith, lies_at second_set p d e, lies_at second_set q d f)

pub none_or_some : (s : PageSet) → (s ≡ page_set.None) ⊎ (s ≡ page_set.None → ⊥)
none_or_some page_set.None = inl refl
none_or_some First = inr (λ e. let z : ◌≡◌ {A = ℕ} 0 1 = cc in omega arith)
none_or_some Second = inr (λ e. let z : ◌≡◌ {A = ℕ} 0 1 = cc in omega arith)

pub some_numbered : (s : PageSet) → (s ≡ page_set.None → ⊥) → set_number s ≡ 0 → ⊥
some_numbered page_set.None some e = some refl
some_numbered First some e = omega arith
some_numbered Second some e = omega arith

pub drawers_law : DrawersLaw
unfolding DrawersLaw
drawers_law = (lit< tt, lit< tt, lit< tt, page_has_drawer, page_apart, pages_apart)
