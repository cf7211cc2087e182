-- Drawers of the given world: one is set; and where pages lie.
use Rattle.std.proofs.Common.{◌≡◌, ℕ, zero, suc, ◌<◌, true, false, ◌&&◌, eqb, List, [], ◌∷◌, length, refl, ap, arith}
use Rattle.std.proofs.lemmas.Bool.{both_ways, eqb-false}
use Rattle.machine.specs.Run.{set_nth, nth_row}
use Rattle.protocol.specs.Limits.{kept_pages}
use Rattle.protocol.specs.Reader.{PageSet, no_set, first_set, second_set, same_set}
use Rattle.protocol_world.specs.Drawers.{page_drawer}

-- DRAWERS
pub row_same : (ss : List (List ℕ)) (s : ℕ) (bs : List ℕ) → s < length ss → nth_row (set_nth ss s bs) s ≡ bs
unfolding nth_row set_nth
row_same [] s bs lt = absurd (omega arith)
row_same (x ∷ ss) zero bs lt = refl
row_same (x ∷ ss) (suc s) bs lt = row_same ss s bs (omega arith)

pub row_other : (ss : List (List ℕ)) (s t : ℕ) (bs : List ℕ) → (t ≡ s → ⊥) → nth_row (set_nth ss s bs) t ≡ nth_row ss t
unfolding nth_row set_nth
row_other [] s t bs ne = refl
row_other (x ∷ ss) zero zero bs ne = absurd (ne refl)
row_other (x ∷ ss) zero (suc t) bs ne = refl
row_other (x ∷ ss) (suc s) zero bs ne = refl
row_other (x ∷ ss) (suc s) (suc t) bs ne = row_other ss s t bs (λ e. ne (ap suc e))

-- WHERE PAGES STAND
pub page_within : (s : PageSet) (q : ℕ) → q < kept_pages → page_drawer s q < 256
page_within no_set q lt = omega arith
page_within first_set q lt = omega arith
page_within second_set q lt = omega arith

pub page_past : {A : Type 0} (s : PageSet) (q : ℕ) → q < kept_pages → page_drawer s q < 8 → A
page_past no_set q lq lt = absurd (omega arith)
page_past first_set q lq lt = absurd (omega arith)
page_past second_set q lq lt = absurd (omega arith)

pub set_is : (s t : PageSet) → same_set s t ≡ true → s ≡ t
set_is no_set no_set e = refl
set_is no_set first_set e = absurd (both_ways _ refl e)
set_is no_set second_set e = absurd (both_ways _ refl e)
set_is first_set no_set e = absurd (both_ways _ refl e)
set_is first_set first_set e = refl
set_is first_set second_set e = absurd (both_ways _ refl e)
set_is second_set no_set e = absurd (both_ways _ refl e)
set_is second_set first_set e = absurd (both_ways _ refl e)
set_is second_set second_set e = refl

pub pages_apart : (t s : PageSet) (j q : ℕ) → (t ≡ no_set → ⊥) → (s ≡ no_set → ⊥) → j < kept_pages → q < kept_pages → same_set t s && eqb j q ≡ false →
    page_drawer t j ≡ page_drawer s q → ⊥
pages_apart no_set s j q a b lj lq e d = a refl
pages_apart first_set no_set j q a b lj lq e d = b refl
pages_apart first_set first_set j q a b lj lq e d = eqb-false j q e (omega arith)
pages_apart first_set second_set j q a b lj lq e d = absurd (omega arith)
pages_apart second_set no_set j q a b lj lq e d = b refl
pages_apart second_set first_set j q a b lj lq e d = absurd (omega arith)
pages_apart second_set second_set j q a b lj lq e d = eqb-false j q e (omega arith)
