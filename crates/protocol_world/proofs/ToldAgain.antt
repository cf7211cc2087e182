-- Rows are told again at most as often as machines are struck: this follows from the bound of each row.
use Rattle.std.proofs.Common.{◌≡◌, ℕ, zero, suc, ◌+◌, ◌<◌, ◌≤◌, eqb, ltb, List, [], ◌∷◌, ◌++◌, length, Some, None, Option, sym, refl, ap, subst, ◌∙◌, ⊎_elim, arith}
use Rattle.std.proofs.lemmas.Bool.{cases_lt, eq-eqb, ne_eqb, ltb-true}
use Rattle.sums.specs.Again.{told_again}
use Rattle.sums.specs.Sums.{pick, Gauges}
use Rattle.sums.proofs.Picks.{pick_both}
use Rattle.machine.specs.Log.{strokes_of, Mark, struck, struck_telling}
use Rattle.machine.specs.Run as given
use Rattle.protocol.specs.Limits.{crew}
use Rattle.protocol.specs.Phases.{Phase, Event}
use Rattle.protocol.specs.Searches.{sum_below}
use Rattle.protocol.proofs.Sums.{sum_but, sum_same}
use Rattle.protocol_world.specs.Log.{log_next, goes_log, happened_log, all_log}
use Rattle.protocol_world.specs.Runs.{happened, all_happened, calm}
use Rattle.protocol_world.specs.Wall.{sums_told}
use Rattle.protocol_world.specs.Worlds.{World, one_step, new_world}
use Rattle.protocol_world.proofs.Charged.{last_row, last_other, charged, charged_struck, told_again_few}
use Rattle.protocol_world.proofs.OnceRuns.{few_told}
use Rattle.protocol_world.proofs.Safety.{Known}
use Rattle.protocol_world.proofs.Wall.{sums_times}

-- HOW OFTEN MACHINES FALL
abbrev pub strokes : List given.Item → ℕ
strokes is = sum_below (λ m. strokes_of m is) crew

strokes_falls : (i : ℕ) → i < crew → (is : List given.Item) → strokes (given.falls i ∷ is) ≡ suc (strokes is)
unfolding strokes_of
strokes_falls i lt is =
    let here : pick (eqb i i) 1 0 + strokes_of i is ≡ suc (strokes_of i is) = ap (λ b. pick b 1 0 + strokes_of i is) (eq-eqb i i refl) ∙ omega arith in
    omega (
      arith,
      here,
      sum_but (λ m. strokes_of m is) (λ m. pick (eqb i m) 1 0 + strokes_of m is) i crew lt
          (λ j _ ne. ap (λ b. pick b 1 0 + strokes_of j is) (ne_eqb i j (λ q. ne (sym q))) ∙ omega arith),
    )

strokes_past : (i : ℕ) → crew ≤ i → (is : List given.Item) → strokes (given.falls i ∷ is) ≡ strokes is
unfolding strokes_of
strokes_past i le is = sum_same (λ m. strokes_of m is) (λ m. pick (eqb i m) 1 0 + strokes_of m is) crew
    (λ m lt. ap (λ b. pick b 1 0 + strokes_of m is) (ne_eqb i m (λ q. absurd (omega arith))) ∙ omega arith)

module _ (gs : Gauges) where
  -- a log of the crew with n strikes that tell a row
  record Counts (n : ℕ) (log : List Mark) : Type 0 where
    few : length (charged log) ≤ n
    past : (i : ℕ) → crew ≤ i → last_row i log ≡ []

  step_counts : (n : ℕ) (log : List Mark) (v : World) → Counts n log → (i : ℕ) → i < crew → (p : Phase) (ho : Option Event) → Counts n (log_next v i p ho log)
  unfolding charged
  step_counts n log v k i lt p None = k
  step_counts n log v k i lt p (Some ev) = record { few = k.few; past = λ j le. last_other i j _ log (λ q. absurd (omega (arith, q))) ∙ k.past j le }

  goes_counts : (m n : ℕ) (log : List Mark) (v : World) → Counts n log → (i : ℕ) → i < crew → Counts n (goes_log m gs v i log)
  unfolding goes_log
  goes_counts zero n log v k i lt = k
  goes_counts (suc m) n log v k i lt = pick_both v.fault log _ (Counts n) (λ _. k)
      (λ _. goes_counts m n _ (one_step gs v i) (step_counts n log v k i lt (v.node i).phase (v.node i).pending) i lt)

  fall_past : (log : List Mark) (i : ℕ) → ((j : ℕ) → crew ≤ j → last_row j log ≡ []) → (j : ℕ) → crew ≤ j → last_row j (struck i ∷ log) ≡ []
  unfolding last_row
  fall_past log i h j le = pick_both (eqb j i) [] (last_row j log) (λ ts. ts ≡ []) (λ _. refl) (λ _. h j le)

  fall_none : (log : List Mark) (i : ℕ) → last_row i log ≡ [] → length (charged (struck i ∷ log)) ≡ length (charged log)
  unfolding charged
  fall_none log i e = ap (λ ts. length (ts ++ charged log)) e

  happened_counts : (n : ℕ) (log : List Mark) (v : World) → Counts n log → (it : given.Item) (is : List given.Item) →
      (m : ℕ) × Counts m (happened_log gs v it log) × (m + strokes is ≡ n + strokes (it ∷ is))
  unfolding happened_log strokes_of
  happened_counts n log v k (given.works i m) is = (
    n,
    pick_both (ltb i crew) _ _ (Counts n) (λ t. goes_counts m n log v k i (ltb-true i crew t)) (λ _. k),
    refl,
  )
  happened_counts n log v k (given.poke i) is = (n, k, refl)
  happened_counts n log v k (given.brings i j) is = (n, k, refl)
  happened_counts n log v k (given.falls i) is = ⊎_elim
      (λ (lt : i < crew). (
        suc n,
        record { few = omega (arith, k.few, charged_struck i log); past = fall_past log i k.past },
        omega (arith, strokes_falls i lt is),
      ))
      (λ (ge : crew ≤ i). (
        n,
        record { few = omega (arith, k.few, fall_none log i (k.past i ge)); past = fall_past log i k.past },
        ap (λ s. n + s) (sym (strokes_past i ge is)),
      ))
      (cases_lt i crew)

  all_counts : (is : List given.Item) (n : ℕ) (log : List Mark) (v : World) → Counts n log → length (charged (all_log gs v is log)) ≤ n + strokes is
  unfolding all_log
  all_counts [] n log v k = omega (arith, k.few)
  all_counts (it ∷ is) n log v k =
      let a = happened_counts n log v k it is in
      let rest = all_counts is a.0 (happened_log gs v it log) (happened gs v it) a.1 in
      omega (arith, rest, a.2)

  start_counts : Counts 0 []
  unfolding charged last_row
  start_counts = record { few = omega arith; past = λ i le. refl }

pub told_once : (gs : Gauges) → Known gs → (is : List given.Item) (k n : ℕ) →
    told_again (sums_told (calm k n gs (all_happened gs new_world is)).told) ≤ strokes is
told_once gs known is k n = omega (
  arith,
  told_again_few (sums_told (calm k n gs (all_happened gs new_world is)).told) (all_log gs new_world is [])
      (λ h p. subst (λ m. m ≤ 1 + struck_telling h p (all_log gs new_world is [])) (sym (sums_times h p _)) (few_told gs known h p is k n)),
  all_counts gs is 0 [] new_world (start_counts gs),
)
