-- Cells that say that something is due: those of the machines for which it holds are set, and nothing else changes.
use Rattle.std.proofs.Common.{◌≡◌, ◌≢◌, ℕ, zero, suc, ◌+◌, ◌<◌, ◌≤◌, Bool, true, false, cond, not, eqb, List, length, set, refl, sym, ◌∙◌, subst, ⊎_elim, arith}
use Rattle.std.proofs.lemmas.Bool.{cases_eq}
use Rattle.std.proofs.lemmas.List.{length-set, get_or-set_other}
use Rattle.sums.specs.Sums.{or}
use Rattle.gauge.specs.Memory.{at, due_at}
use Rattle.exchange.specs.Adder.{due_where}
use Rattle.whole.proofs.Cells.{here}

-- one cell, if it is set
elsewhere : (b : Bool) (l : List ℕ) (i c : ℕ) → c ≢ i → at (cond b (set l i 1) l) c ≡ at l c
elsewhere true l i c ne = get_or-set_other l i c 1 0 ne
elsewhere false l i c ne = refl

pub length_due : (f : ℕ → Bool) (n : ℕ) (m : List ℕ) → length (due_where f n m) ≡ length m
unfolding due_where
length_due f zero m = refl
length_due f (suc n) m = on (f n) ∙ length_due f n m
  where
    on : (b : Bool) → length (cond b (set (due_where f n m) (due_at + n) 1) (due_where f n m)) ≡ length (due_where f n m)
    on true = length-set (due_where f n m) (due_at + n) 1
    on false = refl

pub due_other : (f : ℕ → Bool) (n : ℕ) (m : List ℕ) (c : ℕ) → ((k : ℕ) → k < n → c ≢ due_at + k) → at (due_where f n m) c ≡ at m c
unfolding due_where
due_other f zero m c ne = refl
due_other f (suc n) m c ne = elsewhere (f n) (due_where f n m) (due_at + n) c (ne n (omega arith)) ∙ due_other f n m c (λ k lt. ne k (omega arith))

pub due_is : (f : ℕ → Bool) (n : ℕ) (m : List ℕ) (j : ℕ) → due_at + n ≤ length m → j < n → at (due_where f n m) (due_at + j) ≡ cond (f j) 1 (at m (due_at + j))
unfolding due_where
due_is f zero m j le lt = absurd (omega arith)
due_is f (suc n) m j le lt =
    ⊎_elim (λ (e : j ≡ n). subst (λ k. at (cond (f n) (set (due_where f n m) (due_at + n) 1) (due_where f n m)) (due_at + k) ≡ cond (f k) 1 (at m (due_at + k))) (sym e) (last (f n)))
    (λ (ne : j ≢ n). elsewhere (f n) (due_where f n m) (due_at + n) (due_at + j) (λ q. ne (omega (arith, q))) ∙ due_is f n m j (omega arith) (omega (arith, ne)))
    (cases_eq j n)
  where
    last : (b : Bool) → at (cond b (set (due_where f n m) (due_at + n) 1) (due_where f n m)) (due_at + n) ≡ cond b 1 (at m (due_at + n))
    last true = here (due_where f n m) (due_at + n) 1 (omega (arith, length_due f n m))
    last false = due_other f n m (due_at + n) (λ k lt q. omega (arith, q))

-- what the flag says then
pub due_flag : (b : Bool) (v : ℕ) → or (not (eqb v 0)) b ≡ not (eqb (cond b 1 v) 0)
due_flag true v = on (not (eqb v 0))
  where
    on : (a : Bool) → or a true ≡ true
    on true = refl
    on false = refl
due_flag false v = on (not (eqb v 0))
  where
    on : (a : Bool) → or a false ≡ a
    on true = refl
    on false = refl
