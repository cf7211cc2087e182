-- Searches that stop early: what a loop has found is what the search below the whole number finds.
use Rattle.std.proofs.Common.{◌≡◌, ℕ, zero, suc, ◌+◌, ◌<◌, ◌≤◌, Bool, true, false, ◌&&◌, Some, None, Option, refl, sym, ap, ap₂, subst, add-one, ◌∙◌, ⊎_elim, arith}
use Rattle.std.proofs.lemmas.Bool.{cases_lt}
use Rattle.sums.specs.Sums.{pick, or}
use Rattle.protocol.specs.Searches.{find, all_below, any_below}

-- for k < n, counted up to n from k on
stays : (P : ℕ → Type 0) (n k : ℕ) → k ≤ n → P k → ((j : ℕ) → k ≤ j → j < n → P j → P (suc j)) → P n
stays P zero k le p step = let e : k ≡ 0 = omega arith in subst P e p
stays P (suc n) k le p step =
    ⊎_elim (λ (l : k < suc n). step n (omega arith) (omega arith) (stays P n k (omega arith) p (λ j a b q. step j a (omega arith) q)))
    (λ (g : suc n ≤ k). let e : k ≡ suc n = omega arith in subst P e p)
    (cases_lt k (suc n))

module _ (f : ℕ → Bool) where
  pub one_not : (n k : ℕ) → k < n → f k ≡ false → all_below f n ≡ false
  unfolding all_below
  one_not n k lt fails = stays (λ j. all_below f j ≡ false) n (suc k) (omega arith) (ap (λ b. all_below f k && b) fails ∙ and_false (all_below f k)) (λ j _ _ e. ap (λ b. b && f j) e)
    where
      and_false : (b : Bool) → b && false ≡ false
      and_false true = refl
      and_false false = refl

  pub one_is : (n k : ℕ) → k < n → f k ≡ true → any_below f n ≡ true
  unfolding any_below
  one_is n k lt here = stays (λ j. any_below f j ≡ true) n (suc k) (omega arith) (ap (or (any_below f k)) here ∙ or_true (any_below f k)) (λ j _ _ e. ap (λ b. or b (f j)) e)
    where
      or_true : (b : Bool) → or b true ≡ true
      or_true true = refl
      or_true false = refl

  pub first_is : (n k : ℕ) → k < n → find f k ≡ None → f k ≡ true → find f n ≡ Some k
  unfolding find
  first_is n k lt none here =
      stays (λ j. find f j ≡ Some k) n (suc k) (omega arith)
      (ap₂ (λ (o : Option ℕ) (b : Bool). elim o as (λ _. Option ℕ) [ Some i ↦ Some i | None ↦ pick b (Some k) None ]) none here)
      (λ j _ _ e. ap (λ (o : Option ℕ). elim o as (λ _. Option ℕ) [ Some i ↦ Some i | None ↦ pick (f j) (Some j) None ]) e)

  pub none_more : (k : ℕ) → find f k ≡ None → f k ≡ false → find f (suc k) ≡ None
  unfolding find
  none_more k none fails = ap₂ (λ (o : Option ℕ) (b : Bool). elim o as (λ _. Option ℕ) [ Some i ↦ Some i | None ↦ pick b (Some k) None ]) none fails

  -- one number more
  pub all_more : (k : ℕ) → all_below f k ≡ true → f k ≡ true → all_below f (k + 1) ≡ true
  unfolding all_below
  all_more k before here = subst (λ n. all_below f n ≡ true) (sym (add-one k)) (ap₂ (λ a b. a && b) before here)

  pub any_more : (k : ℕ) → any_below f k ≡ false → f k ≡ false → any_below f (k + 1) ≡ false
  unfolding any_below
  any_more k before here = subst (λ n. any_below f n ≡ false) (sym (add-one k)) (ap₂ or before here)

  pub none_next : (k : ℕ) → find f k ≡ None → f k ≡ false → find f (k + 1) ≡ None
  none_next k before here = subst (λ n. find f n ≡ None) (sym (add-one k)) (none_more k before here)
