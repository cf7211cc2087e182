-- The least of some bounds: what it says of each of them.
use Rattle.std.proofs.Common.{◌≡◌, ℕ, zero, suc, ◌<◌, ◌≤◌, leb, sym, refl, subst, ◌⊎◌, inl, inr, ⊎_elim, arith}
use Rattle.std.proofs.lemmas.Bool.{leb-true, leb-false, cases_eq}
use Rattle.sums.specs.Sums.{pick}
use Rattle.sums.proofs.Picks.{pick_both}
use Rattle.protocol.specs.Bounds.{Bound, unknown, from_hour, never, lower, least}

-- THE LEAST OF SOME BOUNDS
-- it is known, and not below m
abbrev pub NotBelow : (m : ℕ) → Bound → Type 0
NotBelow m unknown = ⊥
NotBelow m (from_hour n) = m ≤ n
NotBelow m never = Unit {0}

not_below_le : (m n : ℕ) → m ≤ n → (b : Bound) → NotBelow n b → NotBelow m b
not_below_le m n le unknown x = x
not_below_le m n le (from_hour k) x = omega arith
not_below_le m n le never x = x

module _ (f : ℕ → Bound) where
  abbrev pub LeastIs : ℕ → Bound → Type 0
  LeastIs n unknown = (i : ℕ) × (i < n) × (f i ≡ unknown)
  LeastIs n (from_hour m) = ((i : ℕ) → i < n → NotBelow m (f i)) × ((i : ℕ) × (i < n) × (f i ≡ from_hour m))
  LeastIs n never = (i : ℕ) → i < n → f i ≡ never

  pub least_is : (n : ℕ) → LeastIs n (least f n)
  unfolding least
  least_is zero = λ i lt. absurd (omega arith)
  least_is (suc n) = go (least f n) (least_is n) (f n) refl
    where
      each : (P : ℕ → Type 0) → ((i : ℕ) → i < n → P i) → P n → (i : ℕ) → i < suc n → P i
      each P h p i lt = ⊎_elim (λ l. h i l) (λ q. subst P (sym q) p) (split i lt)
        where
          split : (i : ℕ) → i < suc n → (i < n) ⊎ (i ≡ n)
          split i lt = ⊎_elim (λ q. inr q) (λ ne. inl (omega arith)) (cases_eq i n)

      pair : (m k : ℕ) → f n ≡ from_hour k → LeastIs n (from_hour m) → LeastIs (suc n) (pick (leb m k) (from_hour m) (from_hour k))
      pair m k e h = pick_both (leb m k) _ _ (LeastIs (suc n))
          (λ q. (each (λ i. NotBelow m (f i)) h.0 (subst (NotBelow m) (sym e) (leb-true m k q)), (h.1.0, omega (arith, h.1.1), h.1.2)))
          (λ q. (
            each (λ i. NotBelow k (f i)) (λ i lt. not_below_le k m (omega (arith, leb-false m k q)) (f i) (h.0 i lt))
                (subst (NotBelow k) (sym e) (omega arith)),
            (n, omega arith, e),
          ))

      go : (b : Bound) → LeastIs n b → (c : Bound) → f n ≡ c → LeastIs (suc n) (lower b c)
      go unknown h c e = (h.0, omega (arith, h.1), h.2)
      go (from_hour m) h unknown e = (n, omega arith, e)
      go (from_hour m) h (from_hour k) e = pair m k e h
      go (from_hour m) h never e = (each (λ i. NotBelow m (f i)) h.0 (subst (NotBelow m) (sym e) tt), (h.1.0, omega (arith, h.1.1), h.1.2))
      go never h unknown e = (n, omega arith, e)
      go never h (from_hour k) e = (
        each (λ i. NotBelow k (f i)) (λ i lt. subst (NotBelow k) (sym (h i lt)) tt) (subst (NotBelow k) (sym e) (omega arith)),
        (n, omega arith, e),
      )
      go never h never e = each (λ i. f i ≡ never) h e
