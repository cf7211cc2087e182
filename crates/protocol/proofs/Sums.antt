-- Sums of all numbers below one: of functions that are alike, that differ in one place, or of which one is about as large as the other.
use Rattle.std.proofs.Common.{◌≡◌, ℕ, zero, suc, ◌+◌, ◌*◌, ◌<◌, ◌≤◌, sym, refl, ap, ap₂, subst, ⊎_elim, arith}
use Rattle.std.proofs.lemmas.Bool.{cases_eq}
use Rattle.protocol.specs.Entries.{Entry, join_below}
use Rattle.protocol.specs.Searches.{put, put₂, sum_below}
use Rattle.protocol.proofs.Entries.{entries_same}
use Rattle.protocol.proofs.Puts.{put_same, put_other, put₂_same, put₂_other, apart_left, apart_right}

-- of what is at most d times as much, and c more, in each place
pub sum_scaled : (d c : ℕ) (f g : ℕ → ℕ) (n : ℕ) → ((j : ℕ) → j < n → f j ≤ d * g j + c) → sum_below f n ≤ d * sum_below g n + n * c
unfolding sum_below
sum_scaled d c f g zero h = omega arith
sum_scaled d c f g (suc n) h = omega (arith, sum_scaled d c f g n (λ j l. h j (omega arith)), h n (omega arith))

pub sum_same : (f g : ℕ → ℕ) (n : ℕ) → ((j : ℕ) → j < n → g j ≡ f j) → sum_below g n ≡ sum_below f n
unfolding sum_below
sum_same f g zero h = refl
sum_same f g (suc n) h = ap₂ (λ a b. a + b) (sum_same f g n (λ j l. h j (omega arith))) (h n (omega arith))

-- entries, joined
pub join_alike : (f g : ℕ → Entry) (n : ℕ) → ((j : ℕ) → j < n → f j ≡ g j) → join_below f n ≡ join_below g n
join_alike f g n h = entries_same _ _ (sums (λ e. e.sum)) (sums (λ e. e.count))
  where
    sums : (v : Entry → ℕ) → sum_below (λ i. v (f i)) n ≡ sum_below (λ i. v (g i)) n
    sums v = sum_same (λ i. v (g i)) (λ i. v (f i)) n (λ j l. ap v (h j l))

-- the first by itself
pub sum_front : (f : ℕ → ℕ) (n : ℕ) → sum_below f (suc n) ≡ f 0 + sum_below (λ j. f (suc j)) n
unfolding sum_below
sum_front f zero = omega arith
sum_front f (suc n) = omega (arith, sum_front f n)

-- one place differs
pub sum_but : (f g : ℕ → ℕ) (i n : ℕ) → i < n → ((j : ℕ) → j < n → (j ≡ i → ⊥) → g j ≡ f j) → sum_below g n + f i ≡ sum_below f n + g i
unfolding sum_below
sum_but f g i zero lt h = absurd (omega arith)
sum_but f g i (suc n) lt h = ⊎_elim
    (λ (e : i ≡ n). let rest : sum_below g n ≡ sum_below f n = sum_same f g n (λ j l. h j (omega arith) (λ q. absurd (omega arith))) in
    subst (λ k. sum_below g n + g n + f k ≡ sum_below f n + f n + g k) (sym e) (omega (arith, rest)))
    (λ ne. omega (arith, sum_but f g i n (omega arith) (λ j l. h j (omega arith)), h n (omega arith) (λ q. ne (sym q))))
    (cases_eq i n)

module _ {A : Type 0} (F : ℕ → A → ℕ) (f : ℕ → A) (i : ℕ) (x : A) where
  pub sum_put : (n : ℕ) → i < n → sum_below (λ j. F j (put f i x j)) n + F i (f i) ≡ sum_below (λ j. F j (f j)) n + F i x
  sum_put n lt =
      let e : F i (put f i x i) ≡ F i x = ap (F i) (put_same f i x) in
      omega (arith, e, sum_but (λ j. F j (f j)) (λ j. F j (put f i x j)) i n lt (λ j l ne. ap (F j) (put_other f i x j ne)))

module _ {A : Type 0} (F : A → ℕ) (f : ℕ → ℕ → A) (i j : ℕ) (x : A) where
  pub sum_put₂ : (n : ℕ) → i < n → j < n → sum_below (λ a. sum_below (λ b. F (put₂ f i j x a b)) n) n + F (f i j) ≡ sum_below
      (λ a. sum_below (λ b. F (f a b)) n) n + F x
  sum_put₂ n li lj =
      let e : F (put₂ f i j x i j) ≡ F x = ap F (put₂_same f i j x) in
      let inner = sum_but (λ b. F (f i b)) (λ b. F (put₂ f i j x i b)) j n lj (λ b l ne. ap F (put₂_other f i j x i b (apart_right i j i b ne))) in
      let outer = sum_but (λ a. sum_below (λ b. F (f a b)) n) (λ a. sum_below (λ b. F (put₂ f i j x a b)) n) i n li
      (λ a l ne. sum_same (λ b. F (f a b)) (λ b. F (put₂ f i j x a b)) n (λ b _. ap F (put₂_other f i j x a b (apart_left i j a b ne)))) in
      omega (arith, e, inner, outer)
