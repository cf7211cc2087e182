-- One place of a function is set, or one pair's: what holds then of each, and of each two.
use Rattle.std.proofs.Common.{◌≡◌, ℕ, ◌+◌, ◌/◌, ◌%◌, false, ◌&&◌, eqb, sym, refl, ap, subst}
use Rattle.std.proofs.lemmas.Bool.{eqb-true, eqb-false, eq-eqb, ne_eqb, and_parts, and_from, and_left, and_right}
use Rattle.sums.specs.Sums.{pick}
use Rattle.sums.proofs.Picks.{pick_both}
use Rattle.protocol.specs.Limits.{crew}
use Rattle.protocol.specs.OpenHours.{with_page_at}
use Rattle.protocol.specs.Searches.{put, put₂}
use Rattle.protocol.specs.Tables.{Tables, Page, with_page}

module _ {A : Type 0} (f : ℕ → A) (i : ℕ) (x : A) where
  pub put_same : put f i x i ≡ x
  put_same = ap (λ b. pick b x (f i)) (eq-eqb i i refl)

  pub put_other : (j : ℕ) → (j ≡ i → ⊥) → put f i x j ≡ f j
  put_other j ne = ap (λ b. pick b x (f j)) (ne_eqb j i ne)

  -- of each
  pub put_each : (P : ℕ → A → Type 0) → P i x → ((j : ℕ) → (j ≡ i → ⊥) → P j (f j)) → (j : ℕ) → P j (put f i x j)
  put_each P p q j = pick_both (eqb j i) x (f j) (P j) (λ e. subst (λ k. P k x) (sym (eqb-true j i e)) p) (λ e. q j (eqb-false j i e))

  -- of each two
  pub put_pairs : (P : ℕ → ℕ → A → A → Type 0) → P i i x x → ((j : ℕ) → (j ≡ i → ⊥) → P i j x (f j)) → ((j : ℕ) → (j ≡ i → ⊥) → P j i (f j) x) →
      ((j k : ℕ) → (j ≡ i → ⊥) → (k ≡ i → ⊥) → P j k (f j) (f k)) → (j k : ℕ) → P j k (put f i x j) (put f i x k)
  put_pairs P self row column rest j k =
      put_each (λ a y. P a k y (put f i x k))
      (put_each (λ b z. P i b x z) self row k)
      (λ a ne. put_each (λ b z. P a b (f a) z) (column a ne) (λ b nb. rest a b ne nb) k) j

module _ {A : Type 0} (f : ℕ → ℕ → A) (i j : ℕ) (x : A) where
  pub put₂_same : put₂ f i j x i j ≡ x
  put₂_same = ap (λ b. pick b x (f i j)) (and_from (eqb i i) (eqb j j) (eq-eqb i i refl) (eq-eqb j j refl))

  pub put₂_other : (a b : ℕ) → eqb a i && eqb b j ≡ false → put₂ f i j x a b ≡ f a b
  put₂_other a b e = ap (λ t. pick t x (f a b)) e

  pub put₂_each : (P : ℕ → ℕ → A → Type 0) → P i j x → ((a b : ℕ) → (eqb a i && eqb b j ≡ false) → P a b (f a b)) → (a b : ℕ) → P a b (put₂ f i j x a b)
  put₂_each P p q a b =
      pick_both (eqb a i && eqb b j) x (f a b) (P a b)
      (λ e. let both = and_parts (eqb a i) (eqb b j) e in
      subst (λ k. P k b x) (sym (eqb-true a i both.0)) (subst (λ k. P i k x) (sym (eqb-true b j both.1)) p))
      (λ e. q a b e)

pub apart_left : (i j a b : ℕ) → (a ≡ i → ⊥) → eqb a i && eqb b j ≡ false
apart_left i j a b ne = and_left (eqb a i) (eqb b j) (ne_eqb a i ne)

pub apart_right : (i j a b : ℕ) → (b ≡ j → ⊥) → eqb a i && eqb b j ≡ false
apart_right i j a b ne = and_right (eqb a i) (eqb b j) (ne_eqb b j ne)

-- one page is set, of those that are kept
module _ (t : ℕ → Tables) (f q : ℕ) (p : Page) where
  pub page_each : (P : ℕ → ℕ → Page → Type 0) → P (f + q / crew) (q % crew) p → ((h j : ℕ) → (h ≡ f + q / crew → j ≡ q % crew → ⊥) → P h j ((t h).page j)) →
      (h j : ℕ) → P h j ((with_page_at t f q p h).page j)
  page_each P here rest =
      put_each t (f + q / crew) (with_page (t (f + q / crew)) (q % crew) p) (λ h x. (j : ℕ) → P h j (x.page j))
      (put_each (t (f + q / crew)).page (q % crew) p (λ j pg. P (f + q / crew) j pg) here (λ j ne. rest (f + q / crew) j (λ _ e. ne e)))
      (λ h ne j. rest h j (λ e _. ne e))
