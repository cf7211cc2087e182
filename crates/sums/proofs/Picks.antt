-- Of one or the other, by a test: what holds of both holds of what is picked.
use Rattle.std.proofs.Common.{◌≡◌, Bool, true, false, sym, refl, subst}
use Rattle.sums.specs.Sums.{pick}

pub pick_both : {A : Type 0} (b : Bool) (x y : A) (P : A → Type 0) → (b ≡ true → P x) → (b ≡ false → P y) → P (pick b x y)
pick_both true x y P f g = f refl
pick_both false x y P f g = g refl

-- where the test is known
pub pick_true : {A : Type 0} (b : Bool) (x y : A) (P : A → Type 0) → b ≡ true → P x → P (pick b x y)
pick_true b x y P e p = subst (λ t. P (pick t x y)) (sym e) p

-- two picks by the same test
pub pick_two : {A B : Type 0} (b c : Bool) → b ≡ c → (x₁ x₂ : A) (y₁ y₂ : B) (P : A → B → Type 0) → (c ≡ true → P x₁ y₁) → (c ≡ false → P x₂ y₂) →
    P (pick b x₁ x₂) (pick c y₁ y₂)
pick_two b c e x₁ x₂ y₁ y₂ P f g = subst (λ t. P (pick t x₁ x₂) (pick c y₁ y₂)) (sym e) (on c f g)
  where
    on : (c : Bool) → (c ≡ true → P x₁ y₁) → (c ≡ false → P x₂ y₂) → P (pick c x₁ x₂) (pick c y₁ y₂)
    on true f g = f refl
    on false f g = g refl
