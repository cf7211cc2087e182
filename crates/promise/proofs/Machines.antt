-- One machine of eight is set: what is there then, and in the other places.
use Rattle.std.proofs.Common.{◌≡◌, ℕ, zero, suc, ◌<◌, ◌≤◌, List, [], ◌∷◌, length, refl, ap, arith}
use Rattle.machine.specs.Run.{Machine, machine, machine_at, set_nth}

pub length_set_nth : {A : Type 0} (xs : List A) (i : ℕ) (x : A) → length (set_nth xs i x) ≡ length xs
unfolding set_nth
length_set_nth [] i x = refl
length_set_nth (y ∷ ys) zero x = refl
length_set_nth (y ∷ ys) (suc i) x = ap suc (length_set_nth ys i x)

pub set_past : {A : Type 0} (xs : List A) (i : ℕ) (x : A) → length xs ≤ i → set_nth xs i x ≡ xs
unfolding set_nth
set_past [] i x h = refl
set_past (y ∷ xs) zero x h = absurd (omega arith)
set_past (y ∷ xs) (suc i) x h = ap (λ l. y ∷ l) (set_past xs i x (omega arith))

pub none_and_some : {A B : Type 0} (x : A) (xs : List A) → x ∷ xs ≡ [] → B
none_and_some x xs e = let z : ◌≡◌ {A = ℕ} 0 1 = cc in absurd (omega arith)

pub at_set_same : (ms : List Machine) (i : ℕ) (x : Machine) → i < length ms → machine_at (set_nth ms i x) i ≡ x
unfolding set_nth machine_at
at_set_same [] i x h = absurd (omega arith)
at_set_same (m ∷ ms) zero x h = refl
at_set_same (m ∷ ms) (suc i) x h = at_set_same ms i x (omega arith)

-- what holds of the new one, and of the one that was there, holds after, whether there is such a place or not
pub at_set_all : (ms : List Machine) (i j : ℕ) (x : Machine) (P : Machine → Type 0) → (i ≡ j → P x) → P (machine_at ms j) → P (machine_at (set_nth ms i x) j)
unfolding set_nth machine_at
at_set_all [] i j x P f p = p
at_set_all (m ∷ ms) zero zero x P f p = f refl
at_set_all (m ∷ ms) zero (suc j) x P f p = p
at_set_all (m ∷ ms) (suc i) zero x P f p = p
at_set_all (m ∷ ms) (suc i) (suc j) x P f p = at_set_all ms i j x P (λ e. f (ap suc e)) p

pub at_set_other : (ms : List Machine) (i j : ℕ) (x : Machine) → (i ≡ j → ⊥) → machine_at (set_nth ms i x) j ≡ machine_at ms j
at_set_other ms i j x apart = at_set_all ms i j x (λ m. m ≡ machine_at ms j) (λ e. absurd (apart e)) refl

-- past the last there is a machine that has nothing and rests
pub machine_past : (ms : List Machine) (i : ℕ) → length ms ≤ i → machine_at ms i ≡ machine [] [] 0 0 []
unfolding machine_at
machine_past [] i h = refl
machine_past (m ∷ ms) zero h = absurd (omega arith)
machine_past (m ∷ ms) (suc i) h = machine_past ms i (omega arith)
