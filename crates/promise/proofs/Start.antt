-- The new world: eight machines, each woken by its number, with empty drawers.
use Rattle.std.proofs.Common.{◌≡◌, ℕ, zero, suc, ◌<◌, List, [], ◌∷◌, ◌++◌, length, refl, ap, ◌∙◌, subst, ⊎_elim, arith, length-append}
use Rattle.std.proofs.lemmas.Bool.{cases_eq}
use Rattle.machine.specs.Run.{Engine, Machine, machine, machine_at, numbered, so_many_of, wakes}

pub length_so_many : {A : Type 0} (n : ℕ) (x : A) → length (so_many_of n x) ≡ n
unfolding so_many_of
length_so_many zero x = refl
length_so_many (suc n) x = ap suc (length_so_many n x)

at_front : (xs ys : List Machine) (j : ℕ) → j < length xs → machine_at (xs ++ ys) j ≡ machine_at xs j
unfolding machine_at
at_front [] ys j h = absurd (omega arith)
at_front (x ∷ xs) ys zero h = refl
at_front (x ∷ xs) ys (suc j) h = at_front xs ys j (omega arith)

at_last : (xs : List Machine) (x : Machine) → machine_at (xs ++ x ∷ []) (length xs) ≡ x
unfolding machine_at
at_last [] x = refl
at_last (y ∷ xs) x = at_last xs x

pub length_numbered : (e : Engine) (n : ℕ) → length (numbered e n) ≡ n
unfolding numbered
length_numbered e zero = refl
length_numbered e (suc n) = simp (length-append, length_numbered e n) (omega arith)

-- a machine at the start
abbrev new : Engine → ℕ → Machine
new e j = machine e.start (wakes j ∷ []) 0 0 (so_many_of 256 [])

pub numbered_at : (e : Engine) (n j : ℕ) → j < n → machine_at (numbered e n) j ≡ new e j
unfolding numbered
numbered_at e zero j h = absurd (omega arith)
numbered_at e (suc n) j h = ⊎_elim
    (λ q. rw q (subst (λ k. machine_at (numbered e n ++ new e n ∷ []) k ≡ new e n) (length_numbered e n) (at_last (numbered e n) _)))
    (λ ne. let lt : j < n = omega arith in at_front (numbered e n) _ j (rw (length_numbered e n) lt) ∙ numbered_at e n j lt)
    (cases_eq j n)
