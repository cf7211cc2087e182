-- What the machines promise together. Each promise is a statement, a type whose proof is owed. Assumes nothing.
use Rattle.std.specs.Prelude.{◌≡◌, ℕ, ◌<◌, ◌≤◌, Bool, true, false, ◌&&◌, List, [], ◌∷◌, ◌++◌, length, ◌==◌}
use Rattle.sums.specs.Sums.{every, those, each, none_of, Gauges, ToldSum, is_right, all_told, gauges_fine}
use Rattle.machine.specs.Run.{Engine, World, machine_at, Item, all_happened, happened, calm, new_world, Steady, Letter, first_between, without_first, is_between, fallen}

-- nothing is at fault, and what is told is right
unfoldable pub Safe : Gauges → World → Type 0
Safe gs w = (w.fault ≡ false) × (every (is_right gs) w.told ≡ true)

-- THE MAIN PROMISE, for all gauges that are known and all that can happen: nothing wrong is ever told; and when it's calm, all that's to be told is, after
-- so many rounds
unfoldable pub Whole : (Gauges → Bool) → Engine → Type 0
Whole known e =
    Steady e
    × ((gs : Gauges) (is : List Item) → gauges_fine gs ≡ true → known gs ≡ true → length is ≤ 4294967296 →
    Safe gs (all_happened e gs (new_world e) is)
    × ((k n : ℕ) → Safe gs (calm k n e gs (all_happened e gs (new_world e) is)))
    × ((k : ℕ) × (n : ℕ) × (all_told gs (calm k n e gs (all_happened e gs (new_world e) is)).told ≡ true)))

-- THE SMALL CORE: only the first gauge has readings
unfoldable pub others_empty : Gauges → Bool
others_empty [] = true
others_empty (rs ∷ gs) = every none_of gs

abbrev pub core : Gauges → Bool
core gs = others_empty gs

-- whatever the gauges have
abbrev pub everything : Gauges → Bool
everything gs = true

-- Letters from one to another come in the order in which they were sent, each once, unless one of the two falls.
unfoldable pub texts_between : ℕ → ℕ → List Letter → List (List ℕ)
texts_between i j ls = each (λ l. l.text) (those (is_between i j) ls)

unfoldable pub first_text : List Letter → List (List ℕ)
first_text ls = each (λ l. l.text) ls

unfoldable pub InOrder : Type 0
InOrder =
    (i j a b : ℕ) (ls : List Letter) →
    (texts_between i j ls ≡ first_text (first_between i j ls) ++ texts_between i j (without_first i j ls))
    × (a == i && (b == j) ≡ false → texts_between a b (without_first i j ls) ≡ texts_between a b ls)

-- Slots and what was let go of outlive a fall; and what was told is never taken back.
unfoldable pub Outlives : Type 0
Outlives =
    (e : Engine) (gs : Gauges) (w : World) (i j : ℕ) → i < length w.machines →
    ((machine_at (fallen e w i).machines j).slots ≡ (machine_at w.machines j).slots)
    × ((machine_at (fallen e w i).machines j).gone ≡ (machine_at w.machines j).gone)
    × ((fallen e w i).told ≡ w.told)

unfoldable pub NeverBack : Type 0
NeverBack = (e : Engine) (gs : Gauges) (w : World) (it : Item) → (more : List ToldSum) × ((happened e gs w it).told ≡ w.told ++ more)
