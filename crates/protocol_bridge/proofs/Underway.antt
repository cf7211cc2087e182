-- Letters under way: those between two, counted for each two of the crew, are no more than all letters on the given world's wires.
use Rattle.std.proofs.Common.{◌≡◌, ℕ, zero, suc, ◌+◌, ◌<◌, ◌≤◌, Bool, true, false, ◌&&◌, eqb, List, [], ◌∷◌, length, sym, refl, ap, arith, ⊎_elim}
use Rattle.std.proofs.lemmas.Bool.{cases_lt, ne_eqb, eq-eqb}
use Rattle.sums.specs.Sums.{pick, those, each}
use Rattle.machine.specs.Run.{Letter, is_between}
use Rattle.protocol.specs.Limits.{crew}
use Rattle.protocol.specs.Searches.{sum_below}
use Rattle.protocol.proofs.Sums.{sum_scaled, sum_same, sum_but}
use Rattle.promise.specs.Promise.{texts_between}

pub sum_le : (f g : ℕ → ℕ) (n : ℕ) → ((j : ℕ) → j < n → f j ≤ g j) → sum_below f n ≤ sum_below g n
sum_le f g n h = omega (arith, sum_scaled 1 0 f g n (λ j l. omega (arith, h j l)))

sum_nothing : (n : ℕ) → sum_below (λ _. 0) n ≡ 0
unfolding sum_below
sum_nothing zero = refl
sum_nothing (suc n) = omega (arith, sum_nothing n)

sum_plus : (f g : ℕ → ℕ) (n : ℕ) → sum_below (λ j. f j + g j) n ≡ sum_below f n + sum_below g n
unfolding sum_below
sum_plus f g zero = refl
sum_plus f g (suc n) = omega (arith, sum_plus f g n)

-- only one place counts
sum_hit : (r x n : ℕ) → sum_below (λ j. pick (eqb r j) x 0) n ≤ x
sum_hit r x n = ⊎_elim
    (λ (l : r < n). let here : pick (eqb r r) x 0 ≡ x = ap (λ b. pick b x 0) (eq-eqb r r refl) in
    omega (arith, here, sum_nothing n, sum_but (λ _. 0) (λ j. pick (eqb r j) x 0) r n l (λ j _ ne. ap (λ b. pick b x 0) (ne_eqb r j (λ e. ne (sym e))))))
    (λ (le : n ≤ r). omega (
      arith,
      sum_nothing n,
      sum_same (λ _. 0) (λ j. pick (eqb r j) x 0) n
          (λ j l. ap (λ b. pick b x 0) (ne_eqb r j (λ e. absurd (omega arith)))),
    ))
    (cases_lt r n)

between_each : (b : Bool) (l : Letter) (ls ms : List Letter) → length (each (λ (m : Letter). m.text) (pick b (l ∷ ms) ms)) ≡
    pick b 1 0 + length (each (λ (m : Letter). m.text) ms)
unfolding each
between_each true l ls ms = omega arith
between_each false l ls ms = omega arith

-- how many there are between two, one more or not
texts_first : (a b : ℕ) (l : Letter) (ls : List Letter) → length (texts_between a b (l ∷ ls)) ≡ pick (is_between a b l) 1 0 + length (texts_between a b ls)
unfolding texts_between those
texts_first a b l ls = between_each (is_between a b l) l ls (those (is_between a b) ls)

abbrev counted : (ℕ → ℕ → ℕ) → ℕ
counted f = sum_below (λ a. sum_below (f a) crew) crew

one_between : (l : Letter) → counted (λ a b. pick (is_between a b l) 1 0) ≤ 1
one_between l = omega (
  arith,
  sum_le (λ a. sum_below (λ b. pick (is_between a b l) 1 0) crew) (λ a. pick (eqb l.sender a) 1 0) crew (λ a _. by_sender a (eqb l.sender a)),
  sum_hit l.sender 1 crew,
)
  where
    by_sender : (a : ℕ) (t : Bool) → sum_below (λ b. pick (t && eqb l.reader b) 1 0) crew ≤ pick t 1 0
    by_sender a true = sum_hit l.reader 1 crew
    by_sender a false = omega (arith, sum_nothing crew)

pub counted_all : (ls : List Letter) → counted (λ a b. length (texts_between a b ls)) ≤ length ls
unfolding texts_between those each
counted_all [] = omega (arith, sum_le (λ a. sum_below (λ _. 0) crew) (λ _. 0) crew (λ a _. omega (arith, sum_nothing crew)), sum_nothing crew)
counted_all (l ∷ ls) =
    let here : ℕ → ℕ → ℕ = λ a b. pick (is_between a b l) 1 0 in
    let rest : ℕ → ℕ → ℕ = λ a b. length (texts_between a b ls) in
    let each_sum : counted (λ a b. length (texts_between a b (l ∷ ls))) ≤ sum_below (λ a. sum_below (here a) crew + sum_below (rest a) crew) crew =
    sum_le _ _ crew (λ a _. omega (
      arith,
      sum_plus (here a) (rest a) crew,
      sum_le (λ b. length (texts_between a b (l ∷ ls))) (λ b. here a b + rest a b) crew (λ b _. omega (arith, texts_first a b l ls)),
    )) in
    omega (arith, each_sum, sum_plus (λ a. sum_below (here a) crew) (λ a. sum_below (rest a) crew) crew, one_between l, counted_all ls)
