-- Strokes of a river written out are those of its items: in calm there is none.
use Rattle.std.proofs.Common.{◌≡◌, ℕ, zero, suc, ◌+◌, Bool, true, false, List, [], ◌∷◌, ◌++◌, length, cond, ltb, ◌==◌, sym, ap, refl, ap₂, ◌∙◌, zero-add, arith}
use Rattle.std.specs.List.{filter}
use Rattle.std.proofs.lemmas.Bool.{le-ltb}
use Rattle.machine.specs.Run as run
use Rattle.machine.specs.Run.{works, poke, brings, falls, up_to}
use Rattle.sums.specs.Sums.{pick}
use Rattle.machine.specs.Log.{strokes_of}
use Rattle.protocol.specs.Searches.{sum_below}
use Rattle.river.specs.declared.model.Item.{Item}
use Rattle.river.specs.declared.model.Item.TheVariants.{Works, Poke, Brings, Falls, Calm}
use Rattle.world.specs.Rounds.{in_turn, letters_to, pokes, a_round, all_rounds}
use Rattle.play.specs.Plays.{unrolled}
use Rattle.play.specs.Scores.{all_strokes}

module _ (m : ℕ) where
  strokes_append : (xs ys : List run.Item) → strokes_of m (xs ++ ys) ≡ strokes_of m xs + strokes_of m ys
  unfolding strokes_of
  strokes_append [] ys = sym (zero-add (strokes_of m ys))
  strokes_append (works i n ∷ xs) ys = strokes_append xs ys
  strokes_append (poke i ∷ xs) ys = strokes_append xs ys
  strokes_append (brings i j ∷ xs) ys = strokes_append xs ys
  strokes_append (falls i ∷ xs) ys = let e = strokes_append xs ys in omega (arith, e)

  none_in_turn : (f : ℕ → List run.Item) → ((i : ℕ) → strokes_of m (f i) ≡ 0) → (is : List ℕ) → strokes_of m (in_turn f is) ≡ 0
  unfolding in_turn strokes_of
  none_in_turn f none [] = refl
  none_in_turn f none (i ∷ is) = strokes_append (f i) (in_turn f is) ∙ ap₂ (λ a b. a + b) (none i) (none_in_turn f none is)

  none_in_round : (n : ℕ) → strokes_of m (a_round n) ≡ 0
  unfolding strokes_of
  none_in_round n =
      strokes_append (pokes n) (in_turn (letters_to n) (up_to 8))
      ∙ ap₂ (λ a b. a + b) (none_in_turn _ (λ i. refl) (up_to 8)) (none_in_turn (letters_to n) (λ j. none_in_turn _ (λ i. refl) (up_to 8)) (up_to 8))

  none_in_rounds : (k n : ℕ) → strokes_of m (all_rounds k n) ≡ 0
  unfolding all_rounds strokes_of
  none_in_rounds zero n = refl
  none_in_rounds (suc k) n = strokes_append (a_round n) (all_rounds k n) ∙ ap₂ (λ a b. a + b) (none_in_round n) (none_in_rounds k n)

  pub none_in_calm : (k n : ℕ) (is : List run.Item) → strokes_of m (all_rounds k n ++ is) ≡ strokes_of m is
  none_in_calm k n is = strokes_append (all_rounds k n) is ∙ ap₂ (λ a b. a + b) (none_in_rounds k n) refl ∙ zero-add (strokes_of m is)

-- whether an item is a stroke on one of the machines
abbrev pub is_stroke : Item → Bool
is_stroke (Works i n) = false
is_stroke (Poke i) = false
is_stroke (Brings i j) = false
is_stroke (Falls i) = ltb i 8
is_stroke (Calm k n) = false

one_more : (b : Bool) (it : Item) (its : List Item) (n : ℕ) → n ≡ length its → pick b 1 0 + n ≡ length (cond b (it ∷ its) its)
one_more true it its n e = omega (arith, e)
one_more false it its n e = omega (arith, e)

sums_alike : (f g : ℕ → ℕ) (n : ℕ) → ((j : ℕ) → f j ≡ g j) → sum_below f n ≡ sum_below g n
unfolding sum_below
sums_alike f g zero e = refl
sums_alike f g (suc n) e = ap₂ (λ a b. a + b) (sums_alike f g n e) (e n)

both_summed : (f g : ℕ → ℕ) (n : ℕ) → sum_below (λ j. f j + g j) n ≡ sum_below f n + sum_below g n
unfolding sum_below
both_summed f g zero = refl
both_summed f g (suc n) = let e = both_summed f g n in omega (arith, e)

-- just one of the machines below n is i, if i is one of them
just_one : (i n : ℕ) → sum_below (λ m. pick (i == m) 1 0) n ≡ pick (ltb i n) 1 0
unfolding sum_below
just_one i zero = sym (ap (λ b. pick b 1 0) (le-ltb i 0 (omega arith)))
just_one i (suc n) = grind (arith, just_one i n)

struck_more : (i : ℕ) (is : List run.Item) → all_strokes (falls i ∷ is) ≡ pick (ltb i 8) 1 0 + all_strokes is
unfolding strokes_of
struck_more i is = both_summed (λ m. pick (i == m) 1 0) (λ m. strokes_of m is) 8 ∙ ap (λ n. n + all_strokes is) (just_one i 8)

pub strokes_counted : (its : List Item) → all_strokes (unrolled its) ≡ length (filter is_stroke its)
unfolding unrolled strokes_of sum_below
strokes_counted [] = refl
strokes_counted (Works i n ∷ its) = strokes_counted its
strokes_counted (Poke i ∷ its) = strokes_counted its
strokes_counted (Brings i j ∷ its) = strokes_counted its
strokes_counted (Falls i ∷ its) = struck_more i (unrolled its) ∙ one_more (ltb i 8) (Falls i) (filter is_stroke its) _ (strokes_counted its)
strokes_counted (Calm k n ∷ its) = sums_alike _ _ 8 (λ m. none_in_calm m k n (unrolled its)) ∙ strokes_counted its
