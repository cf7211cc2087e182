-- Items within their limits stay so, with calm written out and with strokes put in; so such a river can be read back.
use Rattle.std.proofs.Common.{◌≡◌, ℕ, zero, suc, Bool, true, List, [], ◌∷◌, ◌++◌, take, drop, length, get_or, ◌<◌, nat_lt, nat_le, refl, sym, ap, ◌∙◌, true≢false}
use Rattle.std.proofs.lemmas.List.{take-append-drop}
use Rattle.std.proofs.lemmas.Bool.{and_from, and_parts}
use Rattle.sums.specs.Sums.{every}
use Rattle.sums.proofs.Everys.{every_append, every_at}
use Rattle.machine.specs.Run as run
use Rattle.machine.specs.Run.{works, poke, brings, falls, up_to}
use Rattle.river.specs.Fine.{item_fine}
use Rattle.river.specs.declared.model.Item.{Item}
use Rattle.river.specs.declared.model.Item.TheVariants.{Works, Poke, Brings, Falls, Calm}
use Rattle.world.specs.Rounds.{in_turn, letters_to, pokes, a_round, all_rounds, written_out}
use Rattle.play.specs.Plays.{unrolled, is_plain}
use Rattle.play.specs.Courses.{acts_fine, strokes}

-- the limits of what happens, by those of the item that says it
abbrev pub limited : run.Item → Bool
limited (works i n) = item_fine (Works i n)
limited (poke i) = item_fine (Poke i)
limited (brings i j) = item_fine (Brings i j)
limited (falls i) = item_fine (Falls i)

turns_limited : (f : ℕ → List run.Item) → ((i : ℕ) → nat_lt i 8 ≡ true → every limited (f i) ≡ true) → (is : List ℕ) → every (λ i. nat_lt i 8) is ≡ true →
    every limited (in_turn f is) ≡ true
unfolding in_turn every
turns_limited f h [] e = refl
turns_limited f h (i ∷ is) e = let both = and_parts (nat_lt i 8) _ e in every_append limited (f i) (in_turn f is) (h i both.0) (turns_limited f h is both.1)

module _ (n : ℕ) (few : acts_fine n ≡ true) where
  each_limited : (f : ℕ → List run.Item) → ((i : ℕ) → nat_lt i 8 ≡ true → every limited (f i) ≡ true) → every limited (in_turn f (up_to 8)) ≡ true
  unfolding up_to every
  each_limited f h = turns_limited f h (up_to 8) refl

  two_limited : (it : run.Item) (j : ℕ) → limited it ≡ true → nat_lt j 8 ≡ true → every limited (it ∷ works j n ∷ []) ≡ true
  unfolding every
  two_limited it j e l = and_from (limited it) _ e (and_from _ _ (and_from (nat_lt j 8) _ l few) refl)

  round_limited : every limited (a_round n) ≡ true
  round_limited =
      every_append limited (pokes n) (in_turn (letters_to n) (up_to 8)) (each_limited _ (λ i l. two_limited (poke i) i l l))
      (each_limited _ (λ j k. each_limited _ (λ i l. two_limited (brings i j) j (and_from (nat_lt i 8) _ l k) k)))

  rounds_limited : (k : ℕ) → every limited (all_rounds k n) ≡ true
  unfolding all_rounds every
  rounds_limited zero = refl
  rounds_limited (suc k) = every_append limited (a_round n) (all_rounds k n) round_limited (rounds_limited k)

out_limited : (it : Item) → item_fine it ≡ true → every limited (written_out it) ≡ true
unfolding every
out_limited (Works i n) e = and_from _ _ e refl
out_limited (Poke i) e = and_from _ _ e refl
out_limited (Brings i j) e = and_from _ _ e refl
out_limited (Falls i) e = and_from _ _ e refl
out_limited (Calm k n) e = rounds_limited n (and_parts (nat_le k 65536) _ e).1 k

pub unrolled_limited : (its : List Item) → every item_fine its ≡ true → every limited (unrolled its) ≡ true
unfolding unrolled every
unrolled_limited [] e = refl
unrolled_limited (it ∷ its) e =
    let both = and_parts (item_fine it) _ e in every_append limited (written_out it) (unrolled its) (out_limited it both.0) (unrolled_limited its both.1)

pub plain_fine : (its : List Item) → every is_plain its ≡ true → every limited (unrolled its) ≡ true → every item_fine its ≡ true
unfolding unrolled every
plain_fine [] p e = refl
plain_fine (Works i n ∷ its) p e = let both = and_parts (item_fine (Works i n)) _ e in and_from _ _ both.0 (plain_fine its p both.1)
plain_fine (Poke i ∷ its) p e = let both = and_parts (item_fine (Poke i)) _ e in and_from _ _ both.0 (plain_fine its p both.1)
plain_fine (Brings i j ∷ its) p e = let both = and_parts (item_fine (Brings i j)) _ e in and_from _ _ both.0 (plain_fine its p both.1)
plain_fine (Falls i ∷ its) p e = let both = and_parts (item_fine (Falls i)) _ e in and_from _ _ both.0 (plain_fine its p both.1)
plain_fine (Calm k n ∷ its) p e = absurd (true≢false (sym p))

every_parts : {A : Type 0} (f : A → Bool) (xs ys : List A) → every f (xs ++ ys) ≡ true → (every f xs ≡ true) × (every f ys ≡ true)
unfolding every
every_parts f [] ys e = (refl, e)
every_parts f (x ∷ xs) ys e = let p = and_parts (f x) _ e in let q = every_parts f xs ys p.1 in (and_from (f x) _ p.0 q.0, q.1)

strokes_fine : (m : ℕ) → nat_lt m 8 ≡ true → (ts : List ℕ) → every acts_fine ts ≡ true → every item_fine (strokes m ts) ≡ true
unfolding strokes every
strokes_fine m l [] e = refl
strokes_fine m l (t ∷ ts) e = let p = and_parts (acts_fine t) _ e in and_from _ _ (and_from (nat_lt m 8) _ l p.0) (and_from _ _ l (strokes_fine m l ts p.1))

pub struck_fine : (its : List Item) (k m n : ℕ) (ts : List ℕ) (d : Item) → k < length its → get_or its k d ≡ Works m n → every item_fine its ≡ true → every acts_fine ts ≡ true →
    every item_fine ((take k its ++ strokes m ts) ++ drop k its) ≡ true
struck_fine its k m n ts d lt is e few =
    let p = every_parts item_fine (take k its) (drop k its) (ap (every item_fine) (take-append-drop k its) ∙ e) in
    let one : item_fine (Works m n) ≡ true = ap item_fine (sym is) ∙ every_at item_fine its k d lt e in
    let put = strokes_fine m (and_parts (nat_lt m 8) _ one).0 ts few in
    every_append item_fine (take k its ++ strokes m ts) (drop k its) (every_append item_fine (take k its) (strokes m ts) p.0 put) p.1
