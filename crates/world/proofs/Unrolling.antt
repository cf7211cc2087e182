-- Calm written out goes as calm does.
use Rattle.std.proofs.Common.{◌≡◌, ℕ, zero, suc, ◌+◌, List, [], ◌∷◌, ◌++◌, sym, refl, ap, ◌∙◌, append_assoc, append-nil, add-one}
use Rattle.sums.specs.Sums.{Gauges}
use Rattle.machine.specs.Entry.{own}
use Rattle.machine.specs.Run as run
use Rattle.machine.specs.Run.{happened, all_happened, goes, poked, delivered, by_each, up_to, round, calm, poke, brings, works}
use Rattle.river.specs.declared.model.Item.{Item}
use Rattle.river.specs.declared.model.Item.TheVariants.{Works, Poke, Brings, Falls, Calm}
use Rattle.world.specs.Worlds.{took_place}
use Rattle.world.specs.Rounds.{in_turn, pokes, letters_to, a_round, all_rounds, written_out}

pub in_turn_append : (f : ℕ → List run.Item) (xs ys : List ℕ) → in_turn f (xs ++ ys) ≡ in_turn f xs ++ in_turn f ys
unfolding in_turn
in_turn_append f [] ys = refl
in_turn_append f (x ∷ xs) ys = ap (λ l. f x ++ l) (in_turn_append f xs ys) ∙ sym (append_assoc (f x) (in_turn f xs) (in_turn f ys))

-- one machine's turn more
pub in_turn_more : (f : ℕ → List run.Item) (n : ℕ) → in_turn f (up_to (n + 1)) ≡ in_turn f (up_to n) ++ f n
unfolding in_turn up_to
in_turn_more f n =
    ap (λ k. in_turn f (up_to k)) (add-one n) ∙ in_turn_append f (up_to n) (n ∷ []) ∙ ap (λ l. in_turn f (up_to n) ++ l) (append-nil (f n))

-- one round more
round_last : (k n : ℕ) → all_rounds k n ++ a_round n ≡ a_round n ++ all_rounds k n
unfolding all_rounds
round_last zero n = sym (append-nil (a_round n))
round_last (suc k) n = append_assoc (a_round n) (all_rounds k n) (a_round n) ∙ ap (λ l. a_round n ++ l) (round_last k n)

pub rounds_more : (k n : ℕ) → all_rounds (k + 1) n ≡ all_rounds k n ++ a_round n
unfolding all_rounds
rounds_more k n = ap (λ m. all_rounds m n) (add-one k) ∙ sym (round_last k n)

module _ (gs : Gauges) where
  pub all_append : (w : run.World) (xs ys : List run.Item) → all_happened own gs w (xs ++ ys) ≡ all_happened own gs (all_happened own gs w xs) ys
  unfolding all_happened
  all_append w [] ys = refl
  all_append w (x ∷ xs) ys = all_append (happened own gs w x) xs ys

  -- what each brings about, as one thing after the other
  turns : (f : ℕ → List run.Item) (g : run.World → ℕ → run.World) → ((w : run.World) (i : ℕ) → all_happened own gs w (f i) ≡ g w i) →
      (is : List ℕ) (w : run.World) → all_happened own gs w (in_turn f is) ≡ by_each g w is
  unfolding in_turn by_each all_happened
  turns f g h [] w = refl
  turns f g h (i ∷ is) w = all_append w (f i) (in_turn f is) ∙ ap (λ u. all_happened own gs u (in_turn f is)) (h w i) ∙ turns f g h is (g w i)

  pokes_go : (n : ℕ) (w : run.World) → all_happened own gs w (pokes n) ≡ by_each (λ u i. goes n own gs (poked u i) i) w (up_to 8)
  unfolding all_happened happened
  pokes_go n w = turns (λ i. poke i ∷ works i n ∷ []) (λ u i. goes n own gs (poked u i) i) (λ u i. refl) (up_to 8) w

  letters_go : (n : ℕ) (w : run.World) (j : ℕ) → all_happened own gs w (letters_to n j) ≡ by_each (λ t i. goes n own gs (delivered t i j) j) w (up_to 8)
  unfolding all_happened happened
  letters_go n w j = turns (λ i. brings i j ∷ works j n ∷ []) (λ u i. goes n own gs (delivered u i j) j) (λ u i. refl) (up_to 8) w

  round_goes : (n : ℕ) (w : run.World) → all_happened own gs w (a_round n) ≡ round n own gs w
  round_goes n w =
      all_append w (pokes n) (in_turn (letters_to n) (up_to 8)) ∙ ap (λ u. all_happened own gs u (in_turn (letters_to n) (up_to 8))) (pokes_go n w)
      ∙ turns (letters_to n) (λ u j. by_each (λ t i. goes n own gs (delivered t i j) j) u (up_to 8)) (letters_go n) (up_to 8) (by_each (λ u i. goes n own gs (poked u i) i) w (up_to 8))

  pub calm_goes : (k n : ℕ) (w : run.World) → all_happened own gs w (all_rounds k n) ≡ calm k n own gs w
  unfolding all_rounds calm all_happened
  calm_goes zero n w = refl
  calm_goes (suc k) n w =
      all_append w (a_round n) (all_rounds k n) ∙ ap (λ u. all_happened own gs u (all_rounds k n)) (round_goes n w) ∙ calm_goes k n (round n own gs w)

  pub took_written : (w : run.World) (it : Item) → took_place gs w it ≡ all_happened own gs w (written_out it)
  unfolding all_happened
  took_written w (Works i n) = refl
  took_written w (Poke i) = refl
  took_written w (Brings i j) = refl
  took_written w (Falls i) = refl
  took_written w (Calm k n) = sym (calm_goes k n w)
