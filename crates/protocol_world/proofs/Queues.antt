-- What becomes of the queue between two: a letter that comes stays in it till it is taken in.
use Rattle.std.proofs.Common.{◌≡◌, ℕ, List, [], ◌∷◌, ◌++◌, Some, None, sym, refl, ap, ap₂, ◌∙◌, subst, ⊎_elim}
use Rattle.std.proofs.lemmas.Bool.{cases_eq, eq-eqb, ne_eqb}
use Rattle.sums.specs.Sums.{pick}
use Rattle.protocol.specs.Phases.{letter}
use Rattle.protocol.specs.Searches.{put₂}
use Rattle.protocol.specs.Statements.{Letter}
use Rattle.protocol.proofs.Puts.{put_each, put₂_same, put₂_other, apart_left, apart_right}
use Rattle.protocol_world.specs.Runs.{with_bringing}
use Rattle.protocol_world.specs.Worlds.{World, after}
use Rattle.protocol_world.proofs.Invariant.{came, queue}

pub came_same : (a : ℕ) (l : Letter) → came a (Some (letter a l)) ≡ l ∷ []
came_same a l = ap (λ t. pick t (l ∷ []) []) (eq-eqb a a refl)

pub came_other : (a b : ℕ) (l : Letter) → (b ≡ a → ⊥) → came b (Some (letter a l)) ≡ []
came_other a b l ne = ap (λ t. pick t (l ∷ []) []) (ne_eqb a b (λ q. ne (sym q)))

module _ (w : World) (j i : ℕ) (l : Letter) (ls : List Letter) (here : w.wire i j ≡ l ∷ ls) (rests : (w.node j).pending ≡ None) where
  to_it : (a : ℕ) → came a (Some (letter i l)) ++ put₂ w.wire i j ls a j ≡ queue w a j
  to_it a = ⊎_elim
      (λ (e : a ≡ i). subst (λ k. came k (Some (letter i l)) ++ put₂ w.wire i j ls k j ≡ queue w k j) (sym e)
      (ap₂ (λ p q. p ++ q) (came_same i l) (put₂_same w.wire i j ls) ∙ sym (ap (λ ev. came i ev ++ w.wire i j) rests ∙ here)))
      (λ ne. ap₂ (λ p q. p ++ q) (came_other i a l ne) (put₂_other w.wire i j ls a j (apart_left i j a j ne)) ∙ sym (ap (λ ev. came a ev ++ w.wire a j) rests))
      (cases_eq a i)

  pub bring_queue : (a b : ℕ) → queue (with_bringing w i j l ls) a b ≡ queue w a b
  bring_queue a b = put_each w.node j (after (w.node j) (w.node j).phase (w.node j).memory (Some (letter i l)))
      (λ b y. came a y.pending ++ put₂ w.wire i j ls a b ≡ queue w a b)
      (to_it a) (λ b ne. ap (λ q. came a (w.node b).pending ++ q) (put₂_other w.wire i j ls a b (apart_right i j a b ne))) b
