-- A river written out goes as the river does.
use Rattle.std.proofs.Common.{◌≡◌, ℕ, ◌+◌, ◌<◌, List, [], ◌∷◌, ◌++◌, length, get_or, take, sym, refl, ap, ◌∙◌, subst, append_assoc, append-nil}
use Rattle.std.proofs.lemmas.List.{take_more}
use Rattle.sums.specs.Sums.{Gauges}
use Rattle.machine.specs.Run as run
use Rattle.river.specs.declared.model.Item.{Item}
use Rattle.world.specs.Worlds.{Passed}
use Rattle.world.specs.Rounds.{written_out}
use Rattle.world.proofs.Tallying.{passed_both}
use Rattle.play.specs.Plays.{unrolled}

pub unrolled_append : (xs ys : List Item) → unrolled (xs ++ ys) ≡ unrolled xs ++ unrolled ys
unfolding unrolled
unrolled_append [] ys = refl
unrolled_append (x ∷ xs) ys = ap (λ l. written_out x ++ l) (unrolled_append xs ys) ∙ sym (append_assoc (written_out x) (unrolled xs) (unrolled ys))

pub unrolled_one : (xs : List Item) (x : Item) → unrolled (xs ++ x ∷ []) ≡ unrolled xs ++ written_out x
unfolding unrolled
unrolled_one xs x = unrolled_append xs (x ∷ []) ∙ ap (λ l. unrolled xs ++ l) (append-nil (written_out x))

-- one item more
pub passed_more : (gs : Gauges) (w : run.World) (cs : List ℕ) (w₁ w₂ : run.World) (cs₁ cs₂ : List ℕ) (its : List Item) (i : ℕ) (d : Item) → i < length its →
    Passed gs w cs (unrolled (take i its)) w₁ cs₁ → Passed gs w₁ cs₁ (written_out (get_or its i d)) w₂ cs₂ → Passed gs w cs (unrolled (take (i + 1) its)) w₂ cs₂
passed_more gs w cs w₁ w₂ cs₁ cs₂ its i d lt p q =
    subst (λ l. Passed gs w cs l w₂ cs₂) (sym (ap unrolled (take_more its i d lt) ∙ unrolled_one (take i its) (get_or its i d))) (passed_both gs w w₁ w₂ cs cs₁ cs₂ _ _ p q)
