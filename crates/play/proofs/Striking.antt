-- Where a stroke is put in, and where none can be.
use Rattle.std.proofs.Common.{◌≡◌, ℕ, true, List, [], ◌∷◌, ◌++◌, refl, ap}
use Rattle.river.specs.declared.model.Item.{Item}
use Rattle.river.specs.declared.model.Item.TheVariants.{Works, Poke, Brings, Falls, Calm}
use Rattle.play.specs.Plays.{is_plain}
use Rattle.play.specs.Courses.{strokes}

pub plain_unless : (it : Item) → ((k n : ℕ) → it ≡ Calm k n → ⊥) → is_plain it ≡ true
plain_unless (Works i n) h = refl
plain_unless (Poke i) h = refl
plain_unless (Brings i j) h = refl
plain_unless (Falls i) h = refl
plain_unless (Calm k n) h = absurd (h k n refl)

pub strokes_more : (i : ℕ) (ts : List ℕ) (t : ℕ) → strokes i (ts ++ t ∷ []) ≡ (strokes i ts ++ Works i t ∷ []) ++ Falls i ∷ []
unfolding strokes
strokes_more i [] t = refl
strokes_more i (u ∷ ts) t = ap (λ l. Works i u ∷ Falls i ∷ l) (strokes_more i ts t)
