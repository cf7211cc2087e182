-- Items that more is added to.
use Rattle.std.proofs.Common.{◌≡◌, true, List, [], ◌∷◌, ◌++◌, sym, ap, ◌∙◌, subst, append_assoc, append-nil}
use Rattle.sums.proofs.Everys.{every_last}
use Rattle.machine.specs.Run as run
use Rattle.river.specs.declared.model.Item.{Item}
use Rattle.world.specs.Rounds.{written_out}
use Rattle.play.specs.Plays.{unrolled, is_plain}
use Rattle.play.specs.Courses.{Grown}
use Rattle.play.proofs.Unrolling.{unrolled_one}

pub grown_none : (old : List Item) → Grown old [] old
grown_none old = record { same = sym (append-nil (unrolled old)); plain = λ h. h }

pub grown_one : (old : List Item) (it : Item) → is_plain it ≡ true → Grown old (written_out it) (old ++ it ∷ [])
grown_one old it e = record { same = unrolled_one old it; plain = λ h. every_last is_plain old it h e }

pub grown_both : (a b c : List Item) (x y : List run.Item) → Grown a x b → Grown b y c → Grown a (x ++ y) c
grown_both a b c x y g h = record {
  same = h.same ∙ ap (λ l. l ++ y) g.same ∙ append_assoc (unrolled a) x y;
  plain = λ p. h.plain (g.plain p);
}

-- two items more
pub grown_two : (a b c : List Item) (p q : Item) → b ≡ a ++ p ∷ [] → c ≡ b ++ q ∷ [] → is_plain p ≡ true → is_plain q ≡ true →
    Grown a (written_out p ++ written_out q) c
grown_two a b c p q e f h k =
    grown_both a b c (written_out p) (written_out q) (subst (Grown a (written_out p)) (sym e) (grown_one a p h)) (subst (Grown b (written_out q)) (sym f) (grown_one b q k))
