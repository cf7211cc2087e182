-- Letters come in order, drawers outlive a fall, and what was told stays told. For any engine.
use Rattle.std.proofs.Common.{◌≡◌, ℕ, Bool, true, false, ◌&&◌, eqb, List, [], ◌∷◌, ◌++◌, sym, refl, ap, ◌∙◌, append_assoc, append-nil}
use Rattle.std.proofs.lemmas.Bool.{eqb-true, and_parts, and_from, eq-eqb, both_ways}
use Rattle.sums.specs.Sums.{those, each, Gauges, ToldSum}
use Rattle.machine.specs.Run.{Engine, World, Machine, machine_at, set_nth, Event, Letter, first_between, without_first, is_between, one_step}
use Rattle.promise.specs.Promise.{InOrder, Outlives, NeverBack, texts_between, first_text}
use Rattle.promise.proofs.Induction.{Keeps, happened_good}
use Rattle.promise.proofs.Machines.{at_set_all}
use Rattle.promise.proofs.Acts.{on_any, on_poked, on_delivered}

module _ (i j : ℕ) where
  first_comes : (ls : List Letter) → texts_between i j ls ≡ first_text (first_between i j ls) ++ texts_between i j (without_first i j ls)
  unfolding texts_between first_text first_between without_first each those
  first_comes [] = refl
  first_comes (l ∷ ls) = go (is_between i j l) refl (first_comes ls)
    where
      go : (b : Bool) → is_between i j l ≡ b → texts_between i j ls ≡ first_text (first_between i j ls) ++ texts_between i j (without_first i j ls) →
          texts_between i j (l ∷ ls) ≡ first_text (first_between i j (l ∷ ls)) ++ texts_between i j (without_first i j (l ∷ ls))
      go true e h = rw e
      go false e h = simp e h

module _ (i j a b : ℕ) (apart : eqb a i && eqb b j ≡ false) where
  not_both : (l : Letter) → is_between i j l ≡ true → is_between a b l ≡ false
  not_both l e = go (is_between a b l) refl
    where
      go : (t : Bool) → is_between a b l ≡ t → is_between a b l ≡ false
      go false q = q
      go true q =
          let p1 : a ≡ i = sym (eqb-true _ _ (and_parts _ _ q).0) ∙ eqb-true _ _ (and_parts _ _ e).0 in
          let p2 : b ≡ j = sym (eqb-true _ _ (and_parts _ _ q).1) ∙ eqb-true _ _ (and_parts _ _ e).1 in
          absurd (both_ways _ apart (and_from _ _ (eq-eqb a i p1) (eq-eqb b j p2)))

  others_stay : (ls : List Letter) → those (is_between a b) (without_first i j ls) ≡ those (is_between a b) ls
  unfolding without_first those
  others_stay [] = refl
  others_stay (l ∷ ls) = go (is_between i j l) refl (others_stay ls)
    where
      go : (t : Bool) → is_between i j l ≡ t → those (is_between a b) (without_first i j ls) ≡ those (is_between a b) ls →
          those (is_between a b) (without_first i j (l ∷ ls)) ≡ those (is_between a b) (l ∷ ls)
      go true e h = simp (e, not_both l e)
      go false e h = simp (e, h)

pub in_order : InOrder
unfolding InOrder texts_between
in_order i j a b ls = (first_comes i j ls, λ apart. ap (each (λ l. l.text)) (others_stay i j a b apart ls))

-- a field that the new machine has as the old one had it
field_kept : {A : Type 0} (f : Machine → A) (ms : List Machine) (i j : ℕ) (x : Machine) → f x ≡ f (machine_at ms i) →
    f (machine_at (set_nth ms i x) j) ≡ f (machine_at ms j)
field_kept f ms i j x e = at_set_all ms i j x (λ m. f m ≡ f (machine_at ms j)) (λ q. e ∙ ap (λ k. f (machine_at ms k)) q) refl

pub outlives : Outlives
unfolding Outlives
outlives e gs w i j h = (field_kept (λ m. m.slots) w.machines i j _ refl, field_kept (λ m. m.gone) w.machines i j _ refl, refl)

module _ (e : Engine) (gs : Gauges) (told₀ : List ToldSum) where
  abbrev GoesOn : World → Type 0
  GoesOn w = (extra : List ToldSum) × (w.told ≡ told₀ ++ extra)

  step_adds : (w : World) (i : ℕ) (evs : List Event) → GoesOn w → GoesOn (one_step e gs w i evs)
  unfolding one_step
  step_adds w i [] g = g
  step_adds w i (ev ∷ evs) g =
      on_any gs w i _ GoesOn _ (λ _. g) (λ _ _. g) (λ _ t. (_, ap (λ ts. ts ++ t ∷ []) g.1 ∙ append_assoc told₀ g.0 _)) g

  keeps_told : Keeps e gs GoesOn
  keeps_told = record {
    steps = λ w i h g. step_adds w i _ g;
    pokes = λ w i g. on_poked w GoesOn i (λ _. g) (λ _. g);
    delivers = λ w i j g. on_delivered w GoesOn i j (λ _ _ _ _. g) (λ _. g) (λ _. g);
    falls_down = λ w i g. g;
  }

pub never_back : NeverBack
unfolding NeverBack
never_back e gs w it = happened_good e gs (GoesOn e gs w.told) (keeps_told e gs w.told) w it ([], sym (append-nil w.told))
