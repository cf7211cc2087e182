-- What an act does, at the machine that stands for a hut.
use Rattle.std.proofs.Common.{◌≡◌, ℕ, zero, suc, ◌+◌, ◌-◌, ◌<◌, ◌≤◌, Bool, true, false, ◌&&◌, leb, ◌⊎◌, List, [], ◌∷◌, length, get_or, drop, ◌∙◌, sym, refl, ap, inl, inr, arith}
use Rattle.std.proofs.lemmas.Bool.{lt-ltb, le-ltb, le-leb, lt-leb, eq-eqb, ne_eqb}
use Rattle.sums.specs.Sums as given
use Rattle.sums.specs.declared.reading.Reading.{Reading}
use Rattle.sums.specs.Readings.{as_reading, as_row}
use Rattle.sums.proofs.Eaches.{length_each}
use Rattle.machine.specs.Run as run
use Rattle.machine.specs.Run.{machine, machine_at, set_nth, nth_row, acted, more, from, let_go, sends, keep, recall, tells, rests, next, comes, ends, later, slot, bytes, first_reading}
use Rattle.rows.specs.declared.Row.{Row}
use Rattle.hut.specs.declared.effect.Effect.TheVariants.{Asked, Sought, Released, Sent, Kept, Recalled, Told, Rested, Fault}
use Rattle.hut.specs.declared.text.Text.{Text}
use Rattle.hut.specs.Effects.{Did}
use Rattle.hut.proofs.Eaches.{reading_at}
use Rattle.hut.specs.Played.{told_next, as_text}

-- where readings may come from, and what may be released
abbrev pub from_good : run.Machine → ℕ → Bool
from_good x p = leb x.gone p && leb p (x.gone + 4096)

abbrev pub release_good : run.Machine → ℕ → Bool
release_good x p = leb x.gone p && leb p x.reads_at

-- the next reading, that there is none, or that the roll is full
module _ (row : List Reading) (i : ℕ) (x : run.Machine) (m : List ℕ) where
  pub did_end : length row ≤ x.reads_at → Did (as_row row) i x m more (told_next x m (ends ∷ [])) Asked
  unfolding acted
  did_end le =
      let past : length (as_row row) ≤ x.reads_at = rw (length_each as_reading row) le in
      (λ gs w is_row is. rw (is_row, is, le-leb _ _ past), (refl, refl), inr refl)

  module _ (lt : x.reads_at < length row) where
    inside : x.reads_at < length (as_row row)
    inside = rw (length_each as_reading row) lt

    pub did_wait : 4096 ≤ x.reads_at - x.gone → Did (as_row row) i x m more (told_next x m (later ∷ [])) Asked
    unfolding acted
    did_wait full =
        let on : x.gone + 4096 ≤ x.reads_at = omega arith in
        (λ gs w is_row is. rw (is_row, is, lt-leb _ _ inside, le-ltb _ _ on), (refl, refl), inr refl)

    pub did_read : (r : Reading) → r ≡ get_or row x.reads_at r → x.reads_at - x.gone < 4096 →
        Did (as_row row) i x m more (machine m (comes r.time r.place r.value ∷ []) (x.reads_at + 1) x.gone x.slots) Asked
    unfolding acted
    did_read r at room =
        let on : x.reads_at < x.gone + 4096 = omega arith in
        let s : x.reads_at + 1 ≡ suc x.reads_at = omega arith in
        let e : comes r.time r.place r.value ≡ first_reading (drop x.reads_at (as_row row)) = ap (λ q. comes q.time q.place q.value) at ∙ sym (reading_at row x.reads_at r lt) in
        (λ gs w is_row is. rw (is_row, is, lt-leb _ _ inside, lt-ltb _ _ on, s, e), (refl, refl), inr refl)

-- a drawer that was set to a text has that text
set_found : (xs : List (List ℕ)) (d : ℕ) (t : List ℕ) → set_nth xs d (nth_row (set_nth xs d t) d) ≡ set_nth xs d t
unfolding set_nth nth_row
set_found [] d t = refl
set_found (x ∷ xs) zero t = refl
set_found (x ∷ xs) (suc d) t = ap (λ l. x ∷ l) (set_found xs d t)

module _ (rs : List given.Reading) (i : ℕ) (x : run.Machine) (m : List ℕ) where
  -- where it may not be, and so nothing is done
  pub wrong_from : (p : ℕ) → from_good x p ≡ false → Did rs i x m (from p) x Fault
  unfolding acted
  wrong_from p bad = (λ gs w row is. rw (is, bad), refl, inl refl)

  pub wrong_let_go : (p : ℕ) → release_good x p ≡ false → Did rs i x m (let_go p) x Fault
  unfolding acted
  wrong_let_go p bad = (λ gs w row is. rw (is, bad), refl, inl refl)

  pub wrong_sends : (j : ℕ) (bs : List ℕ) → (8 ≤ j) ⊎ ((j < 8) × (j ≡ i)) → Did rs i x m (sends j bs) x Fault
  unfolding acted
  wrong_sends j bs (inl high) = (λ gs w row is. rw (le-ltb j 8 high), refl, inl refl)
  wrong_sends j bs (inr same) = (λ gs w row is. rw (lt-ltb j 8 same.0, eq-eqb i j (sym same.1)), refl, inl refl)

  pub wrong_keep : (d : ℕ) (bs : List ℕ) → 256 ≤ d → Did rs i x m (keep d bs) x Fault
  unfolding acted
  wrong_keep d bs high = (λ gs w row is. rw (le-ltb d 256 high), refl, inl refl)

  pub wrong_recall : (d : ℕ) → 256 ≤ d → Did rs i x m (recall d) x Fault
  unfolding acted
  wrong_recall d high = (λ gs w row is. rw (le-ltb d 256 high), refl, inl refl)

  module _ (x₁ : run.Machine) where
    pub did_from : (p : ℕ) → from_good x p ≡ true → x₁ ≡ machine m (next ∷ []) p x.gone x.slots → Did rs i x m (from p) x₁ (Sought p)
    unfolding acted
    did_from p good e = rw e (λ gs w row is. rw (is, good), (refl, refl), inr refl)

    pub did_let_go : (p : ℕ) → release_good x p ≡ true → x₁ ≡ machine m (next ∷ []) x.reads_at p x.slots → Did rs i x m (let_go p) x₁ (Released p)
    unfolding acted
    did_let_go p good e = rw e (λ gs w row is. rw (is, good), (refl, refl), inr refl)

    pub did_sends : (j : ℕ) (t : Text) (bs : List ℕ) → as_text t ≡ bs → j < 8 → (j ≡ i → ⊥) → x₁ ≡ told_next x m (next ∷ []) → Did rs i x m (sends j bs) x₁ (Sent j t)
    unfolding acted
    did_sends j t bs text low apart e =
        let other : i ≡ j → ⊥ = λ q. apart (sym q) in
        rw (e, ← text) (λ gs w row is. rw (is, lt-ltb j 8 low, ne_eqb i j other, t.fits), (refl, refl), inr (t, refl))

    pub did_keep : (d : ℕ) (t : Text) (bs : List ℕ) (ss : List (List ℕ)) → as_text t ≡ bs → d < 256 → ss ≡ set_nth x.slots d (as_text t) →
        x₁ ≡ machine m (next ∷ []) x.reads_at x.gone ss → Did rs i x m (keep d bs) x₁ (Kept d)
    unfolding acted
    did_keep d t bs ss text low put e =
        rw (e, put, ← text) (λ gs w row is. rw (is, lt-ltb d 256 low, t.fits), (refl, sym (set_found x.slots d (as_text t))), inr refl)

    pub did_recall : (d : ℕ) (bs : List ℕ) → bs ≡ nth_row x.slots d → d < 256 → x₁ ≡ told_next x m (slot bs ∷ []) → Did rs i x m (recall d) x₁ (Recalled d)
    unfolding acted
    did_recall d bs had low e = rw (e, had) (λ gs w row is. rw (is, lt-ltb d 256 low), (refl, refl), inr refl)

    pub did_tells : (r : Row) → x₁ ≡ told_next x m (next ∷ []) → Did rs i x m (tells r.hour r.place r.sum) x₁ (Told r)
    unfolding acted
    did_tells r e = rw e (λ gs w row is. rw is, (refl, refl), inr (r, refl))

    pub did_rest : x₁ ≡ told_next x m [] → Did rs i x m rests x₁ Rested
    unfolding acted
    did_rest e = rw e (λ gs w row is. rw is, (refl, refl), inr refl)

    pub did_more : (y : run.Machine) → x₁ ≡ y → Did rs i x m more y Asked → Did rs i x m more x₁ Asked
    did_more y e did = rw e did
