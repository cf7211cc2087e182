-- Letters between two on the given world's wires, as the texts in their order: when one is sent, one comes, and one falls. For any engine.
use Rattle.std.proofs.Common.{◌≡◌, ℕ, Bool, true, false, not, ◌&&◌, eqb, List, [], ◌∷◌, ◌++◌, sym, refl, ap, ◌∙◌, ⊎_elim}
use Rattle.std.proofs.lemmas.Bool.{both_ways, cases_Bool, eqb-true, eq-eqb, and_parts, and_from}
use Rattle.sums.specs.Sums.{pick, or, those, each}
use Rattle.machine.specs.Run.{Letter, first_between, without_first, is_between, touches}
use Rattle.protocol.proofs.Searches.{or_split}
use Rattle.promise.specs.Promise.{texts_between}

abbrev pub letter_of : (a b : ℕ) (t : List ℕ) → Letter
letter_of a b t = record { sender = a; reader = b; text = t }

pub or_none : (a b : Bool) → or a b ≡ false → (a ≡ false) × (b ≡ false)
or_none true b e = absurd (both_ways _ e refl)
or_none false b e = (refl, e)

pub texts_none : (a b : ℕ) → texts_between a b [] ≡ []
unfolding texts_between each those
texts_none a b = refl

-- one is sent
module _ (i j : ℕ) (t : List ℕ) where
  pub texts_sent : (ls : List Letter) → texts_between i j (ls ++ letter_of i j t ∷ []) ≡ texts_between i j ls ++ t ∷ []
  unfolding texts_between each those
  texts_sent [] = ap (λ b. each (λ (l : Letter). l.text) (pick b (letter_of i j t ∷ []) [])) (and_from (eqb i i) (eqb j j) (eq-eqb i i refl) (eq-eqb j j refl))
  texts_sent (l ∷ ls) = go (is_between i j l) (texts_sent ls)
    where
      go : (b : Bool) → texts_between i j (ls ++ letter_of i j t ∷ []) ≡ texts_between i j ls ++ t ∷ [] →
          each (λ (l : Letter). l.text) (pick b (l ∷ those (is_between i j) (ls ++ letter_of i j t ∷ []))
          (those (is_between i j) (ls ++ letter_of i j t ∷ []))) ≡
          each (λ (l : Letter). l.text) (pick b (l ∷ those (is_between i j) ls) (those (is_between i j) ls)) ++ t ∷ []
      go true h = ap (λ ts. l.text ∷ ts) h
      go false h = h

  pub texts_sent_other : (a b : ℕ) → (eqb i a && eqb j b ≡ false) → (ls : List Letter) → texts_between a b (ls ++ letter_of i j t ∷ []) ≡ texts_between a b ls
  unfolding texts_between each those
  texts_sent_other a b ne [] = ap (λ c. each (λ (l : Letter). l.text) (pick c (letter_of i j t ∷ []) [])) ne
  texts_sent_other a b ne (l ∷ ls) = go (is_between a b l) (texts_sent_other a b ne ls)
    where
      go : (c : Bool) → texts_between a b (ls ++ letter_of i j t ∷ []) ≡ texts_between a b ls →
          each (λ (l : Letter). l.text) (pick c (l ∷ those (is_between a b) (ls ++ letter_of i j t ∷ []))
          (those (is_between a b) (ls ++ letter_of i j t ∷ []))) ≡
          each (λ (l : Letter). l.text) (pick c (l ∷ those (is_between a b) ls) (those (is_between a b) ls))
      go true h = ap (λ ts. l.text ∷ ts) h
      go false h = h

-- one comes
module _ (i j : ℕ) where
  abbrev pub FirstSays : List Letter → List Letter → Type 0
  FirstSays ls [] = texts_between i j ls ≡ []
  FirstSays ls (k ∷ ks) = texts_between i j ls ≡ k.text ∷ texts_between i j (without_first i j ls)

  pub first_says : (ls : List Letter) → FirstSays ls (first_between i j ls)
  unfolding first_between without_first texts_between each those
  first_says [] = refl
  first_says (l ∷ ls) = go (is_between i j l) refl (first_says ls)
    where
      past : is_between i j l ≡ false → (fb : List Letter) → FirstSays ls fb → FirstSays (l ∷ ls) fb
      past e [] h = simp e h
      past e (k ∷ ks) h = simp e h

      go : (b : Bool) → is_between i j l ≡ b → FirstSays ls (first_between i j ls) → FirstSays (l ∷ ls) (pick b (l ∷ []) (first_between i j ls))
      go true e h = simp e
      go false e h = past e (first_between i j ls) h

-- one falls
module _ (i a b : ℕ) where
  kept : (l : Letter) (xs ys : List Letter) → texts_between a b xs ≡ texts_between a b ys → texts_between a b (l ∷ xs) ≡ texts_between a b (l ∷ ys)
  unfolding texts_between each those
  kept l xs ys h = go (is_between a b l)
    where
      go : (t : Bool) → each (λ (l : Letter). l.text) (pick t (l ∷ those (is_between a b) xs) (those (is_between a b) xs)) ≡ each
          (λ (l : Letter). l.text) (pick t (l ∷ those (is_between a b) ys) (those (is_between a b) ys))
      go true = ap (λ ts. l.text ∷ ts) h
      go false = h

  dropped : (l : Letter) (xs : List Letter) → is_between a b l ≡ false → texts_between a b (l ∷ xs) ≡ texts_between a b xs
  unfolding texts_between each those
  dropped l xs e = simp e

  not_between : (l : Letter) → (a ≡ i → ⊥) → (b ≡ i → ⊥) → touches i l ≡ true → is_between a b l ≡ false
  not_between l na nb t = ⊎_elim
      (λ e. let both = and_parts (eqb l.sender a) (eqb l.reader b) e in
      ⊎_elim (λ q. absurd (na (sym (eqb-true l.sender a both.0) ∙ eqb-true l.sender i q)))
      (λ q. absurd (nb (sym (eqb-true l.reader b both.1) ∙ eqb-true l.reader i q)))
      (or_split (eqb l.sender i) (eqb l.reader i) t))
      (λ e. e) (cases_Bool (is_between a b l))

  pub texts_fallen : (a ≡ i → ⊥) → (b ≡ i → ⊥) → (ls : List Letter) → texts_between a b (those (λ l. not (touches i l)) ls) ≡ texts_between a b ls
  unfolding those
  texts_fallen na nb [] = refl
  texts_fallen na nb (l ∷ ls) = go (touches i l) refl (texts_fallen na nb ls)
    where
      go : (t : Bool) → touches i l ≡ t → texts_between a b (those (λ l. not (touches i l)) ls) ≡ texts_between a b ls →
          texts_between a b (pick (not t) (l ∷ those (λ l. not (touches i l)) ls) (those (λ l. not (touches i l)) ls)) ≡ texts_between a b (l ∷ ls)
      go true e h = h ∙ sym (dropped l ls (not_between l na nb e))
      go false e h = kept l _ ls h

  pub texts_gone : or (eqb a i) (eqb b i) ≡ true → (ls : List Letter) → texts_between a b (those (λ l. not (touches i l)) ls) ≡ []
  unfolding those
  texts_gone e [] = nothing_there
    where
      nothing_there : texts_between a b [] ≡ []
      nothing_there = texts_none a b
  texts_gone e (l ∷ ls) = go (touches i l) refl (texts_gone e ls)
    where
      apart : touches i l ≡ false → is_between a b l ≡ false
      apart t = ⊎_elim
          (λ q. let both = and_parts (eqb l.sender a) (eqb l.reader b) q in
          let no_s : eqb l.sender i ≡ false = (or_none (eqb l.sender i) (eqb l.reader i) t).0 in
          let no_r : eqb l.reader i ≡ false = (or_none (eqb l.sender i) (eqb l.reader i) t).1 in
          ⊎_elim
          (λ x. absurd (both_ways _ no_s (ap (λ n. eqb n i) (eqb-true l.sender a both.0) ∙ x)))
          (λ x. absurd (both_ways _ no_r (ap (λ n. eqb n i) (eqb-true l.reader b both.1) ∙ x)))
          (or_split (eqb a i) (eqb b i) e))
          (λ q. q) (cases_Bool (is_between a b l))

      go : (t : Bool) → touches i l ≡ t → texts_between a b (those (λ l. not (touches i l)) ls) ≡ [] →
          texts_between a b (pick (not t) (l ∷ those (λ l. not (touches i l)) ls) (those (λ l. not (touches i l)) ls)) ≡ []
      go true q h = h
      go false q h = dropped l _ (apart q) ∙ h
