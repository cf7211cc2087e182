-- A log says how many rows are told again: no more than there are strikes just after a telling, since each strike follows the telling of one row. Of any lists.
use Rattle.std.proofs.Common.{◌≡◌, ℕ, suc, ◌+◌, ◌≤◌, Bool, true, false, ◌&&◌, eqb, List, [], ◌∷◌, ◌++◌, length, sym, refl, ap, ap₂, ◌∙◌, arith}
use Rattle.std.proofs.lemmas.Bool.{and_parts, and_from, eqb-true, eq-eqb, ne_eqb}
use Rattle.sums.specs.Again.{again_after, told_again, times_told}
use Rattle.sums.specs.Sums.{pick, or, any, ToldSum, has_told}
use Rattle.sums.proofs.Picks.{pick_both}
use Rattle.machine.specs.Log.{is_telling, Mark, did, struck, has_just_told, struck_telling}
use Rattle.machine.specs.Run.{Act, more, from, let_go, sends, keep, recall, tells, rests}

abbrev one : Bool → ℕ
one b = pick b 1 0

abbrev is_row : ToldSum → (h k : ℕ) → Bool
is_row t h k = eqb t.hour h && eqb t.place k

-- ROWS IN LISTS
-- without the first that is the row
unfoldable without : (h k : ℕ) → List ToldSum → List ToldSum
without h k [] = []
without h k (t ∷ ts) = pick (is_row t h k) ts (t ∷ without h k ts)

any_after : (p : ToldSum → Bool) (ts : List ToldSum) (t : ToldSum) → any p (ts ++ t ∷ []) ≡ or (any p ts) (p t)
unfolding any
any_after p [] t = on (p t)
  where
    on : (b : Bool) → or b false ≡ b
    on true = refl
    on false = refl
any_after p (u ∷ ts) t = on (p u) (any_after p ts t)
  where
    on : (b : Bool) → any p (ts ++ t ∷ []) ≡ or (any p ts) (p t) → or b (any p (ts ++ t ∷ [])) ≡ or (or b (any p ts)) (p t)
    on true e = refl
    on false e = e

without_length : (h k : ℕ) (ts : List ToldSum) → 1 ≤ times_told h k ts → length ts ≡ suc (length (without h k ts))
unfolding times_told without
without_length h k [] some = absurd (omega arith)
without_length h k (t ∷ ts) some = on (is_row t h k) some (without_length h k ts)
  where
    on : (b : Bool) → 1 ≤ pick b 1 0 + times_told h k ts → (1 ≤ times_told h k ts → length ts ≡ suc (length (without h k ts))) →
        suc (length ts) ≡ suc (length (pick b ts (t ∷ without h k ts)))
    on true s e = refl
    on false s e = ap suc (e (omega (arith, s)))

same_row : (t : ToldSum) (h k g p : ℕ) → is_row t h k ≡ true → is_row t g p ≡ eqb h g && eqb k p
same_row t h k g p e =
    let both = and_parts (eqb t.hour h) (eqb t.place k) e in
    ap₂ (λ a b. eqb a g && eqb b p) (eqb-true t.hour h both.0) (eqb-true t.place k both.1)

without_times : (h k : ℕ) (ts : List ToldSum) → 1 ≤ times_told h k ts → (g p : ℕ) →
    times_told g p ts ≡ pick (eqb h g && eqb k p) 1 0 + times_told g p (without h k ts)
unfolding times_told without
without_times h k [] some g p = absurd (omega arith)
without_times h k (t ∷ ts) some g p = on (is_row t h k) refl some (λ l. without_times h k ts l g p)
  where
    on : (b : Bool) → is_row t h k ≡ b → 1 ≤ pick b 1 0 + times_told h k ts →
        (1 ≤ times_told h k ts → times_told g p ts ≡ pick (eqb h g && eqb k p) 1 0 + times_told g p (without h k ts)) →
        pick (is_row t g p) 1 0 + times_told g p ts ≡ pick (eqb h g && eqb k p) 1 0 + times_told g p (pick b ts (t ∷ without h k ts))
    on true q s e = ap (λ b. one b + times_told g p ts) (same_row t h k g p q)
    on false q s e = let r = e (omega (arith, s)) in omega (arith, r)

-- where each row is in ts once more at most than in cs, and not even that if it was before, as many are told again as cs has
or_none : (b : Bool) → or b false ≡ b
or_none true = refl
or_none false = refl

one_most : (b : Bool) → one b ≤ 1
one_most true = omega arith
one_most false = omega arith

abbrev Few : (before ts cs : List ToldSum) → Type 0
Few before ts cs = (h k : ℕ) → times_told h k ts + one (has_told before h k) ≤ suc (times_told h k cs)

again_few : (before ts cs : List ToldSum) → Few before ts cs → again_after before ts ≤ length cs
unfolding again_after times_told
again_few before [] cs few = omega arith
again_few before (t ∷ ts) cs few = on (has_told before t.hour t.place) refl (again_few (before ++ t ∷ []) ts)
  where
    here : one (is_row t t.hour t.place) ≡ 1
    here = ap one (and_from (eqb t.hour t.hour) (eqb t.place t.place) (eq-eqb t.hour t.hour refl) (eq-eqb t.place t.place refl))

    -- of another row as many were told before as are now
    other : (h k : ℕ) → is_row t h k ≡ false → one (has_told (before ++ t ∷ []) h k) ≡ one (has_told before h k)
    other h k e = ap one (any_after (λ u. is_row u h k) before t ∙ ap (or (has_told before h k)) e ∙ or_none (has_told before h k))

    at : (h k : ℕ) → is_row t h k ≡ true → has_told before h k ≡ has_told before t.hour t.place
    at h k e =
        let both = and_parts (eqb t.hour h) (eqb t.place k) e in
        ap₂ (λ a b. has_told before a b) (sym (eqb-true t.hour h both.0)) (sym (eqb-true t.place k both.1))

    -- told again: one of cs stands for it
    again : has_told before t.hour t.place ≡ true → 1 ≤ times_told t.hour t.place cs → (h k : ℕ) (b : Bool) → is_row t h k ≡ b →
        times_told h k ts + one (has_told (before ++ t ∷ []) h k) ≤ suc (times_told h k (without t.hour t.place cs))
    again q some h k true e =
        let o₁ : one (has_told before h k) ≡ 1 = ap one (at h k e ∙ q) in
        let o₃ : one (is_row t h k) ≡ 1 = ap one e in
        omega (arith, few h k, o₁, one_most (has_told (before ++ t ∷ []) h k), o₃, without_times t.hour t.place cs some h k)
    again q some h k false e = let o₃ : one (is_row t h k) ≡ 0 = ap one e in omega (arith, few h k, other h k e, o₃, without_times t.hour t.place cs some h k)

    anew : has_told before t.hour t.place ≡ false → (h k : ℕ) (b : Bool) → is_row t h k ≡ b →
        times_told h k ts + one (has_told (before ++ t ∷ []) h k) ≤ suc (times_told h k cs)
    anew q h k true e =
        let o₁ : one (has_told before h k) ≡ 0 = ap one (at h k e ∙ q) in
        let o₃ : one (is_row t h k) ≡ 1 = ap one e in
        omega (arith, few h k, o₁, one_most (has_told (before ++ t ∷ []) h k), o₃)
    anew q h k false e = let o₃ : one (is_row t h k) ≡ 0 = ap one e in omega (arith, few h k, other h k e, o₃)

    on : (b : Bool) → has_told before t.hour t.place ≡ b → ((ds : List ToldSum) → Few (before ++ t ∷ []) ts ds →
        again_after (before ++ t ∷ []) ts ≤ length ds) → pick b 1 0 + again_after (before ++ t ∷ []) ts ≤ length cs
    on true q rest =
        let old : one (has_told before t.hour t.place) ≡ 1 = ap one q in
        let some : 1 ≤ times_told t.hour t.place cs = omega (arith, few t.hour t.place, here, old) in
        omega (arith, rest (without t.hour t.place cs) (λ h k. again q some h k (is_row t h k) refl), without_length t.hour t.place cs some)
    on false q rest = let few_left = rest cs (λ h k. anew q h k (is_row t h k) refl) in omega (arith, few_left)

-- THE ROWS THAT STROKES STAND FOR
abbrev row_told : Act → List ToldSum
row_told (tells g p s) = record { hour = g; place = p; sum = s } ∷ []
row_told a = []

unfoldable pub last_row : (i : ℕ) → List Mark → List ToldSum
last_row i [] = []
last_row i (did j a ∷ log) = pick (eqb i j) (row_told a) (last_row i log)
last_row i (struck j ∷ log) = pick (eqb i j) [] (last_row i log)

unfoldable pub charged : List Mark → List ToldSum
charged [] = []
charged (did i a ∷ log) = charged log
charged (struck i ∷ log) = last_row i log ++ charged log

-- what another does leaves it
pub last_other : (i j : ℕ) (a : Act) (log : List Mark) → (j ≡ i → ⊥) → last_row j (did i a ∷ log) ≡ last_row j log
unfolding last_row
last_other i j a log ne = ap (λ b. pick b (row_told a) (last_row j log)) (ne_eqb j i ne)

row_times : (h k : ℕ) (a : Act) → times_told h k (row_told a) ≡ one (is_telling h k a)
unfolding times_told
row_times h k more = refl
row_times h k (from p) = refl
row_times h k (let_go p) = refl
row_times h k (sends j bs) = refl
row_times h k (keep d bs) = refl
row_times h k (recall d) = refl
row_times h k (tells g p s) = omega arith
row_times h k rests = refl

last_times : (h k i : ℕ) (log : List Mark) → times_told h k (last_row i log) ≡ one (has_just_told h k i log)
unfolding times_told last_row has_just_told
last_times h k i [] = refl
last_times h k i (did j a ∷ log) = on (eqb i j) (last_times h k i log)
  where
    on : (b : Bool) → times_told h k (last_row i log) ≡ one (has_just_told h k i log) →
        times_told h k (pick b (row_told a) (last_row i log)) ≡ one (pick b (is_telling h k a) (has_just_told h k i log))
    on true e = row_times h k a
    on false e = e
last_times h k i (struck j ∷ log) = on (eqb i j) (last_times h k i log)
  where
    on : (b : Bool) → times_told h k (last_row i log) ≡ one (has_just_told h k i log) →
        times_told h k (pick b [] (last_row i log)) ≡ one (pick b false (has_just_told h k i log))
    on true e = refl
    on false e = e

times_both : (h k : ℕ) (ts us : List ToldSum) → times_told h k (ts ++ us) ≡ times_told h k ts + times_told h k us
unfolding times_told
times_both h k [] us = omega arith
times_both h k (t ∷ ts) us = omega (arith, times_both h k ts us)

charged_times : (h k : ℕ) (log : List Mark) → times_told h k (charged log) ≡ struck_telling h k log
unfolding times_told charged struck_telling
charged_times h k [] = refl
charged_times h k (did i a ∷ log) = charged_times h k log
charged_times h k (struck i ∷ log) = omega (arith, times_both h k (last_row i log) (charged log), last_times h k i log, charged_times h k log)

-- so the exact bound of each row gives that of all rows together
pub told_again_few : (ts : List ToldSum) (log : List Mark) → ((h k : ℕ) → times_told h k ts ≤ 1 + struck_telling h k log) → told_again ts ≤ length (charged log)
unfolding any
told_again_few ts log few = again_few [] ts (charged log) (λ h k. omega (arith, few h k, charged_times h k log))

-- at most one for each strike
last_length : (i : ℕ) (log : List Mark) → length (last_row i log) ≤ 1
unfolding last_row
last_length i [] = omega arith
last_length i (did j a ∷ log) = pick_both (eqb i j) (row_told a) (last_row i log) (λ ts. length ts ≤ 1) (λ _. row_length a) (λ _. last_length i log)
  where
    row_length : (a : Act) → length (row_told a) ≤ 1
    row_length more = omega arith
    row_length (from p) = omega arith
    row_length (let_go p) = omega arith
    row_length (sends j bs) = omega arith
    row_length (keep d bs) = omega arith
    row_length (recall d) = omega arith
    row_length (tells g p s) = omega arith
    row_length rests = omega arith
last_length i (struck j ∷ log) = pick_both (eqb i j) [] (last_row i log) (λ ts. length ts ≤ 1) (λ _. omega arith) (λ _. last_length i log)

pub charged_struck : (i : ℕ) (log : List Mark) → length (charged (struck i ∷ log)) ≤ suc (length (charged log))
unfolding charged
charged_struck i log = omega (arith, length_both (last_row i log) (charged log), last_length i log)
  where
    length_both : (ts us : List ToldSum) → length (ts ++ us) ≡ length ts + length us
    length_both [] us = omega arith
    length_both (t ∷ ts) us = omega (arith, length_both ts us)
