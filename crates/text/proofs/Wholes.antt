-- The lines that have their ends. Assumes nothing.
use Rattle.std.proofs.Common.{◌≡◌, ℕ, zero, suc, ◌+◌, ◌-◌, ◌<◌, ◌≤◌, Bool, true, false, cond, not, eqb, ltb, List, [], ◌∷◌, length, get_or, take, drop, refl, ap, ◌∙◌, sym, arith}
use Rattle.std.proofs.lemmas.Grind.{common_steps}
use Rattle.text.specs.Text.{Bytes, lines, in_front, in_front_of_first, whole_lines}

-- no line ends from place n on
abbrev pub NoEndFrom : Bytes → ℕ → Type 0
NoEndFrom bs n = (k : ℕ) → n ≤ k → k < length bs → eqb (get_or bs k 0) 10 ≡ false

pub none_behind : (bs : Bytes) (n : ℕ) → NoEndFrom bs n → whole_lines (drop n bs) ≡ []
unfolding whole_lines
none_behind [] zero h = refl
none_behind [] (suc n) h = refl
none_behind (b ∷ bs) zero h = let first = h 0 (omega arith) (omega arith) in let more = none_behind bs zero (λ k l m. h (suc k) (omega arith) (omega (arith, m))) in grind (arith, common_steps)
none_behind (b ∷ bs) (suc n) h = none_behind bs n (λ k l m. h (suc k) (omega (arith, l)) (omega (arith, m)))

some : (c : ℕ) (cs : Bytes) → 0 < length (lines (c ∷ cs))
unfolding lines
some c cs = go (eqb c 10) (lines cs)
  where
    go : (a : Bool) (ls : List Bytes) → 0 < length (cond a ([] ∷ ls) (in_front c ls))
    go true ls = omega arith
    go false [] = omega arith
    go false (l ∷ ls) = omega arith

-- the first n bytes end with a line's end, and no line ends behind them
pub wholes : (bs : Bytes) (n : ℕ) → n ≤ length bs → ((k : ℕ) → k + 1 ≡ n → eqb (get_or bs k 0) 10 ≡ true) → NoEndFrom bs n →
    lines (take n bs) ≡ whole_lines bs
unfolding lines whole_lines
wholes bs zero w e h = sym (none_behind bs zero h)
wholes [] (suc n) w e h = refl
wholes (b ∷ bs) (suc n) w e h = go n bs (omega (arith, w)) (λ l. e 0 (omega (arith, l))) (wholes bs n (omega (arith, w)) (λ k l. e (suc k) (omega (arith, l))) (λ k l m. h (suc k) (omega (arith, l)) (omega (arith, m))))
  where
    front : (ls ms : List Bytes) → ls ≡ ms → 0 < length ls → in_front b ls ≡ in_front_of_first b ms
    front [] ms e h = absurd (omega arith)
    front (l ∷ ls) ms e h = ap (in_front_of_first b) e

    go : (n : ℕ) (cs : Bytes) → n ≤ length cs → (n ≡ 0 → eqb b 10 ≡ true) → lines (take n cs) ≡ whole_lines cs →
        lines (b ∷ take n cs) ≡ whole_lines (b ∷ cs)
    go zero cs w e so = rw (e refl) (ap (λ l. [] ∷ l) so)
    go (suc n) [] w e so = absurd (omega arith)
    go (suc n) (c ∷ cs) w e so = two (eqb b 10)
      where
        two : (a : Bool) → cond a ([] ∷ lines (take (suc n) (c ∷ cs))) (in_front b (lines (take (suc n) (c ∷ cs)))) ≡ cond a ([] ∷ whole_lines (c ∷ cs)) (in_front_of_first b (whole_lines (c ∷ cs)))
        two true = ap (λ l. [] ∷ l) so
        two false = front (lines (take (suc n) (c ∷ cs))) (whole_lines (c ∷ cs)) so (some c (take n cs))

-- a text is torn where its last byte ends no line
pub torn_is : (bs : Bytes) → ltb (length (whole_lines bs)) (length (lines bs)) ≡ not (eqb (get_or bs (length bs - 1) 10) 10)
unfolding lines whole_lines
torn_is [] = refl
torn_is (b ∷ []) = go (eqb b 10) []
  where
    go : (a : Bool) (ls : List Bytes) → ltb (length (cond a ([] ∷ ls) ls)) (length (cond a ([] ∷ ls) ((b ∷ []) ∷ ls))) ≡ not a
    go true ls = grind (arith, common_steps)
    go false ls = grind (arith, common_steps)
torn_is (b ∷ c ∷ cs) =
    let at : suc (length (c ∷ cs) - 1) ≡ length (b ∷ c ∷ cs) - 1 = omega arith in
    go (eqb b 10) _ (lines (c ∷ cs)) (whole_lines (c ∷ cs)) (some c cs) (torn_is (c ∷ cs)) ∙ ap (λ k. not (eqb (get_or (b ∷ c ∷ cs) k 10) 10)) at
  where
    go : (a v : Bool) (ls ms : List Bytes) → 0 < length ls → ltb (length ms) (length ls) ≡ v →
        ltb (length (cond a ([] ∷ ms) (in_front_of_first b ms))) (length (cond a ([] ∷ ls) (in_front b ls))) ≡ v
    go true v ls ms h e = grind (arith, common_steps)
    go false v [] ms h e = absurd (omega arith)
    go false v (l ∷ ls) [] h e = grind (arith, common_steps)
    go false v (l ∷ ls) (m ∷ ms) h e = grind (arith, common_steps)
