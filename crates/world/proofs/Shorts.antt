-- What happens and is cut short, for want of room.
use Rattle.std.proofs.Common.{◌≡◌, ℕ, zero, suc, ◌+◌, ◌-◌, ◌<◌, List, [], ◌∷◌, ◌++◌, sym, refl, ap, ◌∙◌, subst, append_assoc, arith}
use Rattle.sums.specs.Sums.{Gauges}
use Rattle.machine.specs.Run as run
use Rattle.machine.specs.Run.{goes, up_to, poked, delivered, works, poke, brings}
use Rattle.machine.specs.Entry.{own}
use Rattle.world.specs.Tallies.{acts_counted, all_counted}
use Rattle.world.specs.Rounds.{in_turn, a_round, all_rounds}
use Rattle.world.specs.Worlds.{Passed, CutShort}
use Rattle.world.proofs.Unrolling.{in_turn_more, rounds_more}
use Rattle.world.proofs.Tallying.{passed_both}

module _ (gs : Gauges) (w : run.World) (cs : List ℕ) where
  pub short_works : (v : run.World) (es : List ℕ) (i n k : ℕ) → k < n → v ≡ goes k own gs w i → es ≡ acts_counted k gs w i cs →
      CutShort gs w cs (works i n ∷ []) v es
  unfolding run.all_happened run.happened all_counted
  short_works v es i n k lt world counts = record {
    before = [];
    after = [];
    i = i;
    acts = n;
    fewer = k;
    parts = refl;
    less = lt;
    passed = record { world = world; counts = counts };
  }

  module _ (v : run.World) (es : List ℕ) where
    -- something else was to happen after it
    pub short_before : (xs ys : List run.Item) → CutShort gs w cs xs v es → CutShort gs w cs (xs ++ ys) v es
    short_before xs ys s = record {
      before = s.before;
      after = s.after ++ ys;
      i = s.i;
      acts = s.acts;
      fewer = s.fewer;
      parts = ap (λ l. l ++ ys) s.parts ∙ append_assoc s.before (works s.i s.acts ∷ s.after) ys;
      less = s.less;
      passed = s.passed;
    }

    -- something else has happened before it
    pub short_after : (u : run.World) (ds : List ℕ) (xs ys : List run.Item) → Passed gs w cs xs u ds → CutShort gs u ds ys v es →
        CutShort gs w cs (xs ++ ys) v es
    short_after u ds xs ys p s = record {
      before = xs ++ s.before;
      after = s.after;
      i = s.i;
      acts = s.acts;
      fewer = s.fewer;
      parts = ap (λ l. xs ++ l) s.parts ∙ sym (append_assoc xs s.before (works s.i s.acts ∷ s.after));
      less = s.less;
      passed = subst (λ its. Passed gs w cs its v es) (sym (append_assoc xs s.before (works s.i s.fewer ∷ [])))
          (passed_both gs w u v cs ds es xs (s.before ++ works s.i s.fewer ∷ []) p s.passed);
    }

    -- the turns of more machines, and more rounds, were to come
    short_turns : (f : ℕ → List run.Item) (k d n : ℕ) → k + d ≡ n → CutShort gs w cs (in_turn f (up_to k)) v es → CutShort gs w cs (in_turn f (up_to n)) v es
    short_turns f k zero n e s = subst (λ m. CutShort gs w cs (in_turn f (up_to m)) v es) (omega arith) s
    short_turns f k (suc d) n e s =
        subst (λ m. CutShort gs w cs (in_turn f (up_to m)) v es) (omega arith)
        (subst (λ its. CutShort gs w cs its v es) (sym (in_turn_more f (k + d)))
        (short_before (in_turn f (up_to (k + d))) (f (k + d)) (short_turns f k d (k + d) refl s)))

    short_rounds : (acts k d n : ℕ) → k + d ≡ n → CutShort gs w cs (all_rounds k acts) v es → CutShort gs w cs (all_rounds n acts) v es
    short_rounds acts k zero n e s = subst (λ m. CutShort gs w cs (all_rounds m acts) v es) (omega arith) s
    short_rounds acts k (suc d) n e s =
        subst (λ m. CutShort gs w cs (all_rounds m acts) v es) (omega arith)
        (subst (λ its. CutShort gs w cs its v es) (sym (rounds_more (k + d) acts))
        (short_before (all_rounds (k + d) acts) (a_round acts) (short_rounds acts k d (k + d) refl s)))

    -- the turn of machine k of n, and the round k of n, after those before it
    pub short_turn : (u : run.World) (ds : List ℕ) (f : ℕ → List run.Item) (k n : ℕ) → k < n → Passed gs w cs (in_turn f (up_to k)) u ds →
        CutShort gs u ds (f k) v es → CutShort gs w cs (in_turn f (up_to n)) v es
    short_turn u ds f k n lt p s =
        short_turns f (k + 1) (n - (k + 1)) n (omega arith)
        (subst (λ its. CutShort gs w cs its v es) (sym (in_turn_more f k)) (short_after u ds (in_turn f (up_to k)) (f k) p s))

    pub short_round : (u : run.World) (ds : List ℕ) (acts k n : ℕ) → k < n → Passed gs w cs (all_rounds k acts) u ds →
        CutShort gs u ds (a_round acts) v es → CutShort gs w cs (all_rounds n acts) v es
    short_round u ds acts k n lt p s =
        short_rounds acts (k + 1) (n - (k + 1)) n (omega arith)
        (subst (λ its. CutShort gs w cs its v es) (sym (rounds_more k acts)) (short_after u ds (all_rounds k acts) (a_round acts) p s))

-- machine i is poked, or a letter comes
pub passed_poked : (gs : Gauges) (w w₁ : run.World) (cs cs₁ : List ℕ) (i : ℕ) → w₁ ≡ poked w i → cs₁ ≡ cs → Passed gs w cs (poke i ∷ []) w₁ cs₁
unfolding run.all_happened run.happened all_counted
passed_poked gs w w₁ cs cs₁ i p c = record { world = p; counts = c }

pub passed_brought : (gs : Gauges) (w w₁ : run.World) (cs cs₁ : List ℕ) (i j : ℕ) → w₁ ≡ delivered w i j → cs₁ ≡ cs → Passed gs w cs (brings i j ∷ []) w₁ cs₁
unfolding run.all_happened run.happened all_counted
passed_brought gs w w₁ cs cs₁ i j p c = record { world = p; counts = c }
