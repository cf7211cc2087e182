-- Calm: round after round there is less to do, till a round in which nothing comes of a poke; after it the world is settled.
use Rattle.std.proofs.Common.{◌≡◌, ℕ, zero, suc, ◌<◌, ◌≤◌, ◌⊎◌, false, List, [], ◌∷◌, length, Some, None, Option, sym, refl, ap, ap₂, ◌∙◌, subst, inl, inr, ⊎_elim, arith}
use Rattle.std.proofs.lemmas.Bool.{cases_eq}
use Rattle.sums.specs.Sums.{Gauges}
use Rattle.machine.specs.Run.{up_to}
use Rattle.protocol.specs.Limits.{crew}
use Rattle.protocol.specs.Phases.{Event, go}
use Rattle.protocol.specs.Reader.{is_reading}
use Rattle.protocol.specs.Statements.{Letter}
use Rattle.protocol.proofs.Puts.{put_same}
use Rattle.protocol_world.specs.Enough.{Settled}
use Rattle.protocol_world.specs.Runs.{goes, poked, poked_by, delivered, brought, by_each, works_poked, works_given, round}
use Rattle.protocol_world.specs.Worlds.{Node, World, one_step}
use Rattle.protocol_world.proofs.Induction.{Keeps, by_each_last, by_each_none, by_each_good, goes_good}
use Rattle.protocol_world.proofs.Invariant.{row}
use Rattle.protocol_world.proofs.Dues.{Counts}
use Rattle.protocol_world.proofs.RankSteps.{left, step_less, poke_no_more, bring_less}
use Rattle.protocol_world.proofs.Ranks.{node_rank}
use Rattle.protocol_world.proofs.Readers.{RowFine}
use Rattle.protocol_world.proofs.SyncRuns.{InStep, keeps_step}
use Rattle.protocol_world.proofs.Turns.{goes_other, poked_other, goes_resting, goes_more, turn_less}

module _ (gs : Gauges) (eight : length gs ≡ crew) (fine : (i : ℕ) → i < crew → RowFine (row gs i)) (ahead : ℕ → ℕ) (counts : Counts gs ahead) where
  abbrev In : World → Type 0
  In w = InStep gs eight fine w

  abbrev pub Left : World → ℕ
  Left w = left gs eight fine ahead counts w

  keeps : Keeps gs In
  keeps = keeps_step gs eight fine

  abbrev Idle : World → ℕ → Type 0
  Idle v i = is_reading (v.node i).memory.reader.stage ≡ false

  pub record Rested (i : ℕ) (w v : World) : Type 0 where
    pub here : (v.node i).pending ≡ None
    no_more : Left v ≤ Left w
    idle : ((w.node i).pending ≡ None → ⊥) → (Left v < Left w) ⊎ Idle v i

  none_or_some : (o : Option Event) → (o ≡ None) ⊎ (o ≡ None → ⊥)
  none_or_some None = inl refl
  none_or_some (Some ev) = inr (λ e. cc)

  -- what is left of one
  abbrev pub LeftOf : ℕ → World → ℕ
  LeftOf i w = node_rank ahead (length (row gs i)) (w.node i)

  -- AT WORK TILL IT RESTS
  pub goes_rests : (n : ℕ) (w : World) (i : ℕ) → i < crew → In w → LeftOf i w < n → Rested i w (goes n gs w i)
  goes_rests zero w i lt h l = absurd (omega arith)
  goes_rests (suc n) w i lt h l = ⊎_elim
      (λ e. subst (Rested i w) (sym (goes_resting gs (suc n) w i e)) (record { here = e; no_more = omega arith; idle = λ some. absurd (some e) }))
      (λ some. goes_more gs n w i (Rested i w) h.good.fault
      (⊎_elim
      (λ (l₁ : Left (one_step gs w i) < Left w). let r = goes_rests n (one_step gs w i) i lt (keeps.steps w i lt h)
      (omega (arith, turn_less ahead (λ k. length (row gs k)) gs w i lt l₁)) in
      record { here = r.here; no_more = omega (arith, r.no_more); idle = λ _. inl (omega (arith, r.no_more)) })
      (λ r. subst (Rested i w) (sym (goes_resting gs n (one_step gs w i) i r.0)) (record { here = r.0; no_more = r.2; idle = λ _. inr r.1 }))
      (step_less gs eight fine ahead counts w i lt h.good (some, h.full i))))
      (none_or_some (w.node i).pending)

  -- so many acts are enough for each turn
  module _ (n : ℕ) (acts : (i : ℕ) → i < crew → (x : Node) → node_rank ahead (length (row gs i)) x < n) where
    -- POKES: all rest after them
    record PokedTo (k : ℕ) (w v : World) : Type 0 where
      good : In v
      no_more : Left v ≤ Left w
      rest : (i : ℕ) → i < k → (v.node i).pending ≡ None
      idle : (Left v < Left w) ⊎ ((i : ℕ) → i < k → Idle v i)

    poked_some_by : (v : World) (k : ℕ) (o : Option Event) → (v.node k).pending ≡ o → ((poked_by v k o).node k).pending ≡ None → ⊥
    poked_some_by v k None q e = let now : ((poked_by v k None).node k).pending ≡ Some go = ap (λ (y : Node). y.pending) (put_same v.node k _) in cc
    poked_some_by v k (Some ev) q e = cc

    poked_some : (v : World) (k : ℕ) → ((poked v k).node k).pending ≡ None → ⊥
    poked_some v k = poked_some_by v k (v.node k).pending refl

    poked_to : (k : ℕ) → k ≤ crew → (w : World) → In w → PokedTo k w (by_each (works_poked n gs) w (up_to k))
    poked_to zero le w h = subst (PokedTo zero w) (sym (by_each_none (works_poked n gs) w)) (record {
      good = h;
      no_more = omega arith;
      rest = λ i lt. absurd (omega arith);
      idle = inr (λ i lt. absurd (omega arith));
    })
    poked_to (suc k) le w h =
        let before = poked_to k (omega arith) w h in
        let v : World = by_each (works_poked n gs) w (up_to k) in
        let lt : k < crew = omega arith in
        let p : In (poked v k) = keeps.pokes v k lt before.good in
        let less = poke_no_more gs eight fine ahead counts v k lt before.good.good in
        let r = goes_rests n (poked v k) k lt p (acts k lt ((poked v k).node k)) in
        subst (PokedTo (suc k) w) (sym (by_each_last (works_poked n gs) w k)) (record {
          good = goes_good gs In keeps n (poked v k) k lt p;
          no_more = omega (arith, r.no_more, less, before.no_more);
          rest = λ i l₁. ⊎_elim
              (λ (e : i ≡ k). subst (λ a. ((works_poked n gs v k).node a).pending ≡ None) (sym e) r.here)
              (λ ne. ap (λ (y : Node). y.pending) (goes_other gs k i ne n (poked v k) ∙ poked_other gs k i ne v) ∙ before.rest i (omega arith))
              (cases_eq i k);
          idle = ⊎_elim
              (λ (l₁ : Left v < Left w). inl (omega (arith, r.no_more, less)))
              (λ f. ⊎_elim
              (λ (l₁ : Left (works_poked n gs v k) < Left (poked v k)). inl (omega (arith, less, before.no_more)))
              (λ now. inr (λ i l₁. ⊎_elim
              (λ (e : i ≡ k). subst (λ a. Idle (works_poked n gs v k) a) (sym e) now)
              (λ ne. ap (λ (y : Node). is_reading y.memory.reader.stage) (goes_other gs k i ne n (poked v k) ∙ poked_other gs k i ne v) ∙ f i (omega arith))
              (cases_eq i k)))
              (r.idle (poked_some v k)))
              before.idle;
        })

    -- LETTERS: nothing comes, or there is less to do
    abbrev AllRest : World → Type 0
    AllRest w = (i : ℕ) → i < crew → (w.node i).pending ≡ None

    -- what letters are asked for has no end of wires left, or less is left
    record Still (v u : World) (Q : World → Type 0) : Type 0 where
      same : u ≡ v
      empty : Q v

    record GivenTo (Q : World → Type 0) (v u : World) : Type 0 where
      good : In u
      no_more : Left u ≤ Left v
      outcome : (Left u < Left v) ⊎ Still v u Q

    -- one turn from a world that has not changed
    given_on : (v : World) (i j : ℕ) → i < crew → j < crew → In v → (v.node j).pending ≡ None → (ls : List Letter) → v.wire i j ≡ ls →
        (Left (goes n gs (brought v i j None ls) j) < Left v) ⊎ ((goes n gs (brought v i j None ls) j ≡ v) × (v.wire i j ≡ []))
    given_on v i j li lj h none [] e = inr (goes_resting gs n v j none, e)
    given_on v i j li lj h none (m ∷ ls) e =
        let less = bring_less gs eight fine ahead counts v j lj h.good i li m ls e none in
        let same : delivered v i j ≡ brought v i j None (m ∷ ls) = ap₂ (λ o q. brought v i j o q) none e in
        let good : In (brought v i j None (m ∷ ls)) = subst In same (keeps.delivers v i j li lj h) in
        inl (omega (arith, (goes_rests n (brought v i j None (m ∷ ls)) j lj good (acts j lj ((brought v i j None (m ∷ ls)).node j))).no_more, less))

    given_turn : (v : World) (i j : ℕ) → i < crew → j < crew → In v → (v.node j).pending ≡ None →
        (Left (works_given n gs j v i) < Left v) ⊎ ((works_given n gs j v i ≡ v) × (v.wire i j ≡ []))
    given_turn v i j li lj h none =
        subst (λ o. (Left (goes n gs (brought v i j o (v.wire i j)) j) < Left v) ⊎ ((goes n gs (brought v i j o (v.wire i j)) j ≡ v) × (v.wire i j ≡ [])))
        (sym none)
        (given_on v i j li lj h none (v.wire i j) refl)

    -- a turn leaves no more to do
    deliver_no_more_on : (u : World) (i j : ℕ) → i < crew → j < crew → In u → (o : Option Event) → (u.node j).pending ≡ o → (ls : List Letter) →
        u.wire i j ≡ ls → Left (brought u i j o ls) ≤ Left u
    deliver_no_more_on u i j li lj h (Some ev) q ls e = omega arith
    deliver_no_more_on u i j li lj h None q [] e = omega arith
    deliver_no_more_on u i j li lj h None q (m ∷ ls) e = omega (arith, bring_less gs eight fine ahead counts u j lj h.good i li m ls e q)

    turn_no_more : (u : World) (i j : ℕ) → i < crew → j < crew → In u → Left (works_given n gs j u i) ≤ Left u
    turn_no_more u i j li lj h =
        let no = deliver_no_more_on u i j li lj h _ refl _ refl in
        omega (arith, (goes_rests n (delivered u i j) j lj (keeps.delivers u i j li lj h) (acts j lj ((delivered u i j).node j))).no_more, no)

    -- turn after turn: what each turn has, the whole has
    module _ (f : World → ℕ → World) (Q : ℕ → World → Type 0) (v : World)
        (good : (u : World) (i : ℕ) → i < crew → In u → In (f u i))
        (no_more : (u : World) (i : ℕ) → i < crew → In u → Left (f u i) ≤ Left u)
        (turn : (i : ℕ) → i < crew → (Left (f v i) < Left v) ⊎ ((f v i ≡ v) × Q i v)) where
      turns : (k : ℕ) → k ≤ crew → In v → GivenTo (λ u. (i : ℕ) → i < k → Q i u) v (by_each f v (up_to k))
      turns zero le h = subst (GivenTo (λ u. (i : ℕ) → i < zero → Q i u) v) (sym (by_each_none f v))
          (record { good = h; no_more = omega arith; outcome = inr (record { same = refl; empty = λ i lt. absurd (omega arith) }) })
      turns (suc k) le h =
          let before = turns k (omega arith) h in
          let u : World = by_each f v (up_to k) in
          let lt : k < crew = omega arith in
          let no = no_more u k lt before.good in
          subst (GivenTo (λ u. (i : ℕ) → i < suc k → Q i u) v) (sym (by_each_last f v k)) (record {
            good = good u k lt before.good;
            no_more = omega (arith, no, before.no_more);
            outcome = ⊎_elim
                (λ (l : Left u < Left v). inl (omega (arith, no)))
                (λ s. ⊎_elim
                (λ (l : Left (f v k) < Left v). inl (subst (λ t. Left (f t k) < Left v) (sym s.same) l))
                (λ q. inr (record {
                  same = ap (λ t. f t k) s.same ∙ q.0;
                  empty = λ i l. ⊎_elim (λ (e : i ≡ k). subst (λ a. Q a v) (sym e) q.1) (λ ne. s.empty i (omega arith)) (cases_eq i k);
                }))
                (turn k lt))
                before.outcome;
          })

    -- to one reader, from each
    abbrev to_reader : World → ℕ → World
    to_reader u j = by_each (works_given n gs j) u (up_to crew)

    reader_good : (u : World) (j : ℕ) → j < crew → In u → In (to_reader u j)
    reader_good u j lj h = by_each_good (works_given n gs j) In (λ t i li q. goes_good gs In keeps n _ j lj (keeps.delivers t i j li lj q)) u h

    -- from any world, one reader's turns leave no more
    no_more_to : (j : ℕ) → j < crew → (k : ℕ) → k ≤ crew → (u : World) → In u → In (by_each (works_given n gs j) u (up_to k)) ×
        (Left (by_each (works_given n gs j) u (up_to k)) ≤ Left u)
    no_more_to j lj zero le u h = subst (λ v. In v × (Left v ≤ Left u)) (sym (by_each_none (works_given n gs j) u)) (h, omega arith)
    no_more_to j lj (suc k) le u h =
        let before = no_more_to j lj k (omega arith) u h in
        let v : World = by_each (works_given n gs j) u (up_to k) in
        let lt : k < crew = omega arith in
        subst (λ v. In v × (Left v ≤ Left u)) (sym (by_each_last (works_given n gs j) u k))
        (goes_good gs In keeps n (delivered v k j) j lj (keeps.delivers v k j lt lj before.0), omega (arith, before.1, turn_no_more v k j lt lj before.0))

    reader_no_more : (u : World) (j : ℕ) → j < crew → In u → Left (to_reader u j) ≤ Left u
    reader_no_more u j lj h = (no_more_to j lj crew (omega arith) u h).1

    round_given : (v : World) → In v → AllRest v → GivenTo (λ u. (j : ℕ) → j < crew → (i : ℕ) → i < crew → u.wire i j ≡ []) v (by_each to_reader v (up_to crew))
    round_given v h rest =
        turns to_reader (λ j u. (i : ℕ) → i < crew → u.wire i j ≡ []) v (λ u j lj q. reader_good u j lj q) (λ u j lj q. reader_no_more u j lj q)
        (λ j lj.
        let r = turns (works_given n gs j) (λ i u. u.wire i j ≡ []) v (λ t i li q. goes_good gs In keeps n _ j lj (keeps.delivers t i j li lj q))
        (λ t i li q. turn_no_more t i j li lj q) (λ i li. given_turn v i j li lj h (rest j lj)) crew (omega arith) h in
        ⊎_elim (λ l. inl l) (λ s. inr (s.same, s.empty)) r.outcome)
        crew (omega arith) h

    -- A ROUND: less is left after it, or it is settled
    pub round_settles : (w : World) → In w → (Left (round n gs w) < Left w) ⊎ Settled (round n gs w)
    round_settles w h =
        let p = poked_to crew (omega arith) w h in
        let v : World = by_each (works_poked n gs) w (up_to crew) in
        let r = round_given v p.good p.rest in
        ⊎_elim
        (λ (l₁ : Left (round n gs w) < Left v). inl (omega (arith, p.no_more)))
        (λ s. ⊎_elim
        (λ (l₁ : Left v < Left w). inl (omega (arith, r.no_more)))
        (λ f. inr (subst Settled (sym s.same) (record { rest = p.rest; idle = f; wires = λ a b la lb. s.empty b lb a la })))
        p.idle)
        r.outcome
