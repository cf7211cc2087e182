-- A settled world stays settled: a machine that is poked rests after one act, and nothing comes of it; and no letter comes.
use Rattle.std.proofs.Common.{◌≡◌, ℕ, zero, suc, ◌<◌, false, not, ◌&&◌, eqb, length, Some, None, sym, refl, ap, ap₂, ◌∙◌, subst, ⊎_elim, arith}
use Rattle.std.proofs.lemmas.Bool.{both_ways}
use Rattle.sums.specs.Sums.{pick, Gauges}
use Rattle.protocol.specs.Bounds.{ready_hour}
use Rattle.protocol.specs.Choose.{chooses, chooses_next}
use Rattle.protocol.specs.GoingOn.{goes_on}
use Rattle.protocol.specs.Limits.{crew}
use Rattle.protocol.specs.Mail.{next_due, unpaused, sends_next}
use Rattle.protocol.specs.Memory.{Memory}
use Rattle.protocol.specs.Phases.{does, ready, go, rests, more}
use Rattle.protocol.specs.Reader.{is_reading}
use Rattle.protocol.specs.Searches.{find}
use Rattle.protocol.proofs.Choosing.{Quiet}
use Rattle.protocol.proofs.Puts.{put_each, put_same}
use Rattle.protocol.proofs.Searches.{on_find}
use Rattle.protocol_world.specs.Enough.{Settled}
use Rattle.protocol_world.specs.Runs.{goes, poked, poked_by, delivered, brought, works_poked, works_given, round, calm}
use Rattle.protocol_world.specs.Worlds.{Node, World, with_node, after, done, told_next, one_step}
use Rattle.protocol_world.proofs.Calm.{round_settles}
use Rattle.protocol_world.proofs.Induction.{Keeps, by_each_good, goes_good, round_good}
use Rattle.protocol_world.proofs.Invariant.{row}
use Rattle.protocol_world.proofs.Dues.{Counts}
use Rattle.protocol_world.proofs.RankSteps.{left}
use Rattle.protocol_world.proofs.Ranks.{node_rank}
use Rattle.protocol_world.proofs.Readers.{RowFine}
use Rattle.protocol_world.proofs.Settled.{rested}
use Rattle.protocol_world.proofs.SyncRuns.{InStep, keeps_step}
use Rattle.protocol_world.proofs.Turns.{poked_other, goes_resting, goes_more}

-- one that has nothing to do rests
quiet_rests : (b : Memory) → Quiet b → chooses b ≡ does ready (unpaused b) rests
quiet_rests b q =
    let none_due : find b.mail.due crew ≡ None = on_find b.mail.due crew (λ o. o ≡ None) (λ j f. absurd (both_ways _ (q.said j f.below) f.holds)) (λ _. refl) in
    ap (λ r. pick (r && not b.reader.paused) (does ready b more) (chooses_next b (ready_hour b))) q.idle
    ∙ ap (chooses_next b) q.waits
    ∙ ap (λ t. pick t (goes_on b) (sends_next b (next_due b))) q.stays
    ∙ ap (λ r. sends_next b (pick (r && eqb b.reader.pos 0) None (find b.mail.due crew))) q.idle
    ∙ ap (sends_next b) none_due

module _ (gs : Gauges) where
  step_rests : (w : World) (i : ℕ) → (w.node i).phase ≡ ready → (w.node i).pending ≡ Some go → Quiet (w.node i).memory →
      one_step gs w i ≡ with_node w i (after (w.node i) ready (unpaused (w.node i).memory) None)
  step_rests w i p o q = ap₂ (λ p o. told_next gs w i p o) p o ∙ ap (λ d. done gs w i d) (quiet_rests (w.node i).memory q)

  module _ (eight : length gs ≡ crew) (fine : (i : ℕ) → i < crew → RowFine (row gs i)) where
    abbrev In : World → Type 0
    In w = InStep gs eight fine w

    keeps : Keeps gs In
    keeps = keeps_step gs eight fine

    -- settled, with nothing more told
    pub record Stays (w v : World) : Type 0 where
      pub known : In v
      pub settled : Settled v
      pub told : v.told ≡ w.told

    module _ (n : ℕ) (w : World) where
      poke_stays : (v : World) (i : ℕ) → i < crew → Stays w v → Stays w (works_poked (suc n) gs v i)
      poke_stays v i lt s =
          let r = rested gs eight fine v s.known s.settled i lt in
          let p : World = poked v i in
          let y : Node = after (v.node i) (v.node i).phase (v.node i).memory (Some go) in
          let same : p ≡ with_node v i y = ap (poked_by v i) (s.settled.rest i lt) in
          let here : p.node i ≡ y = ap (λ (u : World). u.node i) same ∙ put_same v.node i y in
          let z : Node = after (p.node i) ready (unpaused (p.node i).memory) None in
          let u : World = with_node p i z in
          let step : one_step gs p i ≡ u = step_rests p i (ap (λ (x : Node). x.phase) here ∙ r.up) (ap (λ (x : Node). x.pending) here)
          (subst (λ (x : Node). Quiet x.memory) (sym here) r.quiet) in
          let good : In p = keeps.pokes v i lt s.known in
          let end : goes (suc n) gs p i ≡ u = goes_more gs n p i (λ t. t ≡ u) good.good.fault
          (ap (λ t. goes n gs t i) step ∙ goes_resting gs n u i (ap (λ (x : Node). x.pending) (put_same p.node i z))) in
          record {
            known = goes_good gs In keeps (suc n) p i lt good;
            settled = subst Settled (sym end) (record {
              rest = λ j lj. put_each p.node i z (λ j x. j < crew → x.pending ≡ None) (λ _. refl)
                  (λ j ne lj. ap (λ (x : Node). x.pending) (poked_other gs i j ne v) ∙ s.settled.rest j lj) j lj;
              idle = λ j lj. put_each p.node i z (λ j x. j < crew → is_reading x.memory.reader.stage ≡ false)
                  (λ _. ap (λ (x : Node). is_reading x.memory.reader.stage) here ∙ s.settled.idle i lt)
                  (λ j ne lj. ap (λ (x : Node). is_reading x.memory.reader.stage) (poked_other gs i j ne v) ∙ s.settled.idle j lj) j lj;
              wires = λ a b la lb. ap (λ (t : World). t.wire a b) same ∙ s.settled.wires a b la lb;
            });
            told = ap (λ (t : World). t.told) end ∙ ap (λ (t : World). t.told) same ∙ s.told;
          }

      -- no letter comes, and one that rests does nothing
      give_stays : (v : World) (i j : ℕ) → i < crew → j < crew → Stays w v → Stays w (works_given (suc n) gs j v i)
      give_stays v i j li lj s =
          let same : delivered v i j ≡ v = ap₂ (λ o ls. brought v i j o ls) (s.settled.rest j lj) (s.settled.wires i j li lj) in
          subst (Stays w) (sym (ap (λ t. goes (suc n) gs t j) same ∙ goes_resting gs (suc n) v j (s.settled.rest j lj))) s

      round_stays : (v : World) → Stays w v → Stays w (round (suc n) gs v)
      round_stays v s =
          by_each_good _ (Stays w) (λ u j lj h. by_each_good (works_given (suc n) gs j) (Stays w) (λ t i li q. give_stays t i j li lj q) u h) _
          (by_each_good (works_poked (suc n) gs) (Stays w) (λ u i li h. poke_stays u i li h) v s)

      pub calm_stays : (k : ℕ) (v : World) → Stays w v → Stays w (calm k (suc n) gs v)
      unfolding calm
      calm_stays zero v s = s
      calm_stays (suc k) v s = calm_stays k (round (suc n) gs v) (round_stays v s)

    -- after as many rounds as there is left to do, it is settled
    module _ (ahead : ℕ → ℕ) (counts : Counts gs ahead) (n : ℕ) (acts : (i : ℕ) → i < crew → (x : Node) → node_rank ahead (length (row gs i)) x < suc n) where
      pub calm_ends : (k : ℕ) (w : World) → In w → left gs eight fine ahead counts w < k → Settled (calm k (suc n) gs w)
      unfolding calm
      calm_ends zero w h less = absurd (omega arith)
      calm_ends (suc k) w h less =
          let v : World = round (suc n) gs w in
          let next : In v = round_good gs In keeps (suc n) w h in
          ⊎_elim
          (λ (l : left gs eight fine ahead counts v < left gs eight fine ahead counts w). calm_ends k v next (omega arith))
          (λ s. (calm_stays n v k v (record { known = next; settled = s; told = refl })).settled)
          (round_settles gs eight fine ahead counts (suc n) acts w h)
