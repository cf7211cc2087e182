-- How often one row stands on the wall, over all that happens to machines of records, and in any calm after.
use Rattle.std.proofs.Common.{◌≡◌, ℕ, zero, suc, ◌+◌, ◌*◌, ◌<◌, ◌≤◌, Bool, true, false, ◌&&◌, ltb, List, [], ◌∷◌, length, Some, None, Option, sym, refl, ap, ◌∙◌, subst, inl, inr, ⊎_elim, arith}
use Rattle.std.proofs.lemmas.Bool.{cases_lt, and_parts, lt-ltb, ltb-true, ne_eqb}
use Rattle.sums.specs.Cells.{slots}
use Rattle.sums.specs.Sums.{pick, Gauges, comes_up}
use Rattle.sums.proofs.Picks.{pick_both, pick_two, pick_true}
use Rattle.machine.specs.Log.{Mark, struck, has_just_told, struck_telling}
use Rattle.machine.specs.Run as given
use Rattle.protocol.specs.Limits.{crew}
use Rattle.protocol.specs.Phases.{Phase, Event}
use Rattle.protocol_world.specs.Log.{log_next, step_log, goes_log, happened_log, all_log}
use Rattle.protocol_world.specs.Runs.{goes, poked, delivered, fallen, happened, all_happened, calm}
use Rattle.protocol_world.specs.Wall.{times_told}
use Rattle.protocol_world.specs.Worlds.{World, one_step, new_world}
use Rattle.protocol_world.proofs.Induction.{CalmKeeps, calm_kept, happened_good}
use Rattle.protocol_world.proofs.Invariant.{row, Good}
use Rattle.protocol_world.proofs.Once.{owner, ExactIs, exact_few}
use Rattle.protocol_world.proofs.OnceSteps.{next_just, step_exact, poke_exact, deliver_exact, fall_exact}
use Rattle.protocol_world.proofs.Readers.{RowFine}
use Rattle.protocol_world.proofs.Safety.{Known, eight, rows_fine, keeps_good, start_good}
use Rattle.protocol_world.proofs.Together.{places_low}

exact_weaker : (gs : Gauges) (h k c n : ℕ) (j : Bool) (w : World) → c ≤ n → ExactIs gs h k c j w → ExactIs gs h k n j w
exact_weaker gs h k c n j w le o = record {
  at = record { few = ⊎_elim (λ b. inl (b.0, omega (arith, b.1, le))) (λ l. inr (omega (arith, l, le))) o.at.few; noted = o.at.noted };
}

module _ (gs : Gauges) (eight : length gs ≡ crew) (fine : (i : ℕ) → i < crew → RowFine (row gs i)) (low : (g k : ℕ) → comes_up gs g k ≡ true → k < crew * slots)
    (h k : ℕ) where
  abbrev its : ℕ
  its = owner gs h k

  -- by the log
  abbrev pub ByLog : List Mark → World → Type 0
  ByLog log v = ExactIs gs h k (struck_telling h k log) (has_just_told h k its log) v

  pub record Logged (log : List Mark) (v : World) : Type 0 where
    pub inside : Good gs v
    pub exact : ByLog log v

  -- A STEP
  module _ (log : List Mark) (v : World) (l : Logged log v) (i : ℕ) (lt : i < crew) where
    abbrev c : ℕ
    c = struck_telling h k log

    abbrev just : Bool
    just = has_just_told h k its log

    logged_next : (p : Phase) (ho : Option Event) (u : World) → ExactIs gs h k c (next_just gs eight fine low h k c just v i lt l.inside l.exact p ho) u →
        ByLog (log_next v i p ho log) u
    unfolding struck_telling has_just_told
    logged_next p None u o = o
    logged_next p (Some ev) u o = o

    step_logged : Logged (step_log v i log) (one_step gs v i)
    step_logged = record {
      inside = (keeps_good gs eight fine).steps v i lt l.inside;
      exact = logged_next (v.node i).phase (v.node i).pending (one_step gs v i) (step_exact gs eight fine low h k c just v i lt l.inside l.exact);
    }

    fall_logged : ByLog (struck i ∷ log) (fallen v i)
    unfolding struck_telling has_just_told
    fall_logged = fall_exact gs eight fine low h k c just v i lt l.inside l.exact (pick (has_just_told h k i log) 1 0 + c) (omega arith)
        (λ q e. let now : one (has_just_told h k i log) ≡ 1 = ap one (ap (λ a. has_just_told h k a log) (sym q) ∙ e) in omega (arith, now))
      where
        one : Bool → ℕ
        one b = pick b 1 0

  goes_logged : (n : ℕ) (log : List Mark) (v : World) → Logged log v → (i : ℕ) → i < crew → Logged (goes_log n gs v i log) (goes n gs v i)
  unfolding goes goes_log
  goes_logged zero log v l i lt = l
  goes_logged (suc n) log v l i lt = pick_two v.fault v.fault refl _ _ _ _ Logged (λ _. l) (λ _. goes_logged n _ _ (step_logged log v l i lt) i lt)

  -- WHAT HAPPENS
  past_logged : (log : List Mark) (v : World) → Logged log v → (i : ℕ) → crew ≤ i → ByLog (struck i ∷ log) v
  unfolding struck_telling has_just_told
  past_logged log v l i le =
      subst (λ b. ExactIs gs h k (pick (has_just_told h k i log) 1 0 + struck_telling h k log) (pick b false (has_just_told h k its log)) v)
      (sym (ne_eqb its i (λ q. absurd (omega (arith, q, le)))))
      (exact_weaker gs h k (struck_telling h k log) (pick (has_just_told h k i log) 1 0 + struck_telling h k log) (has_just_told h k its log) v
      (omega arith) l.exact)

  happened_by : (log : List Mark) (v : World) → Logged log v → (it : given.Item) → ByLog (happened_log gs v it log) (happened gs v it)
  unfolding happened happened_log
  happened_by log v l (given.works i n) = pick_two (ltb i crew) (ltb i crew) refl (goes_log n gs v i log) log (goes n gs v i) v (λ lg u. ByLog lg u)
      (λ t. (goes_logged n log v l i (ltb-true i crew t)).exact) (λ _. l.exact)
  happened_by log v l (given.poke i) = pick_both (ltb i crew) (poked v i) v (ExactIs gs h k (struck_telling h k log) (has_just_told h k its log))
      (λ t. poke_exact gs eight fine low h k (struck_telling h k log) (has_just_told h k its log) v i (ltb-true i crew t) l.inside l.exact) (λ _. l.exact)
  happened_by log v l (given.brings i j) = pick_both (ltb i crew && ltb j crew) (delivered v i j) v
      (ExactIs gs h k (struck_telling h k log) (has_just_told h k its log))
      (λ t. deliver_exact gs eight fine low h k (struck_telling h k log) (has_just_told h k its log) v j
      (ltb-true j crew (and_parts (ltb i crew) (ltb j crew) t).1) l.inside l.exact i) (λ _. l.exact)
  happened_by log v l (given.falls i) = ⊎_elim
      (λ (lt : i < crew). pick_true (ltb i crew) (fallen v i) v (ExactIs gs h k (struck_telling h k (struck i ∷ log)) (has_just_told h k its (struck i ∷ log)))
      (lt-ltb i crew lt) (fall_logged log v l i lt))
      (λ (ge : crew ≤ i). pick_both (ltb i crew) (fallen v i) v (ExactIs gs h k (struck_telling h k (struck i ∷ log)) (has_just_told h k its (struck i ∷ log)))
      (λ e. absurd (omega (arith, ge, ltb-true i crew e))) (λ _. past_logged log v l i ge))
      (cases_lt i crew)

  pub all_logged : (is : List given.Item) (log : List Mark) (v : World) → Logged log v → Logged (all_log gs v is log) (all_happened gs v is)
  unfolding all_happened all_log
  all_logged [] log v l = l
  all_logged (it ∷ is) log v l =
      all_logged is (happened_log gs v it log) (happened gs v it) (record {
        inside = happened_good gs (Good gs) (keeps_good gs eight fine) v it l.inside;
        exact = happened_by log v l it;
      })

  -- CALM: nothing is struck
  record Calm (c : ℕ) (v : World) : Type 0 where
    inside : Good gs v
    just : Bool
    exact : ExactIs gs h k c just v

  keeps_calm : (c : ℕ) → CalmKeeps gs (Calm c)
  keeps_calm c = record {
    steps = λ v i lt l. record {
      inside = (keeps_good gs eight fine).steps v i lt l.inside;
      just = _;
      exact = step_exact gs eight fine low h k c l.just v i lt l.inside l.exact;
    };
    pokes = λ v i lt l. record {
      inside = (keeps_good gs eight fine).pokes v i lt l.inside;
      just = l.just;
      exact = poke_exact gs eight fine low h k c l.just v i lt l.inside l.exact;
    };
    delivers = λ v i j li lj l. record {
      inside = (keeps_good gs eight fine).delivers v i j li lj l.inside;
      just = l.just;
      exact = deliver_exact gs eight fine low h k c l.just v j lj l.inside l.exact i;
    };
  }

  pub calm_few : (r n : ℕ) (log : List Mark) (v : World) → Logged log v → times_told h k (calm r n gs v).told ≤ suc (struck_telling h k log)
  calm_few r n log v l =
      let after = calm_kept gs (Calm (struck_telling h k log)) (keeps_calm (struck_telling h k log)) r n v (record {
        inside = l.inside;
        just = has_just_told h k its log;
        exact = l.exact;
      }) in
      exact_few gs h k (struck_telling h k log) after.just (calm r n gs v) after.exact

module _ (gs : Gauges) (known : Known gs) (h k : ℕ) where
  start_logged : Logged gs (eight gs known) (rows_fine gs known) (places_low gs known) h k [] new_world
  unfolding times_told
  start_logged = record { inside = start_good gs known; exact = record { at = record { few = inr (omega arith); noted = tt } } }

  pub few_told : (is : List given.Item) (r n : ℕ) → times_told h k (calm r n gs (all_happened gs new_world is)).told ≤ 1 + struck_telling h k
      (all_log gs new_world is [])
  few_told is r n =
      let few = calm_few gs (eight gs known) (rows_fine gs known) (places_low gs known) h k r n (all_log gs new_world is []) (all_happened gs new_world is)
      (all_logged gs (eight gs known) (rows_fine gs known) (places_low gs known) h k is [] new_world start_logged) in
      omega (arith, few)
