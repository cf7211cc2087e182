-- With an engine that implements the machine of records, a row stands on the given wall as often as the log says, at most: the two logs go alike.
use Rattle.std.proofs.Common.{◌≡◌, ℕ, zero, suc, ◌+◌, ◌<◌, ◌≤◌, false, eqb, ltb, List, [], ◌∷◌, Some, None, Option, sym, refl, ap, ap₂, ◌∙◌, subst, subst₂, arith}
use Rattle.std.proofs.lemmas.Bool.{ltb-true, ltb-false}
use Rattle.sums.specs.Again.{times_told}
use Rattle.sums.specs.Sums.{pick, Gauges}
use Rattle.sums.proofs.Picks.{pick_both, pick_two}
use Rattle.machine.specs.Log.{is_telling, Mark, did, struck, has_just_told, struck_telling}
use Rattle.machine.specs.Log as exact
use Rattle.machine.specs.Run.{Engine, machine_at}
use Rattle.machine.specs.Run as given
use Rattle.protocol.specs.Limits.{crew}
use Rattle.protocol.specs.Phases.{Event, Act, more, from, let_go, sends, keep_root, keep_page, keep_cursor, recall_root, recall_page, recall_cursor, tells, rests}
use Rattle.protocol.specs.Step.{reacts}
use Rattle.protocol_world.specs.Log.{shown, log_next, step_log, goes_log, happened_log, all_log}
use Rattle.protocol_world.specs.Sizes.{Sized}
use Rattle.protocol_world.specs.Worlds.{Node, World, new_world}
use Rattle.protocol_world.proofs.Induction.{Keeps, happened_good}
use Rattle.protocol_world.proofs.OnceRuns.{few_told}
use Rattle.protocol_world.proofs.Rows.{fine_late}
use Rattle.protocol_world.proofs.Safety.{Known, eight, rows_fine}
use Rattle.protocol_world.proofs.Sizes.{sized}
use Rattle.protocol_world.proofs.SyncRuns.{keeps_step}
use Rattle.protocol_world.proofs.Together.{In, start_in}
use Rattle.protocol_world.proofs.Wall.{sums_times}
use Rattle.promise.specs.Once.{ToldTwiceIfStruck}
use Rattle.promise.proofs.Machines.{machine_past}
use Rattle.protocol_bridge.specs.Engines.{Code, ActIs, Implements}
use Rattle.protocol_bridge.proofs.Engines.{handled, then_is}
use Rattle.protocol_bridge.proofs.Simulated.{step_is, happened_is, start_is}
use Rattle.protocol_bridge.proofs.Simulation.{Handled, PendingIs, WorldIs}

module _ (h k : ℕ) where
  -- an act tells the row just if the act that it stands for does
  seen : (c : Code) (d : Act) (a : given.Act) → ActIs c d a → is_telling h k a ≡ is_telling h k (shown d)
  seen c more a e = ap (is_telling h k) e
  seen c (from p) a e = ap (is_telling h k) e
  seen c (let_go p) a e = ap (is_telling h k) e
  seen c (sends j l) a e = ap (is_telling h k) e.1
  seen c (keep_root r) a e = ap (is_telling h k) e.1
  seen c (keep_page s q p) a e = ap (is_telling h k) e.1
  seen c (keep_cursor r) a e = ap (is_telling h k) e.1
  seen c recall_root a e = ap (is_telling h k) e
  seen c (recall_page s q) a e = ap (is_telling h k) e
  seen c recall_cursor a e = ap (is_telling h k) e
  seen c (tells g p s) a e = ap (is_telling h k) e
  seen c rests a e = ap (is_telling h k) e

  -- two logs that say the same of the row
  pub record Alike (l m : List Mark) : Type 0 where
    pub just : (i : ℕ) → has_just_told h k i l ≡ has_just_told h k i m
    pub count : struck_telling h k l ≡ struck_telling h k m

  alike_did : (l m : List Mark) → Alike l m → (i : ℕ) (a b : given.Act) → is_telling h k a ≡ is_telling h k b → Alike (did i a ∷ l) (did i b ∷ m)
  unfolding has_just_told struck_telling
  alike_did l m s i a b e = record { just = λ j. ap₂ (λ t u. pick (eqb j i) t u) e (s.just j); count = s.count }

  alike_struck : (l m : List Mark) → Alike l m → (i : ℕ) → Alike (struck i ∷ l) (struck i ∷ m)
  unfolding has_just_told struck_telling
  alike_struck l m s i = record { just = λ j. ap (λ u. pick (eqb j i) false u) (s.just j); count = ap₂ (λ t n. pick t 1 0 + n) (s.just i) s.count }

  alike_start : Alike [] []
  alike_start = record { just = λ j. refl; count = refl }

  module _ (c : Code) (e : Engine) (imp : Implements c e) (gs : Gauges) (Inv : World → Type 0) (keeps : Keeps gs Inv)
      (fits : (v : World) → Inv v → (i : ℕ) → i < crew → (t : Event) → (v.node i).pending ≡ Some t → Sized (v.node i).phase (v.node i).memory t)
      (handled : (v : World) → Inv v → (i : ℕ) → i < crew → (t : Event) → (v.node i).pending ≡ Some t →
      Handled (reacts (v.node i).phase (v.node i).memory t).act) where
    abbrev Is : given.World → World → Type 0
    Is w v = WorldIs c w v

    -- A STEP
    module _ (w : given.World) (v : World) (r : Is w v) (inv : Inv v) (i : ℕ) (lt : i < crew) (l m : List Mark) (s : Alike l m) where
      abbrev x : given.Machine
      x = machine_at w.machines i

      abbrev y : Node
      y = v.node i

      step_on : (o : Option Event) → y.pending ≡ o → (evs : List given.Event) → PendingIs c o evs →
          Alike (exact.step_log e w i evs l) (log_next v i y.phase o m)
      unfolding exact.step_log
      step_on None q evs p = subst (λ t. Alike (exact.step_log e w i t l) m) (sym p) s
      step_on (Some t) q evs p =
          subst (λ u. Alike (exact.step_log e w i u l) (log_next v i y.phase (Some t) m)) (sym p.1)
          (alike_did l m s i (e.step x.memory p.0).act (shown (reacts y.phase y.memory t).act)
          (seen c (reacts y.phase y.memory t).act (e.step x.memory p.0).act (imp.act x.memory y.phase y.memory t p.0 (r.nodes i lt).memory p.2
          (fits v inv i lt t q))))

      step_alike : Alike (exact.step_log e w i x.pending l) (step_log v i m)
      step_alike = step_on y.pending refl x.pending (r.nodes i lt).pending

    -- RUNS
    goes_alike : (n : ℕ) (w : given.World) (v : World) → Is w v → Inv v → (i : ℕ) → i < crew → (l m : List Mark) → Alike l m →
        Alike (exact.goes_log n e gs w i l) (goes_log n gs v i m)
    unfolding exact.goes_log goes_log
    goes_alike zero w v r inv i lt l m s = s
    goes_alike (suc n) w v r inv i lt l m s = pick_two w.fault v.fault r.fault _ _ _ _ Alike (λ _. s)
        (λ _. goes_alike n _ _ (step_is c e imp gs Inv keeps fits handled w v r i lt inv) (keeps.steps v i lt inv) i lt _ _ (step_alike w v r inv i lt l m s))

    -- there are no more machines
    goes_none : (n : ℕ) (w : given.World) (v : World) → Is w v → (i : ℕ) → crew ≤ i → (l : List Mark) → exact.goes_log n e gs w i l ≡ l
    unfolding exact.goes_log exact.step_log given.one_step
    goes_none zero w v r i le l = refl
    goes_none (suc n) w v r i le l = pick_both w.fault l _ (λ u. u ≡ l) (λ _. refl)
        (λ _. let none : (machine_at w.machines i).pending ≡ [] = ap (λ (x : given.Machine). x.pending) (machine_past w.machines i (omega (arith, r.eight))) in
        ap (λ t. exact.goes_log n e gs (given.one_step e gs w i t) i (exact.step_log e w i t l)) none ∙ goes_none n w v r i le l)

    happened_alike : (w : given.World) (v : World) → Is w v → Inv v → (it : given.Item) (l m : List Mark) → Alike l m →
        Alike (exact.happened_log e gs w it l) (happened_log gs v it m)
    unfolding exact.happened_log happened_log
    happened_alike w v r inv (given.works i n) l m s = pick_both (ltb i crew) (goes_log n gs v i m) m (Alike (exact.goes_log n e gs w i l))
        (λ t. goes_alike n w v r inv i (ltb-true i crew t) l m s)
        (λ t. subst (λ u. Alike u m) (sym (goes_none n w v r i (ltb-false i crew t) l)) s)
    happened_alike w v r inv (given.poke i) l m s = s
    happened_alike w v r inv (given.brings i j) l m s = s
    happened_alike w v r inv (given.falls i) l m s = alike_struck l m s i

    pub all_alike : (is : List given.Item) (w : given.World) (v : World) → Is w v → Inv v → (l m : List Mark) → Alike l m →
        Alike (exact.all_log e gs w is l) (all_log gs v is m)
    unfolding exact.all_log all_log
    all_alike [] w v r inv l m s = s
    all_alike (it ∷ is) w v r inv l m s =
        all_alike is _ _ (happened_is c e imp gs Inv keeps fits handled w v r inv it) (happened_good gs Inv keeps v it inv) _ _
        (happened_alike w v r inv it l m s)

-- ALL EIGHT GAUGES: an engine that does what the records' machine does tells nothing twice, but where a machine was struck just after it told it
pub told_twice_if_struck : (c : Code) (e : Engine) → Implements c e → ToldTwiceIfStruck e
unfolding ToldTwiceIfStruck
told_twice_if_struck c e imp gs is r n h k fine =
    let known : Known gs = record { fine = fine_late gs fine } in
    let kept = keeps_step gs (eight gs known) (rows_fine gs known) in
    let start = start_is c e imp gs (In gs known) kept (sized gs known) (handled gs known) in
    let logs = all_alike h k c e imp gs (In gs known) kept (sized gs known) (handled gs known) is (given.new_world e) new_world start (start_in gs known) [] []
    (alike_start h k) in
    subst₂ (λ ts m. times_told h k ts ≤ 1 + m) (sym (then_is c e imp gs known is r n).told) (sym logs.count)
    (subst (λ m. m ≤ 1 + struck_telling h k (all_log gs new_world is [])) (sym (sums_times h k _)) (few_told gs known h k is r n))
