-- An engine that implements the machine of records keeps the main promise, whatever the gauges have.
use Rattle.std.proofs.Common.{length, ◌≡◌, ℕ, suc, ◌<◌, true, ltb, get_or, arith, Some, List, sym, ◌∙◌, subst, leb, ◌+◌}
use Rattle.std.proofs.lemmas.Bool.{ltb-true}
use Rattle.sums.specs.Parts.{no_reading}
use Rattle.sums.specs.Sums.{every, Gauges, is_right, all_told}
use Rattle.sums.proofs.Picks.{pick_both}
use Rattle.machine.specs.Run.{Engine, Steady, machine_at, nth_row}
use Rattle.machine.specs.Run as given
use Rattle.protocol.specs.Boot.{rooted}
use Rattle.protocol.specs.Checkpoints.{pausing}
use Rattle.protocol.specs.Choose.{chooses}
use Rattle.protocol.specs.Limits.{kept_pages, crew, half_roll}
use Rattle.protocol.specs.Mail.{with_letter}
use Rattle.protocol.specs.Memory.{Memory}
use Rattle.protocol.specs.Phases.{Phase, Event, Reaction}
use Rattle.protocol.specs.Reader.{PageSet, no_set, first_set, second_set, other_set, Root}
use Rattle.protocol.specs.Reading.{reads, ends}
use Rattle.protocol.specs.Step.{reacts}
use Rattle.protocol.proofs.Choosing.{on_chooses}
use Rattle.protocol_world.specs.Runs.{all_happened, calm}
use Rattle.protocol_world.specs.Theorems.{EnoughCalm, AllToldInCalm, AllReleased}
use Rattle.protocol_world.specs.Wall.{Told}
use Rattle.protocol_world.specs.Worlds.{Node, World, new_world}
use Rattle.protocol_world.proofs.Invariant.{row, Awaits, is_waking, is_asking_root, is_asking_page, is_asking_cursor, is_placing, is_placed, is_noting, is_saving, is_going, is_reading_one, is_full, is_ending, is_given}
use Rattle.protocol_world.proofs.Rows.{fine_late}
use Rattle.protocol_world.proofs.Safety.{Known, eight, rows_fine}
use Rattle.protocol_world.proofs.Sizes.{sized}
use Rattle.protocol_world.proofs.SyncRuns.{keeps_step}
use Rattle.protocol_world.proofs.Theorems.{all_told_in_calm, all_released}
use Rattle.protocol_world.proofs.Together.{In, start_in, happened_in, calm_in, some_rounds, some_acts, some_calm}
use Rattle.protocol_world.proofs.Wall.{sums_right, sums_all}
use Rattle.promise.specs.Promise.{Safe, Whole, everything}
use Rattle.protocol_bridge.specs.Engines.{Code, Implements}
use Rattle.protocol_bridge.proofs.Simulated.{all_is, calm_is, start_is}
use Rattle.protocol_bridge.proofs.Simulation.{Handled, WorldIs}

-- the pages that are kept and recalled are those of a set
other_is_set : (s : PageSet) → other_set s ≡ no_set → ⊥
other_is_set no_set e = cc
other_is_set first_set e = cc
other_is_set second_set e = cc

chooses_handled : (b : Memory) → Handled (chooses b).act
chooses_handled b = on_chooses b (λ d. Handled d.act)
    (record { reads = λ _. tt; tells = λ m _ s _. tt; passes = λ m _ _. tt; goes = λ _. tt; sends = λ j _. tt; rests = λ _. tt })

rooted_handled : (b : Memory) (r : Root) (s : PageSet) → Handled (rooted b r s).act
rooted_handled b r no_set = tt
rooted_handled b r first_set = (λ e. cc, omega arith)
rooted_handled b r second_set = (λ e. cc, omega arith)

handled_on : (gs : Gauges) (ts : List Told) (i : ℕ) (x : Node) (p : Phase) (h : Event) → Awaits gs ts i x p (Some h) → Handled (reacts p x.memory h).act
handled_on gs ts i x _ _ is_waking = tt
handled_on gs ts i x _ _ (is_asking_root me) = rooted_handled x.memory x.root x.root.set
handled_on gs ts i x _ _ (is_asking_page q pg there me no_c lt some st at set kp bs same bare) =
    pick_both (ltb (suc q) kept_pages) _ _ (λ (d : Reaction). Handled d.act)
    (λ t. (λ e. some (sym set ∙ e), ltb-true (suc q) kept_pages t)) (λ _. tt)
handled_on gs ts i x _ _ (is_asking_cursor me no_c r at set kp bs rd) = tt
handled_on gs ts i x _ _ (is_placing is f) = tt
handled_on gs ts i x _ _ (is_placed is f at) = tt
handled_on gs ts i x _ _ (is_noting m s k at le c some few next empty) = tt
handled_on gs ts i x _ _ (is_saving q k lt m same) = pick_both (ltb (suc q) kept_pages) _ _ (λ (d : Reaction). Handled d.act)
    (λ t. (other_is_set x.memory.reader.set, ltb-true (suc q) kept_pages t)) (λ _. tt)
handled_on gs ts i x _ _ (is_going a at) = chooses_handled x.memory
handled_on gs ts i x _ _ (is_reading_one k r l at hi) = chooses_handled
    (reads x.memory x.memory.reader.stage (get_or (row gs i) x.memory.reader.pos no_reading))
handled_on gs ts i x _ _ (is_full k r at full) = pick_both (leb (x.memory.reader.kept + half_roll) x.memory.reader.pos) _ _ (λ (d : Reaction). Handled d.act)
    (λ _. (other_is_set x.memory.reader.set, omega arith)) (λ _. chooses_handled (pausing x.memory))
handled_on gs ts i x _ _ (is_ending k r le) = pick_both (ltb x.memory.reader.kept x.memory.reader.pos) _ _ (λ (d : Reaction). Handled d.act)
    (λ _. (other_is_set x.memory.reader.set, omega arith)) (λ _. chooses_handled (ends x.memory x.memory.reader.stage))
handled_on gs ts i x _ _ (is_given j l lj ne k at) = chooses_handled (with_letter x.memory j l)

pub handled : (gs : Gauges) (known : Known gs) (v : World) → In gs known v → (i : ℕ) → i < crew → (h : Event) → (v.node i).pending ≡ Some h →
    Handled (reacts (v.node i).phase (v.node i).memory h).act
handled gs known v k i lt h e = handled_on gs v.told i (v.node i) (v.node i).phase h
    (subst (Awaits gs v.told i (v.node i) (v.node i).phase) e (k.good.own i lt).awaits)

module _ (c : Code) (e : Engine) (imp : Implements c e) where
  module _ (gs : Gauges) (known : Known gs) (is : List given.Item) where
    abbrev pub given_now : given.World
    given_now = given.all_happened e gs (given.new_world e) is

    abbrev pub now : World
    now = all_happened gs new_world is

    pub now_is : WorldIs c given_now now
    now_is = all_is c e imp gs (In gs known) (keeps_step gs (eight gs known) (rows_fine gs known)) (sized gs known) (handled gs known) is
        (given.new_world e) new_world
        (start_is c e imp gs (In gs known) (keeps_step gs (eight gs known) (rows_fine gs known)) (sized gs known) (handled gs known)) (start_in gs known)

    pub then_is : (k n : ℕ) → WorldIs c (given.calm k n e gs given_now) (calm k n gs now)
    then_is k n = calm_is c e imp gs (In gs known) (keeps_step gs (eight gs known) (rows_fine gs known)) (sized gs known)
        (handled gs known) k n given_now now now_is (happened_in gs known is)

    safe_as : (w : given.World) (v : World) → WorldIs c w v → In gs known v → Safe gs w
    unfolding Safe
    safe_as w v r h = (r.fault ∙ h.good.fault, subst (λ ts. every (is_right gs) ts ≡ true) (sym r.told) (sums_right gs v.told h.good.right))

    pub safe : Safe gs given_now × ((k n : ℕ) → Safe gs (given.calm k n e gs given_now))
    safe = (safe_as given_now now now_is (happened_in gs known is), λ k n. safe_as _ _ (then_is k n) (calm_in gs known is k n))

    pub told_then : (k n : ℕ) → EnoughCalm gs now k n → all_told gs (given.calm k n e gs given_now).told ≡ true
    unfolding AllToldInCalm
    told_then k n enough =
        subst (λ ts. all_told gs ts ≡ true) (sym (then_is k n).told) (sums_all gs (calm k n gs now).told (all_told_in_calm gs is k n known.fine enough))

    -- in calm that is enough, each machine releases its whole row
    pub released_then : (k n : ℕ) → EnoughCalm gs now k n → (i : ℕ) → i < crew →
        (machine_at (given.calm k n e gs given_now).machines i).gone ≡ length (nth_row gs i)
    unfolding AllReleased
    released_then k n enough i lt = ((then_is k n).nodes i lt).gone ∙ all_released gs is k n known.fine enough i lt

  -- ALL EIGHT GAUGES, whatever they have
  pub whole : Steady e → Whole everything e
  unfolding Whole
  whole steady = (
    steady,
    λ gs is fine _ _.
        let known : Known gs = record { fine = fine_late gs fine } in
        let ok = safe gs known is in
        let told = told_then gs known is (some_rounds gs known is) (some_acts gs known is) (some_calm gs known is) in
        (ok.0, ok.1, (some_rounds gs known is, some_acts gs known is, told)),
  )
