-- A step is seen as a reaction: what is sound is so again, and the events of boot.
use Rattle.std.proofs.Common.{◌≡◌, ℕ, zero, suc, Bool, true, false, cond, not, eqb, List, length, replicate, Option, refl, sym, ap, ◌∙◌, subst}
use Rattle.std.proofs.lemmas.List.{length-replicate}
use Rattle.std.proofs.lemmas.Bool.{and_parts, and_from, both_ways, eq-eqb, eqb-true}
use Rattle.sums.specs.Sums.{or, every}
use Rattle.protocol.specs.Phases.{asleep, wakes, root_is, page_is, cursor_is, Reaction}
use Rattle.protocol.specs.Memory.{Cursor}
use Rattle.protocol.specs.Reader.{Root}
use Rattle.protocol.specs.Step.{reacts}
use Rattle.protocol.specs.Tables.{Page}
use Rattle.protocol_world.specs.Sizes.{Sized}
use Rattle.protocol_bridge.specs.Views.{EventSeen, StepSeen}
use Rattle.gauge.specs.Memory.{at, cells, phase_at, index_at, telling_at}
use Rattle.gauge.specs.Views.{phase_of, phase_in, memory_of}
use Rattle.machine.specs.Entry.{own}
use Rattle.machine.specs.Machine as machine
use Rattle.machine.specs.Machine.{machine_step}
use Rattle.machine.specs.Run as given
use Rattle.machine.specs.Run.{Steady, all_small}
use Rattle.whole.specs.Seen.{own_views, sound, is_up, filled_as_said, recalls_pages, begun_with_set}
use Rattle.whole.proofs.Boots.{zero_at}
use Rattle.whole.proofs.Choosing.{Does}
use Rattle.whole.proofs.Does.{BootDoes}
use Rattle.whole.proofs.Recalled.{wakes_step, root_step, page_step, cursor_step}

-- WHAT IS SOUND, part by part
pub record Sound (m : List ℕ) : Type 0 where
  pub long : length m ≡ cells
  pub small : all_small m ≡ true
  pub said : is_up (phase_in m) ≡ true → filled_as_said m ≡ true
  pub begun : recalls_pages (phase_in m) ≡ true → begun_with_set m ≡ true

if_so : (a b : Bool) → or (not a) b ≡ true → a ≡ true → b ≡ true
if_so true b h e = h
if_so false b h e = absurd (both_ways _ refl e)

or_not : (a b : Bool) → (a ≡ true → b ≡ true) → or (not a) b ≡ true
or_not true b h = h refl
or_not false b h = refl

pub sound_parts : (m : List ℕ) → sound m ≡ true → Sound m
sound_parts m h =
    let p = and_parts (eqb (length m) cells) _ h in
    let q = and_parts (all_small m) _ p.1 in
    let r = and_parts (or (not (is_up (phase_in m))) (filled_as_said m)) _ q.1 in
    record { long = eqb-true _ _ p.0; small = q.0; said = if_so _ _ r.0; begun = if_so _ _ r.1 }

pub sound_again : (m : List ℕ) → Sound m → sound m ≡ true
sound_again m s = and_from _ _ (eq-eqb _ _ s.long) (and_from _ _ s.small (and_from _ _ (or_not _ _ s.said) (or_not _ _ s.begun)))

-- once it has booted no pages are recalled
pub usual : (r : Reaction) (d : _) → Does r d → recalls_pages r.phase ≡ false → BootDoes r d
usual r d h e = record { phase = h.phase; memory = h.memory; said = λ _. h.said; begun = λ x. absurd (both_ways _ e x); act = h.act }

module _ (steady : Steady own) (m : List ℕ) (ok : Sound m) where
  -- the length stays, and numbers stay small
  pub stepped : (r : Reaction) (ev : given.Event) → BootDoes r (machine.reacts m ev) → StepSeen own_views r (machine_step m ev)
  unfolding machine_step Steady own
  stepped r ev d =
      let kept = steady.2 m ev in
      let done = machine.reacts m ev in
      let is : machine_step m ev ≡ machine.as_step done =
      ap (λ b. cond b (machine.as_step done) (record { memory = m; act = given.rests })) (eq-eqb _ _ ok.long) in
      let long : length done.memory ≡ cells = subst (λ s. length s.memory ≡ length m) is kept.0 ∙ ok.long in
      let small : all_small done.memory ≡ true = subst (λ s. all_small s.memory ≡ true) is (kept.1 ok.small) in
      subst (λ s. StepSeen own_views r s) (sym is)
      (record {
        phase = d.phase;
        memory = d.memory;
        sound = sound_again done.memory (record {
          long = long;
          small = small;
          said = λ e. d.said (sym (ap is_up d.phase) ∙ e);
          begun = λ e. d.begun (sym (ap recalls_pages d.phase) ∙ e);
        });
        act = d.act;
      })

  -- THE EVENTS OF BOOT
  pub wakes_mirrored : (i : ℕ) (ev : given.Event) → EventSeen own_views (wakes i) ev → Sized (phase_in m) (memory_of m) (wakes i) →
      StepSeen own_views (reacts (phase_in m) (memory_of m) (wakes i)) (machine_step m ev)
  wakes_mirrored i ev seen z =
      let r : Reaction = reacts (phase_in m) (memory_of m) (wakes i) in
      stepped r ev (subst (λ e. BootDoes r (machine.reacts m e)) (sym seen) (wakes_step m ok.long i z))

  pub root_mirrored : (r : Root) (ev : given.Event) → EventSeen own_views (root_is r) ev → Sized (phase_in m) (memory_of m) (root_is r) →
      StepSeen own_views (reacts (phase_in m) (memory_of m) (root_is r)) (machine_step m ev)
  root_mirrored r ev seen z =
      let x : Reaction = reacts (phase_in m) (memory_of m) (root_is r) in
      stepped x ev (subst (λ e. BootDoes x (machine.reacts m e)) (sym seen.1) (root_step m ok.long r seen.0 seen.2 z))

  pub page_mirrored : (o : Option Page) (ev : given.Event) → EventSeen own_views (page_is o) ev → Sized (phase_in m) (memory_of m) (page_is o) →
      StepSeen own_views (reacts (phase_in m) (memory_of m) (page_is o)) (machine_step m ev)
  page_mirrored o ev seen z =
      let x : Reaction = reacts (phase_in m) (memory_of m) (page_is o) in
      stepped x ev (subst (λ e. BootDoes x (machine.reacts m e)) (sym seen.1) (page_step m ok.long o seen.0 ok.begun seen.2 z))

  pub cursor_mirrored : (c : Cursor) (ev : given.Event) → EventSeen own_views (cursor_is c) ev → Sized (phase_in m) (memory_of m) (cursor_is c) →
      StepSeen own_views (reacts (phase_in m) (memory_of m) (cursor_is c)) (machine_step m ev)
  cursor_mirrored c ev seen z =
      let x : Reaction = reacts (phase_in m) (memory_of m) (cursor_is c) in
      stepped x ev (subst (λ e. BootDoes x (machine.reacts m e)) (sym seen.1) (cursor_step m ok.long c seen.0 seen.2 z))

-- THE START: all is zero
all_zero : (n : ℕ) → all_small (replicate n 0) ≡ true
unfolding every all_small
all_zero zero = refl
all_zero (suc n) = all_zero n

start_phase : (n : ℕ) → phase_in (replicate n 0) ≡ asleep
start_phase n = ap (λ a. phase_of a (at (replicate n 0) index_at) (at (replicate n 0) telling_at)) (zero_at n phase_at)

pub own_asleep : phase_in own.start ≡ asleep
unfolding own
own_asleep = start_phase cells

pub own_start_sound : sound own.start ≡ true
unfolding own
own_start_sound = sound_again (replicate cells 0) (record {
  long = length-replicate {A = ℕ} cells 0;
  small = all_zero cells;
  said = λ e. absurd (both_ways _ (ap is_up (start_phase cells)) e);
  begun = λ e. absurd (both_ways _ (ap recalls_pages (start_phase cells)) e);
})
