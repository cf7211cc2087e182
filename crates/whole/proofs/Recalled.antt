-- The events of boot, in the phases that expect them: the machine does what the protocol does.
use Rattle.std.proofs.Common.{◌≡◌, ◌⊎◌, inl, inr, ⊎_elim, ℕ, ◌<◌, true, false, cond, eqb, List, length, Some, None, Option, refl, sym, ap, ◌∙◌, subst, arith}
use Rattle.std.proofs.lemmas.Bool.{both_ways, cond_both, eq-eqb, eqb-true, ne_eqb, lt-ltb}
use Rattle.store.specs.Records.{root_of, cursor_of}
use Rattle.protocol.specs.Boot.{rooted, paged, asks_next, booted_memory}
use Rattle.protocol.specs.Limits.{crew}
use Rattle.protocol.specs.Memory.{Cursor}
use Rattle.protocol.specs.Phases.{Phase, asleep, asks_root, asks_page, asks_cursor, placing, placed, ready, noting, saving, wakes, root_is, page_is, cursor_is}
use Rattle.protocol.specs.Phases as protocol
use Rattle.protocol.specs.Reader.{Root}
use Rattle.protocol.specs.Step.{reacts}
use Rattle.protocol.specs.Tables.{Page}
use Rattle.protocol_world.specs.Sizes.{Sized, MemoryThere, expects}
use Rattle.gauge.specs.Memory.{at, cells, limit, phase_at, index_at, telling_at, me_at, pos_at}
use Rattle.gauge.specs.Views.{phase_of, phase_in, memory_of}
use Rattle.machine.specs.Boot.{recalled, root_recalled, page_recalled, cursor_recalled}
use Rattle.machine.specs.Machine as machine
use Rattle.machine.specs.Run as given
use Rattle.whole.specs.Seen.{begun_with_set, recalls_pages, root_seen, cursor_seen, page_seen}
use Rattle.whole.proofs.Does.{BootDoes}
use Rattle.whole.proofs.Boots.{wakes_does, root_does}
use Rattle.whole.proofs.Paging.{page_does}
use Rattle.whole.proofs.Booted.{cursor_does}

-- PHASES, by their numbers
abbrev pub number_of : Phase → ℕ
number_of asleep = 0
number_of asks_root = 1
number_of (asks_page q) = 2
number_of asks_cursor = 3
number_of placing = 4
number_of placed = 5
number_of ready = 6
number_of (noting m s) = 7
number_of (saving q) = 8

abbrev index_of : Phase → ℕ
index_of asleep = 0
index_of asks_root = 0
index_of (asks_page q) = q
index_of asks_cursor = 0
index_of placing = 0
index_of placed = 0
index_of ready = 0
index_of (noting m s) = s
index_of (saving q) = q

-- a number is that of its phase, or its phase is that of one asleep
numbered : (n i t : ℕ) → (number_of (phase_of n i t) ≡ n) ⊎ (number_of (phase_of n i t) ≡ 0)
numbered n i t =
    by 1 asks_root _ refl (by 2 (asks_page i) _ refl (by 3 asks_cursor _ refl (by 4 placing _ refl (by 5 placed _ refl (by 6 ready _ refl
    (by 7 (noting t i) _ refl (by 8 (saving i) asleep refl (inr refl))))))))
  where
    by : (k : ℕ) (p q : Phase) → number_of p ≡ k → (number_of q ≡ n) ⊎ (number_of q ≡ 0) →
        (number_of (cond (eqb n k) p q) ≡ n) ⊎ (number_of (cond (eqb n k) p q) ≡ 0)
    by k p q e h = cond_both (eqb n k) p q (λ r. (number_of r ≡ n) ⊎ (number_of r ≡ 0)) (λ y. inl (e ∙ sym (eqb-true n k y))) (λ _. h)

pub phase_number : (m : List ℕ) (p : Phase) → phase_in m ≡ p → 0 < number_of p → at m phase_at ≡ number_of p
phase_number m p e lt =
    ⊎_elim (λ h. sym h ∙ ap number_of e) (λ h. absurd (omega (arith, sym (ap number_of e) ∙ h, lt)))
    (numbered (at m phase_at) (at m index_at) (at m telling_at))

pub page_number : (m : List ℕ) (q : ℕ) → phase_in m ≡ asks_page q → at m index_at ≡ q
page_number m q e =
    ap index_of (subst (λ n. phase_of n (at m index_at) (at m telling_at) ≡ asks_page q) (phase_number m (asks_page q) e (omega arith)) e)

-- EVENTS
-- a drawer with no page is not expected
no_page : (p : Phase) → expects p (page_is None) ≡ false
no_page asleep = refl
no_page asks_root = refl
no_page (asks_page q) = refl
no_page asks_cursor = refl
no_page placing = refl
no_page placed = refl
no_page ready = refl
no_page (noting m s) = refl
no_page (saving q) = refl

module _ (m : List ℕ) (len : length m ≡ cells) where
  pub wakes_step : (i : ℕ) → Sized (phase_in m) (memory_of m) (wakes i) →
      BootDoes (reacts (phase_in m) (memory_of m) (wakes i)) (machine.reacts m (given.wakes i))
  wakes_step i z = wakes_does m len i z.event

  -- what is recalled comes to one of the crew
  of_crew : at m me_at < crew → (bs : List ℕ) → machine.reacts m (given.slot bs) ≡ recalled m bs
  of_crew me bs = simp (lt-ltb _ _ me) refl

  pub root_step : (r : Root) (bs : List ℕ) → root_seen bs ≡ r → Sized (phase_in m) (memory_of m) (root_is r) →
      BootDoes (reacts (phase_in m) (memory_of m) (root_is r)) (machine.reacts m (given.slot bs))
  root_step r bs seen z = on (phase_in m) refl z.expected z.before
    where
      on : (p : Phase) → phase_in m ≡ p → expects p (root_is r) ≡ true → MemoryThere p (memory_of m) →
          BootDoes (reacts p (memory_of m) (root_is r)) (machine.reacts m (given.slot bs))
      on asks_root e x there =
          let n : eqb (at m phase_at) 1 ≡ true = eq-eqb _ _ (phase_number m asks_root e (omega arith)) in
          let hour : (root_of bs).hour < limit = omega (arith, ap (λ q. q.hour) seen, z.event.0) in
          let pos : (root_of bs).pos < limit = omega (arith, ap (λ q. q.pos) seen, z.event.1) in
          rw (of_crew there.me bs)
          (simp n (subst (λ q. BootDoes (rooted (memory_of m) q q.set) (root_recalled m bs)) seen (root_does m len there.me bs hour pos)))
      on p e x there = absurd (both_ways _ refl x)

  pub page_step : (o : Option Page) (bs : List ℕ) → (recalls_pages (phase_in m) ≡ true → begun_with_set m ≡ true) → page_seen bs ≡ o →
      Sized (phase_in m) (memory_of m) (page_is o) → BootDoes (reacts (phase_in m) (memory_of m) (page_is o)) (machine.reacts m (given.slot bs))
  page_step None bs begins seen z = absurd (both_ways _ (no_page (phase_in m)) z.expected)
  page_step (Some g) bs begins seen z = on (phase_in m) refl z.expected z.before
    where
      on : (p : Phase) → phase_in m ≡ p → expects p (page_is (Some g)) ≡ true → MemoryThere p (memory_of m) →
          BootDoes (reacts p (memory_of m) (page_is (Some g))) (machine.reacts m (given.slot bs))
      on (asks_page q) e x there =
          let n : at m phase_at ≡ 2 = phase_number m (asks_page q) e (omega arith) in
          let first : eqb (at m phase_at) 1 ≡ false = ne_eqb _ _ (λ y. omega (arith, y, n)) in
          let second : eqb (at m phase_at) 2 ≡ true = eq-eqb _ _ n in
          let index : at m index_at ≡ q = page_number m q e in
          let fits : at m index_at < crew = omega (arith, index, there.1) in
          let begin : begun_with_set m ≡ true = begins (ap recalls_pages e) in
          rw (of_crew there.0.me bs)
          (simp (first, second)
          (subst (λ w. BootDoes (asks_next (paged (memory_of m) w g) w) (page_recalled m bs)) index
          (page_does m len there.0.me bs g fits begin seen)))
      on p e x there = absurd (both_ways _ refl x)

  pub cursor_step : (c : Cursor) (bs : List ℕ) → cursor_seen bs ≡ c → Sized (phase_in m) (memory_of m) (cursor_is c) →
      BootDoes (reacts (phase_in m) (memory_of m) (cursor_is c)) (machine.reacts m (given.slot bs))
  cursor_step c bs seen z = on (phase_in m) refl z.expected z.before
    where
      on : (p : Phase) → phase_in m ≡ p → expects p (cursor_is c) ≡ true → MemoryThere p (memory_of m) →
          BootDoes (reacts p (memory_of m) (cursor_is c)) (machine.reacts m (given.slot bs))
      on asks_cursor e x there =
          let n : at m phase_at ≡ 3 = phase_number m asks_cursor e (omega arith) in
          let first : eqb (at m phase_at) 1 ≡ false = ne_eqb _ _ (λ y. omega (arith, y, n)) in
          let second : eqb (at m phase_at) 2 ≡ false = ne_eqb _ _ (λ y. omega (arith, y, n)) in
          let third : eqb (at m phase_at) 3 ≡ true = eq-eqb _ _ n in
          let hour : (cursor_of bs).hour < limit = omega (arith, ap (λ q. q.hour) seen, z.event.0) in
          let slot : (cursor_of bs).cell < limit = omega (arith, ap (λ q. q.slot) seen, z.event.1) in
          rw (of_crew there.me bs)
          (simp (first, second, third)
          (subst (λ q. BootDoes (protocol.does placed (booted_memory (memory_of m) q) (protocol.from (at m pos_at))) (cursor_recalled m bs)) seen
          (cursor_does m bs len there.me hour slot)))
      on p e x there = absurd (both_ways _ refl x)
