-- Memories that are the same where they are looked at choose the same.
use Rattle.std.proofs.Common.{◌≡◌, ℕ, suc, ◌+◌, ◌*◌, ◌/◌, ◌<◌, Bool, true, false, not, ◌&&◌, eqb, ltb, Some, None, Option, refl, ap, ap₂, ◌∙◌, subst, arith}
use Rattle.std.proofs.lemmas.Bool.{both_ways}
use Rattle.sums.specs.Cells.{slots}
use Rattle.sums.specs.Sums.{pick, or, Reading}
use Rattle.sums.proofs.Picks.{pick_two}
use Rattle.protocol.specs.Adder.{place, entry_heard, next_slot, tells_slot}
use Rattle.protocol.specs.Bounds.{ready_hour}
use Rattle.protocol.specs.Choose.{chooses, chooses_next}
use Rattle.protocol.specs.Entries.{join, one_entry}
use Rattle.protocol.specs.GoingOn.{may_go_on, goes_on}
use Rattle.protocol.specs.Limits.{crew}
use Rattle.protocol.specs.Mail.{sends_next, unpaused, next_due}
use Rattle.protocol.specs.Memory.{Cursor, Mail, Memory, passed_of}
use Rattle.protocol.specs.OpenHours.{no_tables}
use Rattle.protocol.specs.Phases.{Phase, ready, noting, Event, letter, page_is, Act, more, sends, keep_page, tells, rests, Reaction, does}
use Rattle.protocol.specs.Reader.{PageSet, Stage, begun, whole, ended, is_reading, is_fresh}
use Rattle.protocol.specs.Searches.{find, put}
use Rattle.protocol.specs.Statements.{said_of, Letter}
use Rattle.protocol.specs.Tables.{Page, Tables, blank_page, with_page, with_reading}
use Rattle.protocol.proofs.Searches.{on_find}
use Rattle.protocol_bridge.specs.Same.{SamePage, SameTables, SameFrom, SameOpen, reader_with, SameMemory, same_memory, SameLetter, same_letter}
use Rattle.protocol_bridge.proofs.Alike.{find_alike, all_alike, said_same, hour_same, passed_same, sums_same, slot_same, ready_same, me_low, me_now}

-- LETTERS, EVENTS, ACTS
pub data SameEvent : Event → Event → Type 0 where
  same_event : (h : Event) → SameEvent h h
  same_given : (j : ℕ) (l k : Letter) → SameLetter l k → SameEvent (letter j l) (letter j k)
  same_page : (p q : Page) → SamePage p q → SameEvent (page_is (Some p)) (page_is (Some q))

pub data SameAct : Act → Act → Type 0 where
  same_act : (d : Act) → SameAct d d
  same_sends : (j : ℕ) (l k : Letter) → SameLetter l k → SameAct (sends j l) (sends j k)
  same_keeps : (w : PageSet) (j : ℕ) (p q : Page) → SamePage p q → SameAct (keep_page w j p) (keep_page w j q)

pub data SameReaction : Reaction → Reaction → Type 0 where
  same_done : (p : Phase) (b c : Memory) (d e : Act) → SameMemory b c → SameAct d e → SameReaction (does p b d) (does p c e)

-- PARTS
abbrev pub memory_of : (me : ℕ) → Stage → ℕ → (ℕ → Tables) → PageSet → Bool → (kept base : ℕ) → Cursor → Mail → Memory
memory_of me s p t w pa k o cu m = record { me = me; reader = reader_with s p t w pa k o; cursor = cu; mail = m }

pub page_itself : (p : Page) → SamePage p p
page_itself p = record { entries = λ _ _. refl }

pub put_same_at : {A : Type 0} (f g : ℕ → A) (i : ℕ) (x y : A) (P : A → A → Type 0) → P x y → (j : ℕ) → P (f j) (g j) → P (put f i x j) (put g i y j)
put_same_at f g i x y P e j h = on (eqb j i)
  where
    on : (b : Bool) → P (pick b x (f j)) (pick b y (g j))
    on true = e
    on false = h

pub with_reading_same : (p q : Page) (r : Reading) → r.key / crew < slots → SamePage p q → SamePage (with_reading p r) (with_reading q r)
unfolding with_reading
with_reading_same p q r lt e = record {
  entries = λ s ls. put_same_at p.entries q.entries (r.key / crew) _ _ (λ a b. a ≡ b) (ap (λ n. join n (one_entry r)) (e.entries (r.key / crew) lt)) s
      (e.entries s ls);
}

pub tables_put : (t u : Tables) (i : ℕ) (p q : Page) → SamePage p q → SameTables t u → SameTables (with_page t i p) (with_page u i q)
tables_put t u i p q e h j lj = put_same_at t.page u.page i p q SamePage e j (h j lj)

-- WHAT IT CHOOSES
module _ (b c : Memory) (e : SameMemory b c) where
  done_plain : (p : Phase) (d : Act) → SameReaction (does p b d) (does p c d)
  done_plain p d = same_done p b c d d e (same_act d)

  reads_on_same : is_reading b.reader.stage && not b.reader.paused ≡ is_reading c.reader.stage && not c.reader.paused
  reads_on_same = on b c e
    where
      on : (b c : Memory) → SameMemory b c → is_reading b.reader.stage && not b.reader.paused ≡ is_reading c.reader.stage && not c.reader.paused
      on _ _ (same_memory me s p t u w pa k o₁ o₂ cu m n lt h e) = refl

may_at : (b c : Memory) → ((i : ℕ) → i < crew → passed_of b i ≡ passed_of c i) → (s : Stage) → may_go_on b s ≡ may_go_on c s
may_at b c h (begun g) = refl
may_at b c h (whole g nx) = all_alike _ _ crew (λ i li. ap (ltb g) (h i li))
may_at b c h ended = refl

may_on : (b c : Memory) → SameMemory b c → ((i : ℕ) → i < crew → passed_of b i ≡ passed_of c i) → may_go_on b b.reader.stage ≡ may_go_on c c.reader.stage
may_on _ _ (same_memory me s p t u w pa k o₁ o₂ cu m n lt h e) f =
    may_at (record { me = me; reader = reader_with s p t w pa k o₁; cursor = cu; mail = m }) (record {
      me = me;
      reader = reader_with s p u w pa k o₂;
      cursor = cu;
      mail = n;
    }) f s

pub may_same : (b c : Memory) → SameMemory b c → may_go_on b b.reader.stage ≡ may_go_on c c.reader.stage
may_same b c e = may_on b c e (passed_same b c e)

pub due_same : (b c : Memory) → SameMemory b c → (j : ℕ) → j < crew → b.mail.due j ≡ c.mail.due j
due_same _ _ (same_memory me s p t u w pa k o₁ o₂ cu m n lt h e) j lj = e.due j lj

pub tables_same : (lo : ℕ) → SameFrom lo no_tables no_tables
tables_same lo h j le lj = page_itself blank_page

pub goes_same : (b c : Memory) → SameMemory b c → may_go_on b b.reader.stage ≡ true → SameReaction (goes_on b) (goes_on c)
goes_same _ _ (same_memory me s p t u w pa k o₁ o₂ cu m n lt h e) may = by_stage s h may
  where
    by_stage : (s : Stage) → SameOpen s t u → may_go_on (memory_of me s p t w pa k o₁ cu m) s ≡ true →
        SameReaction (goes_on (memory_of me s p t w pa k o₁ cu m)) (goes_on (memory_of me s p u w pa k o₂ cu n))
    by_stage (begun f) q may = absurd (both_ways _ refl may)
    by_stage (whole c nx) q may = same_done ready _ _ _ _ (same_memory me (begun (suc c)) p t u w false k (suc c) (suc c) cu m n lt
        (λ a j l lj. q a j (omega arith) lj) e) (same_act _)
    by_stage ended q may = absurd (both_ways _ refl may)

rests_same : (b c : Memory) → SameMemory b c → SameReaction (does ready (unpaused b) rests) (does ready (unpaused c) rests)
rests_same _ _ (same_memory me s p t u w pa k o₁ o₂ cu m n lt h e) = same_done ready _ _ _ _ (same_memory me s p t u w false k o₁ o₂ cu m n lt h e) (same_act _)

sends_same : (b c : Memory) → SameMemory b c → (j : ℕ) → j < crew → SameReaction (sends_next b (Some j)) (sends_next c (Some j))
sends_same _ _ (same_memory me s p t u w pa k o₁ o₂ cu m n lt h e) j lj =
    same_done ready _ _ _ _
    (same_memory me s p t u w pa k o₁ o₂ cu _ _ lt h (record {
      word = e.word;
      passed = e.passed;
      due = λ i li. put_same_at m.due n.due j false false (λ a b. a ≡ b) refl i (e.due i li);
      woke = λ i li. put_same_at m.woke n.woke j false false (λ a b. a ≡ b) refl i (e.woke i li);
    }))
    (subst (λ v. SameAct (sends j (record { woke = m.woke j; passed = cu.hour; says = said_of s t j }))
    (sends j (record { woke = v; passed = cu.hour; says = said_of s u j }))) (e.woke j lj)
    (same_sends j _ _ (same_letter (m.woke j) cu.hour _ _ (said_same s t u j lj h))))

passes_same : (b c : Memory) → SameMemory b c → (g : ℕ) → SameReaction (tells_slot b g None) (tells_slot c g None)
passes_same _ _ (same_memory me s p t u w pa k o₁ o₂ cu m n lt h e) g = same_done ready _ _ _ _
    (same_memory me s p t u w pa k o₁ o₂ (record { hour = suc g; slot = 0 }) _ _ lt h (record {
      word = e.word;
      passed = e.passed;
      due = λ i li. ap₂ (λ d v. or d (not (eqb i me) && v)) (e.due i li) (hour_same g (e.word i li));
      woke = e.woke;
    }))
    (same_act _)

tells_same : (b c : Memory) → SameMemory b c → (g s : ℕ) → s < slots → SameReaction (tells_slot b g (Some s)) (tells_slot c g (Some s))
tells_same b c e g s ls =
    let low : place b s / crew < slots = omega (arith, me_low b c e) in
    let at : place b s ≡ place c s = ap (λ n. crew * s + n) (me_now b c e) in
    subst (λ v. SameReaction (tells_slot b g (Some s)) (does (noting g s) c (tells g v (entry_heard c g v)))) at
    (subst (λ v. SameReaction (tells_slot b g (Some s)) (does (noting g s) c (tells g (place b s) v))) (sums_same b c e g (place b s) low)
    (done_plain b c e (noting g s) _))

fresh_same : (b c : Memory) → SameMemory b c → is_fresh b.reader ≡ is_fresh c.reader
fresh_same _ _ (same_memory me s p t u w pa k o₁ o₂ cu m n lt h e) = refl

pub chooses_same : (b c : Memory) → SameMemory b c → SameReaction (chooses b) (chooses c)
unfolding next_slot
chooses_same b c e = pick_two _ _ (reads_on_same b c e) _ _ _ _ SameReaction (λ _. done_plain b c e ready more) (λ _.
    subst (λ o. SameReaction (chooses_next b (ready_hour b)) (chooses_next c o)) (ready_same b c e) (by_hour (ready_hour b)))
  where
    by_find : SameReaction (sends_next b (find b.mail.due crew)) (sends_next c (find c.mail.due crew))
    by_find = subst (λ o. SameReaction (sends_next b (find b.mail.due crew)) (sends_next c o)) (find_alike b.mail.due c.mail.due crew (due_same b c e))
        (on_find b.mail.due crew (λ o. SameReaction (sends_next b o) (sends_next c o)) (λ j f. sends_same b c e j f.below) (λ _. rests_same b c e))

    by_due : SameReaction (sends_next b (next_due b)) (sends_next c (next_due c))
    by_due = pick_two (is_fresh b.reader) (is_fresh c.reader) (fresh_same b c e) _ _ _ _ (λ o₁ o₂. SameReaction (sends_next b o₁) (sends_next c o₂))
        (λ _. rests_same b c e) (λ _. by_find)

    by_hour : (o : Option ℕ) → SameReaction (chooses_next b o) (chooses_next c o)
    by_hour (Some g) = subst (λ o. SameReaction (tells_slot b g (next_slot b g)) (tells_slot c g o)) (slot_same b c e g)
        (on_find _ slots (λ o. SameReaction (tells_slot b g o) (tells_slot c g o)) (λ s f. tells_same b c e g s f.below) (λ _. passes_same b c e g))
    by_hour None = pick_two (may_go_on b b.reader.stage) (may_go_on c c.reader.stage) (may_same b c e) _ _ _ _ SameReaction
        (λ may. goes_same b c e (may_same b c e ∙ may)) (λ _. by_due)
