-- What a machine chooses, as a rule: P holds of it if it holds of each outcome.
use Rattle.std.proofs.Common.{◌≡◌, ℕ, ◌<◌, true, false, eqb, leb, Some, None, Option, ap, ◌&&◌, Bool, refl, ◌∙◌}
use Rattle.std.proofs.lemmas.Bool.{both_ways}
use Rattle.sums.specs.Cells.{slots}
use Rattle.sums.specs.Sums.{pick}
use Rattle.sums.proofs.Picks.{pick_both}
use Rattle.protocol.specs.Adder.{from_slot, comes_heard, place, next_slot, tells_slot}
use Rattle.protocol.specs.Bounds.{bound, lets, from_hour, ready_hour, Bound, unknown, never, least, let_hour}
use Rattle.protocol.specs.Choose.{chooses, chooses_next}
use Rattle.protocol.specs.GoingOn.{may_go_on, goes_on}
use Rattle.protocol.specs.Limits.{crew}
use Rattle.protocol.specs.Mail.{unpaused, sends_next}
use Rattle.protocol.specs.Memory.{Memory, heard_of}
use Rattle.protocol.specs.Phases.{ready, Reaction, does, more, rests}
use Rattle.protocol.specs.Reader.{Stage, begun, whole, ended, is_reading, reads_on, is_fresh}
use Rattle.protocol.specs.Searches.{find, all_below}
use Rattle.protocol.proofs.Least.{LeastIs, least_is}
use Rattle.protocol.proofs.Searches.{Found, NoneBelow, on_find, all_at}

-- there is nothing to do
pub record Quiet (b : Memory) : Type 0 where
  pub idle : is_reading b.reader.stage ≡ false
  pub waits : ready_hour b ≡ None
  pub stays : may_go_on b b.reader.stage ≡ false
  pub said : (j : ℕ) → j < crew → b.mail.due j ≡ false

-- there is nothing to do, but to read on where it has paused
pub record Waits (b : Memory) : Type 0 where
  pub held : reads_on b.reader ≡ false
  pub waits : ready_hour b ≡ None
  pub stays : may_go_on b b.reader.stage ≡ false
  pub said : is_fresh b.reader ≡ false → (j : ℕ) → j < crew → b.mail.due j ≡ false

pub quiet_then : (b : Memory) → Waits b → is_reading b.reader.stage ≡ false → Quiet (unpaused b)
unfolding ready_hour
quiet_then b w e = record { idle = e; waits = w.waits; stays = by_stage b.reader.stage w.stays; said = w.said (ap (λ r. r && eqb b.reader.pos 0) e) }
  where
    by_stage : (s : Stage) → may_go_on b s ≡ false → may_go_on (unpaused b) s ≡ false
    by_stage (begun c) e = e
    by_stage (whole c nx) e = e
    by_stage ended e = e

-- hour m can be told
pub record HourIs (b : Memory) (m : ℕ) : Type 0 where
  pub least : LeastIs (λ i. bound b.cursor.hour (heard_of b i)) crew (from_hour m)
  pub free : (i : ℕ) → i < crew → lets b.cursor.hour m (heard_of b i) ≡ true

module _ (b : Memory) where
  abbrev bounds : ℕ → Bound
  bounds i = bound b.cursor.hour (heard_of b i)

  pub on_ready : (P : Option ℕ → Type 0) → ((m : ℕ) → HourIs b m → P (Some m)) → (ready_hour b ≡ None → P None) → P (ready_hour b)
  unfolding ready_hour
  on_ready P some none = go (least bounds crew) refl (least_is bounds crew)
    where
      go : (d : Bound) → least bounds crew ≡ d → LeastIs bounds crew d → P (let_hour b d)
      go unknown e h = none (ap (let_hour b) e)
      go (from_hour m) e h = pick_both (all_below (λ i. lets b.cursor.hour m (heard_of b i)) crew) (Some m) None P
          (λ q. some m (record { least = h; free = all_at (λ i. lets b.cursor.hour m (heard_of b i)) crew q }))
          (λ q. none (ap (let_hour b) e ∙ ap (λ t. pick t (Some m) None) q))
      go never e h = none (ap (let_hour b) e)

  abbrev pub slot_left : (m : ℕ) → ℕ → Bool
  slot_left m s = leb (from_slot b.cursor m) s && comes_heard b m (place b s)

  pub record Choices (P : Reaction → Type 0) : Type 0 where
    pub reads : reads_on b.reader ≡ true → P (does ready b more)
    pub tells : (m : ℕ) → HourIs b m → (s : ℕ) → Found (slot_left m) slots s → P (tells_slot b m (Some s))
    pub passes : (m : ℕ) → HourIs b m → NoneBelow (slot_left m) slots → P (tells_slot b m None)
    pub goes : may_go_on b b.reader.stage ≡ true → P (goes_on b)
    pub sends : (j : ℕ) → Found b.mail.due crew j → P (sends_next b (Some j))
    pub rests : Waits b → P (does ready (unpaused b) rests)

  pub on_chooses : (P : Reaction → Type 0) → Choices P → P (chooses b)
  unfolding next_slot
  on_chooses P c = pick_both (reads_on b.reader) _ _ P c.reads (λ held.
      on_ready (λ o. P (chooses_next b o))
      (λ m hour. on_find (slot_left m) slots (λ o. P (tells_slot b m o)) (λ s f. c.tells m hour s f) (λ f. c.passes m hour f))
      (λ waits. pick_both (may_go_on b b.reader.stage) _ _ P c.goes (λ stays.
      pick_both (is_fresh b.reader) None (find b.mail.due crew) (λ o. P (sends_next b o))
      (λ fresh. c.rests (record { held = held; waits = waits; stays = stays; said = λ no. absurd (both_ways _ no fresh) }))
      (λ _. on_find b.mail.due crew (λ o. P (sends_next b o)) c.sends
      (λ f. c.rests (record { held = held; waits = waits; stays = stays; said = λ _. f }))))))
