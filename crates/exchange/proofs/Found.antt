-- What a search finds is below its end.
use Rattle.std.proofs.Common.{◌≡◌, ℕ, zero, suc, ◌<◌, Bool, true, false, Some, None, Option, refl, arith}
use Rattle.sums.specs.Sums.{pick}
use Rattle.protocol.specs.Adder.{next_slot}
use Rattle.protocol.specs.Limits.{crew}
use Rattle.sums.specs.Cells.{slots}
use Rattle.protocol.specs.Mail.{next_due}
use Rattle.protocol.specs.Memory.{Memory}
use Rattle.protocol.specs.Reader.{is_fresh}
use Rattle.protocol.specs.Searches.{find}

abbrev pub Below : ℕ → Option ℕ → Type 0
Below n (Some k) = k < n
Below n None = Unit {0}

last : (b : Bool) (n : ℕ) → Below (suc n) (pick b (Some n) None)
last true n = omega arith
last false n = tt

further : (f : ℕ → Bool) (n : ℕ) (o : Option ℕ) → Below n o → Below (suc n) (elim o as (λ _. Option ℕ) [ Some k ↦ Some k | None ↦ pick (f n) (Some n) None ])
further f n (Some k) lt = omega arith
further f n None lt = last (f n) n

pub found_below : (f : ℕ → Bool) (n : ℕ) → Below n (find f n)
unfolding find
found_below f zero = tt
found_below f (suc n) = further f n (find f n) (found_below f n)

pub slot_below : (b : Memory) (h : ℕ) → Below slots (next_slot b h)
unfolding next_slot
slot_below b h = found_below _ slots

pub due_below : (b : Memory) → Below crew (next_due b)
due_below b = go (is_fresh b.reader)
  where
    go : (f : Bool) → Below crew (pick f None (find b.mail.due crew))
    go true = tt
    go false = found_below b.mail.due crew
