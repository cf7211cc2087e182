-- What is due, and letters, in what is left to do; and how much less is left behind an hour than before it.
use Rattle.std.proofs.Common.{◌≡◌, ℕ, suc, ◌+◌, ◌<◌, ◌≤◌, Bool, true, false, not, eqb, ap, ap₂, arith}
use Rattle.sums.specs.Sums.{or, Gauges}
use Rattle.protocol.specs.Limits.{crew}
use Rattle.protocol.specs.Mail.{due_to_waiting, waits_for, with_letter, with_sent, letter_to, due_to_all}
use Rattle.protocol.specs.Memory.{Mail, Memory}
use Rattle.protocol.specs.Statements.{Letter}
use Rattle.protocol.proofs.Puts.{put_same, put_other}
use Rattle.protocol.proofs.Sums.{sum_scaled, sum_but}
use Rattle.protocol_world.proofs.Invariant.{SomeHour}
use Rattle.protocol_world.proofs.Ranks.{mark, due_at, due_rank, letter_rank}

-- MARKS
pub mark_le : (b : Bool) → mark b ≤ 2
mark_le true = omega arith
mark_le false = omega arith

mark_or : (a b : Bool) → mark (or a b) ≤ mark a + mark b
mark_or true b = omega arith
mark_or false b = omega arith

pub due_most : (m : Mail) → due_rank m ≤ 32
due_most m = omega (arith, sum_scaled 0 4 (due_at m) (due_at m) crew (λ j _. omega (arith, mark_le (m.due j), mark_le (m.woke j))))

pub due_all : (b : Memory) → due_rank (due_to_all b) ≤ due_rank b.mail + 16
due_all b = omega (
  arith,
  sum_scaled 1 2 (due_at (due_to_all b)) (due_at b.mail) crew
      (λ j _. omega (arith, mark_le (not (eqb j b.me)), mark_le (b.mail.due j))),
)

pub due_passing : (b : Memory) (m : ℕ) → due_rank (due_to_waiting b m) ≤ due_rank b.mail + 16
due_passing b m = omega (
  arith,
  sum_scaled 1 2 (due_at (due_to_waiting b m)) (due_at b.mail) crew
      (λ j _. omega (arith, mark_or (b.mail.due j) (waits_for b m j), mark_le (waits_for b m j))),
)

pub due_sent : (b : Memory) (j : ℕ) → j < crew → b.mail.due j ≡ true → due_rank (with_sent b j).mail + letter_rank (letter_to b j) < due_rank b.mail
due_sent b j lt e =
    let now : due_at (with_sent b j).mail j ≡ 0 = ap₂ (λ s t. mark s + mark t) (put_same b.mail.due j false) (put_same b.mail.woke j false) in
    let then : due_at b.mail j ≡ 2 + mark (b.mail.woke j) = ap (λ t. mark t + mark (b.mail.woke j)) e in
    omega (
      arith,
      now,
      then,
      sum_but (due_at b.mail) (due_at (with_sent b j).mail) j crew lt
          (λ k _ ne. ap₂ (λ s t. mark s + mark t) (put_other b.mail.due j false k ne) (put_other b.mail.woke j false k ne)),
    )

pub due_letter : (b : Memory) (a : ℕ) (l : Letter) → a < crew → due_rank (with_letter b a l).mail ≤ due_rank b.mail + mark l.woke
due_letter b a l lt =
    let now : due_at (with_letter b a l).mail a ≡ mark (or l.woke (b.mail.due a)) + mark (b.mail.woke a) =
    ap (λ t. mark t + mark (b.mail.woke a)) (put_same b.mail.due a (or l.woke (b.mail.due a))) in
    omega (
      arith,
      now,
      mark_or l.woke (b.mail.due a),
      sum_but (due_at b.mail) (due_at (with_letter b a l).mail) a crew lt
          (λ k _ ne. ap (λ t. mark t + mark (b.mail.woke k)) (put_other b.mail.due a (or l.woke (b.mail.due a)) k ne)),
    )

-- less is ahead of an hour of some row than of any before it, and less still of the one after it
pub record Counts (gs : Gauges) (ahead : ℕ → ℕ) : Type 0 where
  pub next : (m : ℕ) → SomeHour gs m → ahead (suc m) < ahead m
  pub past : (h m : ℕ) → h < m → SomeHour gs m → ahead m < ahead h
