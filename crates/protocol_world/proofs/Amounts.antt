-- What is left to do is never more than a number of the gauges and of the letters under way.
use Rattle.std.proofs.Common.{◌≡◌, ℕ, zero, suc, ◌+◌, ◌*◌, ◌<◌, ◌≤◌, Bool, true, false, not, ◌&&◌, eqb, leb, List, [], ◌∷◌, length, get_or, Some, None, Option, sym, refl, ap, ◌∙◌, subst, ⊎_elim, arith, length-append}
use Rattle.std.proofs.lemmas.Bool.{leb-true, le-leb, lt-leb, eqb-true, eq-eqb, and_parts, and_from, and_left, and_right, both_ways, not_from_false, cases_Bool}
use Rattle.sums.specs.Parts.{no_reading}
use Rattle.sums.specs.Sums.{pick, any, Reading, Gauges, hour_of, all_of}
use Rattle.sums.proofs.Anys.{any_append, any_front, any_at, or_right}
use Rattle.sums.proofs.Picks.{pick_both}
use Rattle.machine.specs.Run.{nth_row}
use Rattle.protocol.specs.Limits.{crew, kept_pages}
use Rattle.protocol.specs.Memory.{Memory}
use Rattle.protocol.specs.Phases.{Phase, asleep, asks_root, asks_page, asks_cursor, placing, placed, ready, noting, saving, Event, wakes, comes, later, at_end, letter, root_is, page_is, cursor_is, go}
use Rattle.protocol.specs.Reader.{Stage, begun, whole, ended, is_reading}
use Rattle.protocol.specs.Searches.{sum_below}
use Rattle.protocol.specs.Statements.{Letter}
use Rattle.protocol.proofs.Searches.{or_split}
use Rattle.protocol.proofs.Sums.{sum_scaled}
use Rattle.protocol_world.specs.Enough.{hours_of, letters_on, enough_acts, enough_rounds}
use Rattle.protocol_world.specs.Worlds.{Node, World}
use Rattle.protocol_world.proofs.Invariant.{SomeHour}
use Rattle.protocol_world.proofs.Dues.{Counts, mark_le, due_most}
use Rattle.protocol_world.proofs.Ranks.{stage_rank, letters_rank, asked, pending_rank, due_rank, cursor_rank, reader_rank, sleeping_rank, node_rank, rank_by, nodes_rank, wires_rank, rank}

-- SUMS
sum_first : (f : ℕ → ℕ) (n : ℕ) → sum_below f (suc n) ≡ f 0 + sum_below (λ i. f (suc i)) n
unfolding sum_below
sum_first f zero = omega arith
sum_first f (suc n) = omega (arith, sum_first f n)

-- ROWS
-- all rows together are as long as all that is read
readings : (gs : Gauges) → sum_below (λ i. length (nth_row gs i)) (length gs) ≡ length (all_of gs)
unfolding sum_below all_of nth_row
readings [] = refl
readings (rs ∷ gs) = omega (arith, sum_first (λ i. length (nth_row (rs ∷ gs) i)) (length gs), readings gs, length-append rs (all_of gs))

-- HOURS
-- some of these readings are of hour h
abbrev pub is_of : List Reading → (h : ℕ) → Bool
is_of rs h = any (λ q. eqb (hour_of q) h) rs

abbrev pub one_if : Bool → ℕ
one_if b = pick b 1 0

-- how many different hours these readings are of, from hour h on
unfoldable pub hours_from : (h : ℕ) → List Reading → ℕ
hours_from h [] = 0
hours_from h (r ∷ rs) = one_if (leb h (hour_of r) && not (is_of rs (hour_of r))) + hours_from h rs

counted_less : (h m x : ℕ) → h ≤ m → (b : Bool) → one_if (leb m x && b) ≤ one_if (leb h x && b)
counted_less h m x le true = pick_both (leb m x && true) 1 0 (λ n. n ≤ one_if (leb h x && true))
    (λ e. let in_both : leb h x && true ≡ true = and_from (leb h x) true (le-leb h x (omega (arith, leb-true m x (and_parts (leb m x) true e).0))) refl in
    subst (λ t. 1 ≤ one_if t) (sym in_both) (omega arith))
    (λ _. omega arith)
counted_less h m x le false = subst (λ t. one_if t ≤ one_if (leb h x && false)) (sym (and_right (leb m x) false refl)) (omega arith)

from_less : (h m : ℕ) → h ≤ m → (rs : List Reading) → hours_from m rs ≤ hours_from h rs
unfolding hours_from
from_less h m le [] = omega arith
from_less h m le (r ∷ rs) = omega (arith, from_less h m le rs, counted_less h m (hour_of r) le (not (is_of rs (hour_of r))))

-- one that comes up is one less
from_next : (m : ℕ) (rs : List Reading) → is_of rs m ≡ true → hours_from (suc m) rs < hours_from m rs
unfolding hours_from any
from_next m [] e = absurd (both_ways _ refl e)
from_next m (r ∷ rs) e = ⊎_elim
    (λ (l : is_of rs m ≡ true). omega (arith, from_next m rs l, counted_less m (suc m) (hour_of r) (omega arith) (not (is_of rs (hour_of r)))))
    (λ new.
    let here : hour_of r ≡ m = ⊎_elim (λ q. eqb-true (hour_of r) m q) (λ q. absurd (both_ways _ new q)) (or_split (eqb (hour_of r) m) (is_of rs m) e) in
    let now : leb m (hour_of r) && not (is_of rs (hour_of r)) ≡ true =
    and_from _ _ (le-leb m (hour_of r) (omega arith)) (not_from_false _ (ap (is_of rs) here ∙ new)) in
    let over : leb (suc m) (hour_of r) && not (is_of rs (hour_of r)) ≡ false = and_left _ _ (lt-leb (suc m) (hour_of r) (omega arith)) in
    let one : one_if (leb m (hour_of r) && not (is_of rs (hour_of r))) ≡ 1 = ap one_if now in
    let none : one_if (leb (suc m) (hour_of r) && not (is_of rs (hour_of r))) ≡ 0 = ap one_if over in
    omega (arith, one, none, from_less m (suc m) (omega arith) rs))
    (cases_Bool (is_of rs m))

from_most : (h : ℕ) (rs : List Reading) → hours_from h rs ≤ hours_of rs
unfolding hours_from hours_of
from_most h [] = omega arith
from_most h (r ∷ rs) = omega (arith, from_most h rs, at_most (leb h (hour_of r)) (is_of rs (hour_of r)))
  where
    at_most : (a b : Bool) → one_if (a && not b) ≤ one_if (not b)
    at_most true true = omega arith
    at_most true false = omega arith
    at_most false true = omega arith
    at_most false false = omega arith

-- what is ahead of an hour: two for each that comes up from it on, and one if it does not itself
abbrev pub ahead : Gauges → ℕ → ℕ
ahead gs h = 2 * hours_from h (all_of gs) + one_if (not (is_of (all_of gs) h))

one_most : (b : Bool) → one_if b ≤ 1
one_most true = omega arith
one_most false = omega arith

pub ahead_most : (gs : Gauges) (h : ℕ) → ahead gs h ≤ 2 * hours_of (all_of gs) + 1
ahead_most gs h = omega (arith, from_most h (all_of gs), one_most (not (is_of (all_of gs) h)))

comes_up_at : (f : Reading → Bool) (gs : Gauges) (i p : ℕ) → p < length (nth_row gs i) → f (get_or (nth_row gs i) p no_reading) ≡ true →
    any f (all_of gs) ≡ true
unfolding all_of nth_row
comes_up_at f [] i p lt e = absurd (omega arith)
comes_up_at f (rs ∷ gs) zero p lt e = any_front f rs (all_of gs) (any_at f rs p no_reading lt e)
comes_up_at f (rs ∷ gs) (suc i) p lt e = any_append f rs (all_of gs) ∙ or_right (any f rs) (any f (all_of gs)) (comes_up_at f gs i p lt e)

some_is : (gs : Gauges) (m : ℕ) → SomeHour gs m → is_of (all_of gs) m ≡ true
some_is gs m s = comes_up_at (λ q. eqb (hour_of q) m) gs s.0 s.2.0 s.2.1 (eq-eqb _ m s.2.2)

pub counts : (gs : Gauges) → Counts gs (ahead gs)
counts gs = record {
  next = λ m s.
      let now : one_if (not (is_of (all_of gs) m)) ≡ 0 = ap (λ t. one_if (not t)) (some_is gs m s) in
      omega (arith, now, from_next m (all_of gs) (some_is gs m s), one_most (not (is_of (all_of gs) (suc m))));
  past = λ h m lt s.
      let now : one_if (not (is_of (all_of gs) m)) ≡ 0 = ap (λ t. one_if (not t)) (some_is gs m s) in
      ⊎_elim
      (λ (e : is_of (all_of gs) h ≡ true). omega (arith, now, from_next h (all_of gs) e, from_less (suc h) m lt (all_of gs)))
      (λ e. let was : one_if (not (is_of (all_of gs) h)) ≡ 1 = ap (λ t. one_if (not t)) e in omega (arith, now, was, from_less h m (omega arith) (all_of gs)))
      (cases_Bool (is_of (all_of gs) h));
}

-- LETTERS
letters_most : (ls : List Letter) → letters_rank ls ≤ 3 * length ls
unfolding letters_rank
letters_most [] = omega arith
letters_most (l ∷ ls) = omega (arith, letters_most ls, mark_le l.woke)

wires_most : (ahead : ℕ → ℕ) (long : ℕ → ℕ) (w : World) → wires_rank ahead long w ≤ 3 * letters_on w
unfolding wires_rank
wires_most ahead long w =
    omega (
      arith,
      sum_scaled 3 0 (λ a. sum_below (λ b. letters_rank (w.wire a b)) crew) (λ a. sum_below (λ b. length (w.wire a b)) crew) crew
          (λ a _. omega (
            arith,
            sum_scaled 3 0 (λ b. letters_rank (w.wire a b)) (λ b. length (w.wire a b)) crew
                (λ b _. omega (arith, letters_most (w.wire a b))),
          )),
    )

-- ONE MACHINE
stage_most : (s : Stage) → stage_rank s ≤ 32
stage_most (begun c) = omega arith
stage_most (whole c nx) = omega arith
stage_most ended = omega arith

asked_most : (r : Bool) → asked r ≤ 1
asked_most true = omega arith
asked_most false = omega arith

pending_most : (r : Bool) (o : Option Event) → pending_rank r o ≤ 3
pending_most r None = omega (arith, asked_most r)
pending_most r (Some (wakes i)) = omega arith
pending_most r (Some (comes rd)) = omega arith
pending_most r (Some later) = omega arith
pending_most r (Some at_end) = omega arith
pending_most r (Some (letter j l)) = omega (arith, mark_le l.woke, asked_most r)
pending_most r (Some (root_is p)) = omega arith
pending_most r (Some (page_is p)) = omega arith
pending_most r (Some (cursor_is c)) = omega arith
pending_most r (Some go) = omega (arith, asked_most r)

module _ (ahead : ℕ → ℕ) (top : ℕ) (most : (h : ℕ) → ahead h ≤ top) (long : ℕ) where
  abbrev Most : ℕ → Type 0
  Most n = n ≤ (7 + kept_pages) * long + (419 * top + (474 + kept_pages))

  sleeping_most : (x : Node) → sleeping_rank ahead long x ≤ (7 + kept_pages) * long + (419 * top + 416)
  sleeping_most x = omega (arith, most x.root.hour, most x.cursor.hour)

  memory_most : (root : ℕ) (b : Memory) (h s : ℕ) →
      reader_rank ahead long b.reader.base root b.reader.pos b.reader.stage b.reader.paused + (cursor_rank ahead h s + due_rank b.mail) ≤
      (7 + kept_pages) * long + (419 * top + 449)
  memory_most root b h s = omega (arith, most b.reader.base, most h, stage_most b.reader.stage, asked_most b.reader.paused, due_most b.mail)

  phase_most : (x : Node) (p : Phase) → Most (rank_by ahead long p x)
  phase_most x asleep = omega (arith, sleeping_most x)
  phase_most x asks_root = omega (arith, sleeping_most x)
  phase_most x (asks_page q) = omega (arith, sleeping_most x)
  phase_most x asks_cursor = omega (arith, sleeping_most x)
  phase_most x placing = omega (arith, memory_most x.root.pos x.memory x.memory.cursor.hour x.memory.cursor.slot)
  phase_most x placed = omega (arith, memory_most x.root.pos x.memory x.memory.cursor.hour x.memory.cursor.slot)
  phase_most x ready = omega (
    arith,
    memory_most x.root.pos x.memory x.memory.cursor.hour x.memory.cursor.slot,
    pending_most (is_reading x.memory.reader.stage) x.pending,
  )
  phase_most x (noting m s) = omega (arith, memory_most x.root.pos x.memory m (suc s))
  phase_most x (saving q) = omega (arith, memory_most x.memory.reader.pos x.memory x.memory.cursor.hour x.memory.cursor.slot)

  node_most : (x : Node) → Most (node_rank ahead long x)
  node_most x = phase_most x x.phase

pub acts_most : (gs : Gauges) (i : ℕ) (x : Node) → node_rank (ahead gs) (length (nth_row gs i)) x < enough_acts gs i
acts_most gs i x = omega (arith, node_most (ahead gs) (2 * hours_of (all_of gs) + 1) (ahead_most gs) (length (nth_row gs i)) x)

-- THE WORLD
pub rounds_most : (gs : Gauges) → length gs ≡ crew → (w : World) → rank (ahead gs) (λ i. length (nth_row gs i)) w < enough_rounds gs (letters_on w)
unfolding nodes_rank
rounds_most gs eight w =
    let long : ℕ → ℕ = λ i. length (nth_row gs i) in
    let all : sum_below long crew ≡ length (all_of gs) = subst (λ n. sum_below long n ≡ length (all_of gs)) eight (readings gs) in
    omega (
      arith,
      all,
      wires_most (ahead gs) long w,
      sum_scaled (7 + kept_pages) (838 * hours_of (all_of gs) + (893 + kept_pages)) (λ i. node_rank (ahead gs) (long i) (w.node i)) long crew
          (λ i _. omega (arith, acts_most gs i (w.node i))),
    )
