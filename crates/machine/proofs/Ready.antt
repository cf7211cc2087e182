-- The hour that can be told is one of the memory's own numbers.
use Rattle.std.proofs.Common.{◌≡◌, ℕ, zero, suc, ◌+◌, ◌*◌, ◌<◌, Bool, true, false, cond, eqb, ltb, leb, List, [], ◌∷◌, get_or, Some, None, Option, refl, arith, lit<}
use Rattle.std.proofs.lemmas.Bool.{and_parts, cond_both, ltb-true}
use Rattle.sums.specs.Cells.{slots}
use Rattle.sums.specs.Sums.{every, pick}
use Rattle.protocol.specs.Bounds.{Bound, unknown, from_hour, never, next_bound, bound, lower, least, let_hour, ready_hour}
use Rattle.protocol.specs.Limits.{crew}
use Rattle.protocol.specs.Memory.{Memory, heard_of}
use Rattle.protocol.specs.Reader.{Stage, begun, whole, ended}
use Rattle.protocol.specs.Searches.{all_below}
use Rattle.protocol.specs.Statements.{Statement, nothing, has_begun, is_whole, has_ended, said_of}
use Rattle.protocol.specs.Tables.{Page, Tables}
use Rattle.gauge.specs.Memory.{at, limit, no_next, stage_at, hour_at, next_at, word_at, word_hour_at, word_next_at, word_sums_at, word_counts_at}
use Rattle.gauge.specs.Views.{next_of, stage_of, page_in, word_of, memory_of}
use Rattle.exchange.proofs.Found.{Below}
use Rattle.machine.specs.Run.{all_small}

pick_both : {A : Type 0} (b : Bool) (x y : A) (P : A → Type 0) → P x → P y → P (pick b x y)
pick_both true x y P p q = p
pick_both false x y P p q = q

-- a number of a memory of small ones
pub number_small : (m : List ℕ) (i : ℕ) → all_small m ≡ true → at m i < limit
unfolding all_small every
number_small [] i a = lit< tt
number_small (x ∷ m) zero a = ltb-true _ _ (and_parts (ltb x limit) _ a).0
number_small (x ∷ m) (suc i) a = number_small m i (and_parts (ltb x limit) _ a).1

SmallStatement : Statement → Type 0
SmallStatement nothing = Unit {0}
SmallStatement (has_begun c) = c < limit
SmallStatement (is_whole c nx p) = (c < limit) × Below limit nx
SmallStatement has_ended = Unit {0}

SmallBound : Bound → Type 0
SmallBound unknown = Unit {0}
SmallBound (from_hour h) = h < limit
SmallBound never = Unit {0}

next_small : (y : ℕ) → y < limit → Below limit (next_of y)
next_small y lt = cond_both (eqb y no_next) None (Some y) (Below limit) (λ _. tt) (λ _. lt)

word_small : (n c y : ℕ) (p : Page) → c < limit → y < limit → SmallStatement (word_of n c y p)
unfolding SmallStatement
word_small n c y p lt lt' =
    cond_both (eqb n 1) _ _ SmallStatement (λ _. lt)
    (λ _. cond_both (eqb n 2) _ _ SmallStatement (λ _. (lt, next_small y lt'))
    (λ _. cond_both (eqb n 3) _ _ SmallStatement (λ _. tt) (λ _. tt)))

own_small : (n c y j : ℕ) (t : ℕ → Tables) → c < limit → y < limit → SmallStatement (said_of (stage_of n c y) t j)
unfolding SmallStatement
own_small n c y j t lt lt' =
    cond_both (eqb n 0) _ _ (λ s. SmallStatement (said_of s t j)) (λ _. lt)
    (λ _. cond_both (eqb n 1) _ _ (λ s. SmallStatement (said_of s t j)) (λ _. (lt, next_small y lt')) (λ _. tt))

heard_small : (m : List ℕ) (i : ℕ) → all_small m ≡ true → SmallStatement (heard_of (memory_of m) i)
heard_small m i a =
    pick_both (eqb i (at m 3)) _ _ SmallStatement
    (own_small (at m stage_at) (at m hour_at) (at m next_at) (at m 3) _ (number_small m hour_at a) (number_small m next_at a))
    (word_small (at m (word_at + i)) (at m (word_hour_at + i)) (at m (word_next_at + i)) (page_in m (word_sums_at + slots * i) (word_counts_at + slots * i))
    (number_small m (word_hour_at + i) a) (number_small m (word_next_at + i) a))

next_bound_small : (h : ℕ) (nx : Option ℕ) → Below limit nx → SmallBound (next_bound h nx)
unfolding SmallBound
next_bound_small h None lt = tt
next_bound_small h (Some n) lt = pick_both (leb h n) (from_hour n) unknown SmallBound lt tt

bound_small : (h : ℕ) (s : Statement) → SmallStatement s → SmallBound (bound h s)
unfolding SmallBound SmallStatement
bound_small h nothing s = tt
bound_small h (has_begun c) s = pick_both (leb h c) (from_hour c) unknown SmallBound s tt
bound_small h (is_whole c nx p) s = pick_both (leb h c) (from_hour c) (next_bound h nx) SmallBound s.0 (next_bound_small h nx s.1)
bound_small h has_ended s = tt

lower_small : (a b : Bound) → SmallBound a → SmallBound b → SmallBound (lower a b)
unfolding SmallBound
lower_small unknown b s t = tt
lower_small (from_hour m) unknown s t = tt
lower_small (from_hour m) (from_hour n) s t = pick_both (leb m n) (from_hour m) (from_hour n) SmallBound s t
lower_small (from_hour m) never s t = s
lower_small never b s t = t

least_small : (f : ℕ → Bound) (n : ℕ) → ((i : ℕ) → SmallBound (f i)) → SmallBound (least f n)
unfolding least SmallBound
least_small f zero each = tt
least_small f (suc n) each = lower_small (least f n) (f n) (least_small f n each) (each n)

let_small : (b : Memory) (x : Bound) → SmallBound x → Below limit (let_hour b x)
unfolding SmallBound
let_small b unknown s = tt
let_small b never s = tt
let_small b (from_hour h) s = pick_both _ (Some h) None (Below limit) s tt

pub ready_small : (m : List ℕ) → all_small m ≡ true → Below limit (ready_hour (memory_of m))
unfolding ready_hour
ready_small m a = let_small (memory_of m) _ (least_small _ crew (λ i. bound_small (at m 12) (heard_of (memory_of m) i) (heard_small m i a)))
