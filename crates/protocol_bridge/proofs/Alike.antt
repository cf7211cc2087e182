-- Memories that are the same where they are looked at, below the numbers of machines and slots: what they say and hear is the same.
use Rattle.std.proofs.Common.{◌≡◌, ℕ, zero, suc, ◌+◌, ◌*◌, ◌/◌, ◌%◌, ◌<◌, Bool, true, false, ◌&&◌, eqb, leb, Some, None, Option, refl, ap, ap₂, ◌∙◌, arith}
use Rattle.sums.specs.Cells.{slots}
use Rattle.sums.specs.Sums.{pick}
use Rattle.protocol.specs.Adder.{entry_in, comes_in, place, entry_heard, comes_heard, from_slot, next_slot}
use Rattle.protocol.specs.Bounds.{Bound, bound, lower, least, lets, has_hour, let_hour, ready_hour}
use Rattle.protocol.specs.Bounds as Protocol
use Rattle.protocol.specs.Entries.{nothing_yet, is_counted}
use Rattle.protocol.specs.Limits.{late, crew}
use Rattle.protocol.specs.Memory.{Cursor, Memory, heard_of, passed_of}
use Rattle.protocol.specs.OpenHours.{hour_in, oldest}
use Rattle.protocol.specs.Reader.{Stage, begun, whole, ended}
use Rattle.protocol.specs.Searches.{find, all_below}
use Rattle.protocol.specs.Statements.{said_of, Statement}
use Rattle.protocol.specs.Tables.{filled, Tables, entry_at, comes_at}
use Rattle.protocol.proofs.Sums.{join_alike}
use Rattle.protocol.proofs.Searches.{any_alike}
use Rattle.protocol_bridge.specs.Same.{SameTables, SameFrom, SameOpen, SameWord, same_nothing, same_begun, same_whole, same_ended, SameMemory, same_memory}

-- SEARCHES
pub find_alike : (f g : ℕ → Bool) (n : ℕ) → ((j : ℕ) → j < n → f j ≡ g j) → find f n ≡ find g n
unfolding find
find_alike f g zero h = refl
find_alike f g (suc n) h =
    ap₂ (λ (o : Option ℕ) (b : Bool). elim o as (λ _. Option ℕ) [ Some k ↦ Some k | None ↦ pick b (Some n) None ]) (find_alike f g n (λ j l. h j (omega arith)))
    (h n (omega arith))

pub all_alike : (f g : ℕ → Bool) (n : ℕ) → ((j : ℕ) → j < n → f j ≡ g j) → all_below f n ≡ all_below g n
unfolding all_below
all_alike f g zero h = refl
all_alike f g (suc n) h = ap₂ (λ a b. a && b) (all_alike f g n (λ j l. h j (omega arith))) (h n (omega arith))

pub least_alike : (f g : ℕ → Bound) (n : ℕ) → ((i : ℕ) → i < n → f i ≡ g i) → least f n ≡ least g n
unfolding least
least_alike f g zero h = refl
least_alike f g (suc n) h = ap₂ lower (least_alike f g n (λ i l. h i (omega arith))) (h n (omega arith))

-- WORDS
pub bound_same : (h : ℕ) {s t : Statement} → SameWord s t → bound h s ≡ bound h t
bound_same h same_nothing = refl
bound_same h (same_begun c) = refl
bound_same h (same_whole c nx p q e) = refl
bound_same h same_ended = refl

pub hour_same : (m : ℕ) {s t : Statement} → SameWord s t → has_hour m s ≡ has_hour m t
hour_same m same_nothing = refl
hour_same m (same_begun c) = refl
hour_same m (same_whole c nx p q e) = refl
hour_same m same_ended = refl

pub lets_same : (h m : ℕ) {s t : Statement} → SameWord s t → lets h m s ≡ lets h m t
lets_same h m same_nothing = refl
lets_same h m (same_begun c) = refl
lets_same h m (same_whole c nx p q e) = refl
lets_same h m same_ended = refl

sum_same : (m k : ℕ) → k / crew < slots → {s t : Statement} → SameWord s t → entry_in m k s ≡ entry_in m k t
unfolding entry_at
sum_same m k lt same_nothing = refl
sum_same m k lt (same_begun c) = refl
sum_same m k lt (same_whole c nx p q e) = ap (λ n. pick (eqb c m) n nothing_yet) (e.entries (k / crew) lt)
sum_same m k lt same_ended = refl

comes_same : (m k : ℕ) → k / crew < slots → {s t : Statement} → SameWord s t → comes_in m k s ≡ comes_in m k t
unfolding comes_at
comes_same m k lt same_nothing = refl
comes_same m k lt (same_begun c) = refl
comes_same m k lt (same_whole c nx p q e) = ap (λ n. eqb c m && is_counted n) (e.entries (k / crew) lt)
comes_same m k lt same_ended = refl

pub said_same : (s : Stage) (t u : ℕ → Tables) (j : ℕ) → j < crew → SameOpen s t u → SameWord (said_of s t j) (said_of s u j)
said_same (begun c) t u j lj h = same_begun c
said_same (whole c nx) t u j lj h = same_whole c nx ((t c).page j) ((u c).page j) (h c j (omega arith) lj)
said_same ended t u j lj h = same_ended

-- THE OPEN HOURS
filled_same : (x y : Tables) → SameTables x y → filled x ≡ filled y
unfolding filled comes_at
filled_same x y h = any_alike _ _ (crew * slots) (λ k lk. ap is_counted ((h (k % crew) (omega arith)).entries (k / crew) (omega arith)))

pub found_same : (t u : ℕ → Tables) (f : ℕ) → SameFrom f t u → find (λ d. filled (t (f + d))) (suc late) ≡ find (λ d. filled (u (f + d))) (suc late)
found_same t u f h = find_alike (λ d. filled (t (f + d))) (λ d. filled (u (f + d))) (suc late)
    (λ d _. filled_same (t (f + d)) (u (f + d)) (λ j lj. h (f + d) j (omega arith) lj))

pub oldest_same : (t u : ℕ → Tables) (f : ℕ) → SameFrom f t u → oldest t f ≡ oldest u f
oldest_same t u f h = ap (hour_in f) (found_same t u f h)

-- WHAT A BODY HEARS, AND KNOWS OF
event_same : (b c : Memory) → SameMemory b c → (i : ℕ) → i < crew → SameWord (heard_of b i) (heard_of c i)
event_same _ _ (same_memory me s p t u w pa k o₁ o₂ cu m n lt h e) i li = on (eqb i me)
  where
    on : (x : Bool) → SameWord (pick x (said_of s t me) (m.word i)) (pick x (said_of s u me) (n.word i))
    on true = said_same s t u me lt h
    on false = e.word i li

pub passed_same : (b c : Memory) → SameMemory b c → (i : ℕ) → i < crew → passed_of b i ≡ passed_of c i
passed_same _ _ (same_memory me s p t u w pa k o₁ o₂ cu m n lt h e) i li = ap (λ v. pick (eqb i me) cu.hour v) (e.passed i li)

hour_now : (b c : Memory) → SameMemory b c → b.cursor ≡ c.cursor
hour_now _ _ (same_memory me s p t u w pa k o₁ o₂ cu m n lt h e) = refl

pub me_now : (b c : Memory) → SameMemory b c → b.me ≡ c.me
me_now _ _ (same_memory me s p t u w pa k o₁ o₂ cu m n lt h e) = refl

pub me_low : (b c : Memory) → SameMemory b c → b.me < crew
me_low _ _ (same_memory me s p t u w pa k o₁ o₂ cu m n lt h e) = lt

pub sums_same : (b c : Memory) → SameMemory b c → (m k : ℕ) → k / crew < slots → entry_heard b m k ≡ entry_heard c m k
unfolding entry_heard
sums_same b c e m k lt = join_alike _ _ crew (λ i li. sum_same m k lt (event_same b c e i li))

anys_same : (b c : Memory) → SameMemory b c → (m k : ℕ) → k / crew < slots → comes_heard b m k ≡ comes_heard c m k
unfolding comes_heard
anys_same b c e m k lt = any_alike _ _ crew (λ i li. comes_same m k lt (event_same b c e i li))

pub slot_same : (b c : Memory) → SameMemory b c → (m : ℕ) → next_slot b m ≡ next_slot c m
unfolding next_slot
slot_same b c e m = find_alike _ _ slots (λ s ls.
    let low : place b s / crew < slots = omega (arith, me_low b c e) in
    ap₂ (λ (cu : Cursor) (a : Bool). leb (from_slot cu m) s && a) (hour_now b c e) (anys_same b c e m (place b s) low
    ∙ ap (λ n. comes_heard c m (crew * s + n)) (me_now b c e)))

pub ready_same : (b c : Memory) → SameMemory b c → ready_hour b ≡ ready_hour c
unfolding ready_hour
ready_same b c e =
    ap (let_hour b) (least_alike _ _ crew (λ i li. ap (λ (cu : Cursor). bound cu.hour (heard_of b i)) (hour_now b c e)
    ∙ bound_same c.cursor.hour (event_same b c e i li)))
    ∙ let_same (least (λ i. bound c.cursor.hour (heard_of c i)) crew)
  where
    let_same : (d : Bound) → let_hour b d ≡ let_hour c d
    let_same Protocol.unknown = refl
    let_same (Protocol.from_hour m) = ap (λ t. pick t (Some m) None) (all_alike _ _ crew
        (λ i li. ap (λ (cu : Cursor). lets cu.hour m (heard_of b i)) (hour_now b c e) ∙ lets_same c.cursor.hour m (event_same b c e i li)))
    let_same Protocol.never = refl
