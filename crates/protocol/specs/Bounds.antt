-- What an adder makes of the last word of each reader: when that reader's next hour can be, and which hour can be told. Assumes nothing: these are definitions.
use Rattle.std.specs.Prelude.{ℕ, zero, suc, Bool, false, not, Some, None, Option, ◌==◌, nat_le}
use Rattle.sums.specs.Sums.{pick, or}
use Rattle.protocol.specs.Limits.{crew}
use Rattle.protocol.specs.Memory.{Memory, heard_of}
use Rattle.protocol.specs.Searches.{all_below}
use Rattle.protocol.specs.Statements.{Statement, nothing, has_begun, is_whole, has_ended}

-- from hour h on, where the adder is, when the next hour of a reader can be
pub data Bound : Type 0 where
  unknown : Bound
  from_hour : ℕ → Bound  -- then, or later
  never : Bound

abbrev pub next_bound : (h : ℕ) → Option ℕ → Bound
next_bound h None = never
next_bound h (Some n) = pick (nat_le h n) (from_hour n) unknown

abbrev pub bound : (h : ℕ) → Statement → Bound
bound h nothing = unknown
bound h (has_begun c) = pick (nat_le h c) (from_hour c) unknown
bound h (is_whole c nx p) = pick (nat_le h c) (from_hour c) (next_bound h nx)
bound h has_ended = never

-- the lower of two bounds, and the least of all below n: unknown if one is
abbrev pub lower : Bound → Bound → Bound
lower unknown b = unknown
lower (from_hour m) unknown = unknown
lower (from_hour m) (from_hour n) = pick (nat_le m n) (from_hour m) (from_hour n)
lower (from_hour m) never = from_hour m
lower never b = b

unfoldable pub least : (ℕ → Bound) → ℕ → Bound
least f zero = never
least f (suc n) = lower (least f n) (f n)

abbrev pub is_from : (m : ℕ) → Bound → Bool
is_from m unknown = false
is_from m (from_hour n) = n == m
is_from m never = false

-- it has all of hour m
abbrev pub has_hour : (m : ℕ) → Statement → Bool
has_hour m nothing = false
has_hour m (has_begun c) = false
has_hour m (is_whole c nx p) = c == m
has_hour m has_ended = false

-- the statement is no bar to telling hour m: it has all of that hour, or its bound is not m
abbrev pub lets : (h m : ℕ) → Statement → Bool
lets h m s = or (has_hour m s) (not (is_from m (bound h s)))

-- AN HOUR CAN BE TOLD if it is the least bound, and all readers that have that bound have it whole
abbrev pub let_hour : Memory → Bound → Option ℕ
let_hour b unknown = None
let_hour b never = None
let_hour b (from_hour m) = pick (all_below (λ i. lets b.cursor.hour m (heard_of b i)) crew) (Some m) None

unfoldable pub ready_hour : Memory → Option ℕ
ready_hour b = let_hour b (least (λ i. bound b.cursor.hour (heard_of b i)) crew)
