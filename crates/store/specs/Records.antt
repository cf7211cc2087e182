-- The root record and the cursor, by value and as bytes. Assumes nothing: these are definitions.
use Rattle.std.specs.Prelude.{◌≡◌, ℕ, ◌*◌, ◌^◌, ◌<◌, true, cond, List, [], ◌∷◌, ◌++◌, length, drop, Some, None, Ok, Err, Option, Result, ◌==◌, ◌≢◌, nat_le, nat_lt, refl}
use Rattle.std.specs.Option.{option_map, unwrap_or}
use Rattle.sums.specs.Digits as sums
use Rattle.sums.specs.Digits.{fits, row_bytes, row_numbers}
use Rattle.sums.specs.Sums.{every}
use Rattle.store.specs.declared.records.Cursor.{Cursor}
use Rattle.store.specs.declared.records.PageSet.{PageSet}
use Rattle.store.specs.declared.records.PageSet.TheVariants.{First, Second}
use Rattle.store.specs.declared.records.PageSet.TheVariants as page_set
use Rattle.store.specs.declared.records.RecordError.{RecordError}
use Rattle.store.specs.declared.records.RecordError.TheVariants.{TooShort}
use Rattle.store.specs.declared.records.Root.{Root}
use Rattle.store.specs.declared.records.UnknownSet.{UnknownSet}

abbrev pub set_number : PageSet → ℕ
set_number page_set.None = 0
set_number First = 1
set_number Second = 2

abbrev pub numbered_set : (number : ℕ) → Option PageSet
numbered_set n = cond (n == 0) (Some page_set.None) (cond (n == 1) (Some First) (cond (n == 2) (Some Second) None))

abbrev pub unknown_set : (number : ℕ) → UnknownSet
unknown_set n = record { 0 = n }

-- the set that the next checkpoint writes
abbrev pub shadow_of : PageSet → PageSet
shadow_of page_set.None = First
shadow_of First = Second
shadow_of Second = First

-- the bytes of each number of a record
abbrev pub number_width : ℕ
number_width = 8

-- numbers of a record are below 2^64
abbrev pub number_limit : ℕ
number_limit = 256 ^ number_width

-- a record of so many bytes is written over the front of others, if there are enough
abbrev pub record_answer : (size : ℕ) (out : List ℕ) → Result (Unit {0}) RecordError
record_answer n out = cond (nat_le n (length out)) (Ok tt) (Err TooShort)

abbrev pub record_written : (size : ℕ) (bytes out : List ℕ) → List ℕ
record_written n bs out = cond (nat_le n (length out)) (bs ++ drop n out) out

-- the record that bytes are, if any: by its numbers, where the bytes are just so many
abbrev pub record_in : {R : Type 0} → (count : ℕ) → (of_numbers : List ℕ → Option R) → List ℕ → Option R
record_in n of bs = cond (length bs == number_width * n) (of (row_numbers number_width n bs)) None

-- the record that a drawer stands for
abbrev pub record_of : {R : Type 0} → (zero : R) (count : ℕ) → (of_numbers : List ℕ → Option R) → List ℕ → R
record_of z n of bs = unwrap_or (record_in n of bs) z

-- ROOT: three numbers
abbrev pub root_length : ℕ
root_length = number_width * 3

abbrev pub root : PageSet → (hour pos : ℕ) → Root
root s h p = record { set = s; hour = h; pos = p }

abbrev pub zero_root : Root
zero_root = root page_set.None 0 0

abbrev pub root_numbers : Root → List ℕ
root_numbers r = set_number r.set ∷ r.hour ∷ r.pos ∷ []

unfoldable pub root_bytes : Root → List ℕ
root_bytes r = row_bytes number_width (root_numbers r)

-- the root record of three numbers, where the first is that of a set
abbrev pub numbered_root : (numbers : List ℕ) → Option Root
numbered_root (s ∷ h ∷ p ∷ []) = option_map (λ set. root set h p) (numbered_set s)
numbered_root _ = None

unfoldable pub root_of : List ℕ → Root
root_of bs = record_of zero_root 3 numbered_root bs

pub root_bytes_are : (r : Root) → root_bytes r ≡ row_bytes number_width (root_numbers r)
unfolding root_bytes
root_bytes_are r = refl

pub root_bytes_long : (r : Root) → length (root_bytes r) ≡ root_length
unfolding root_bytes row_bytes sums.digits
root_bytes_long r = refl

pub root_of_is : (bs : List ℕ) → root_of bs ≡ record_of zero_root 3 numbered_root bs
unfolding root_of
root_of_is bs = refl

-- CURSOR: two numbers
abbrev pub cursor_length : ℕ
cursor_length = number_width * 2

abbrev pub cursor : (hour cell : ℕ) → Cursor
cursor h k = record { hour = h; cell = k }

abbrev pub zero_cursor : Cursor
zero_cursor = cursor 0 0

abbrev pub cursor_numbers : Cursor → List ℕ
cursor_numbers c = c.hour ∷ c.cell ∷ []

unfoldable pub cursor_bytes : Cursor → List ℕ
cursor_bytes c = row_bytes number_width (cursor_numbers c)

abbrev pub numbered_cursor : (numbers : List ℕ) → Option Cursor
numbered_cursor (h ∷ k ∷ []) = Some (cursor h k)
numbered_cursor _ = None

unfoldable pub cursor_of : List ℕ → Cursor
cursor_of bs = record_of zero_cursor 2 numbered_cursor bs

pub cursor_bytes_are : (c : Cursor) → cursor_bytes c ≡ row_bytes number_width (cursor_numbers c)
unfolding cursor_bytes
cursor_bytes_are c = refl

pub cursor_bytes_long : (c : Cursor) → length (cursor_bytes c) ≡ cursor_length
unfolding cursor_bytes row_bytes sums.digits
cursor_bytes_long c = refl

pub cursor_of_is : (bs : List ℕ) → cursor_of bs ≡ record_of zero_cursor 2 numbered_cursor bs
unfolding cursor_of
cursor_of_is bs = refl

-- records whose numbers fit
pub record RootFits (r : Root) : Type 0 where
  pub hour : r.hour < number_limit
  pub pos : r.pos < number_limit

pub record CursorFits (c : Cursor) : Type 0 where
  pub hour : c.hour < number_limit
  pub cell : c.cell < number_limit

-- A root record has its length in bytes, and is read back where its numbers fit. What has another length, and numbers of which the first is that of no set, stand
-- for the zero record.
unfoldable pub RootRoundTrip : Type 0
RootRoundTrip =
    ((r : Root) → (length (root_bytes r) ≡ root_length) × (every (λ b. nat_lt b 256) (root_bytes r) ≡ true) × (RootFits r → root_of (root_bytes r) ≡ r))
    × ((bs : List ℕ) → (length bs ≢ root_length) → root_of bs ≡ zero_root)
    × ((n h p : ℕ) → every (fits number_width) (n ∷ h ∷ p ∷ []) ≡ true → numbered_set n ≡ None → root_of (row_bytes number_width (n ∷ h ∷ p ∷ [])) ≡ zero_root)

-- The same of a cursor.
unfoldable pub CursorRoundTrip : Type 0
CursorRoundTrip =
    ((c : Cursor) → (length (cursor_bytes c) ≡ cursor_length) × (every (λ b. nat_lt b 256) (cursor_bytes c) ≡ true) × (CursorFits c → cursor_of (cursor_bytes c) ≡ c))
    × ((bs : List ℕ) → (length bs ≢ cursor_length) → cursor_of bs ≡ zero_cursor)
