-- The rows of a wall's text as a whole. Assumes nothing: these are definitions.
use Rattle.std.specs.Prelude.{◌≡◌, ◌↔◌, ℕ, ◌-◌, ◌<◌, ◌≤◌, Bool, true, false, not, ◌&&◌, List, [], ◌∷◌, ◌++◌, length, take, is_ok, Some, Ok, Err, vec_items, Result, Vec, ◌==◌, nat_eq, slice_index_or}
use Rattle.std.specs.BTreeMap.{BTreeMap}
use Rattle.std.specs.BTreeMap.{IsOrdered, get}
use Rattle.sums.specs.Sums.{any, every, or, ToldSum}
use Rattle.rows.specs.declared.Row.{Row}
use Rattle.rows.specs.Walls.{as_told, as_wall, in_order, pair_cmp}
use Rattle.text.specs.Text.{Bytes, whole_lines}
use Rattle.wall_reader.specs.declared.mistake.Reason.{Reason}
use Rattle.wall_reader.specs.declared.mistake.WallMistake.{WallMistake}
use Rattle.wall_reader.specs.declared.mistake.WallMistake.TheVariants.{Line, Contradiction, Memory}
use Rattle.wall_reader.specs.Lines.{row_on}

abbrev pub same_row : ToldSum → ToldSum → Bool
same_row t u = t.hour == u.hour && (t.place == u.place && t.sum == u.sum)

-- the row stands among these
abbrev pub stands : List ToldSum → ToldSum → Bool
stands ts t = any (same_row t) ts

-- the rows that lines say
abbrev pub with_row : Result Row Reason → List ToldSum → List ToldSum
with_row (Ok r) ts = as_told r ∷ ts
with_row (Err e) ts = ts

unfoldable pub rows_on : List Bytes → List ToldSum
rows_on [] = []
rows_on (l ∷ ls) = with_row (row_on l) (rows_on ls)

-- of another hour or place, or of the same sum
abbrev pub agrees : ToldSum → ToldSum → Bool
agrees t u = or (not (t.hour == u.hour && t.place == u.place)) (t.sum == u.sum)

-- each line is a row, and no row contradicts another
pub record Good (ls : List Bytes) : Type 0 where
  pub rows : every (λ l. is_ok (row_on l)) ls ≡ true
  pub agree : every (λ t. every (agrees t) (rows_on ls)) (rows_on ls) ≡ true

-- these are the rows that the lines say, each once, by hour and then place
pub record TableOf (ls : List Bytes) (ts : List ToldSum) : Type 0 where
  pub good : Good ls
  pub all : every (stands ts) (rows_on ls) ≡ true
  pub only : every (stands (rows_on ls)) ts ≡ true
  pub ordered : in_order ts ≡ true

-- there is a line with this number, counted from 1, and those above it are good
pub record GoodAbove (ls : List Bytes) (n : ℕ) : Type 0 where
  pub counted : (0 < n) × (n ≤ length ls)
  pub above : Good (take (n - 1) ls)

abbrev pub line_at : List Bytes → ℕ → Bytes
line_at ls n = slice_index_or ls (n - 1) []

-- that line is no row, for this reason
pub record NoRow (ls : List Bytes) (n : ℕ) (e : Reason) : Type 0 where
  pub place : GoodAbove ls n
  pub why : row_on (line_at ls n) ≡ Err e

-- that line says the second sum of the hour and place, and a line above it the first
pub record Contradicted (ls : List Bytes) (n h k first second : ℕ) : Type 0 where
  pub place : GoodAbove ls n
  pub here : row_on (line_at ls n) ≡ Ok (record { hour = h; place = k; sum = second })
  pub above : stands (rows_on (take (n - 1) ls)) (record { hour = h; place = k; sum = first }) ≡ true
  pub other : nat_eq first second ≡ false

-- a last line without its end is no row yet
abbrev pub ReadSays : {Z : Type 0} → Bytes → Result (Vec Row Z) WallMistake → Type 0
ReadSays text (Ok v) = TableOf (whole_lines text) (as_wall (vec_items v))
ReadSays text (Err (Line n e)) = NoRow (whole_lines text) n e
ReadSays text (Err (Contradiction n h k first second)) = Contradicted (whole_lines text) n h k first second
ReadSays text (Err Memory) = Unit {0}

-- the map is in order, and has just the rows that stand among these
pub record Holds (ts : List ToldSum) (m : BTreeMap (ℕ × ℕ) ℕ) : Type 0 where
  pub ordered : IsOrdered pair_cmp m
  pub right : (h k s : ℕ) → (get pair_cmp m (h, k) ≡ Some s) ↔ (stands ts (record { hour = h; place = k; sum = s }) ≡ true)

-- the map n has one row more than the map m
abbrev pub RowMore : Row → (m n : BTreeMap (ℕ × ℕ) ℕ) → Type 0
RowMore r m n = (ts : List ToldSum) → Holds ts m → Holds (ts ++ as_told r ∷ []) n

-- the map has this first sum where the row has the second
pub record Against (line : ℕ) (r : Row) (m : BTreeMap (ℕ × ℕ) ℕ) (n h k first second : ℕ) : Type 0 where
  pub number : n ≡ line
  pub row : r ≡ record { hour = h; place = k; sum = second }
  pub above : (ts : List ToldSum) → Holds ts m → stands ts (record { hour = h; place = k; sum = first }) ≡ true
  pub other : nat_eq first second ≡ false

-- what comes of a row more
abbrev pub RowTaken : ℕ → Row → (m n : BTreeMap (ℕ × ℕ) ℕ) → Result (Unit {0}) WallMistake → Type 0
RowTaken line r m n (Ok u) = RowMore r m n
RowTaken line r m n (Err (Line l e)) = ⊥
RowTaken line r m n (Err (Contradiction l h k first second)) = Against line r m l h k first second
RowTaken line r m n (Err Memory) = Unit {0}

-- what comes of a line more
abbrev pub LineTaken : ℕ → Bytes → (m n : BTreeMap (ℕ × ℕ) ℕ) → Result (Unit {0}) WallMistake → Type 0
LineTaken line bs m n (Ok u) = (r : Row) × (row_on bs ≡ Ok r) × RowMore r m n
LineTaken line bs m n (Err (Line l e)) = (l ≡ line) × (row_on bs ≡ Err e)
LineTaken line bs m n (Err (Contradiction l h k first second)) = (r : Row) × (row_on bs ≡ Ok r) × Against line r m l h k first second
LineTaken line bs m n (Err Memory) = Unit {0}
