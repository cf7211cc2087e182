-- Lines read one after the other. Assumes nothing.
use Rattle.std.proofs.Common.{◌≡◌, ℕ, ◌+◌, ◌-◌, ◌<◌, ◌≤◌, true, List, [], ◌∷◌, ◌++◌, length, get_or, take, drop, is_ok, Ok, Err, Result, Vec, sym, refl, ap, ◌∙◌, subst, arith, length-drop}
use Rattle.std.specs.BTreeMap.{BTreeMap}
use Rattle.std.specs.BTreeMap.{IsOrdered}
use Rattle.std.proofs.lemmas.List.{drop_more, take_more, take_all}
use Rattle.sums.specs.Sums.{every, ToldSum}
use Rattle.sums.proofs.Everys.{every_last}
use Rattle.rows.specs.declared.Row.{Row}
use Rattle.rows.specs.Walls.{as_told, rows_of, pair_cmp}
use Rattle.text.specs.Text.{Bytes, whole_lines}
use Rattle.wall_reader.specs.declared.mistake.Reason.{Reason}
use Rattle.wall_reader.specs.declared.mistake.WallMistake.{WallMistake}
use Rattle.wall_reader.specs.declared.mistake.WallMistake.TheVariants.{Line, Contradiction, Memory}
use Rattle.wall_reader.specs.Lines.{row_on}
use Rattle.wall_reader.specs.Reads.{with_row, rows_on, stands, Good, GoodAbove, TableOf, NoRow, Contradicted, ReadSays, Holds, RowMore, LineTaken}
use Rattle.wall_reader.proofs.Held.{none_held, held_all, held_only, held_order, held_agree}

-- the first n lines are rows, and the map holds them
pub record SoFar (ls : List Bytes) (n : ℕ) (m : BTreeMap (ℕ × ℕ) ℕ) : Type 0 where
  pub rows : every (λ l. is_ok (row_on l)) (take n ls) ≡ true
  pub held : Holds (rows_on (take n ls)) m

pub at_first : (ls : List Bytes) (m : BTreeMap (ℕ × ℕ) ℕ) → m.entries ≡ [] → IsOrdered pair_cmp m → SoFar ls 0 m
unfolding every rows_on
at_first ls m none ordered = record { rows = refl; held = none_held m none ordered }

rows_on_more : (ls : List Bytes) (l : Bytes) (r : Row) → row_on l ≡ Ok r → rows_on (ls ++ l ∷ []) ≡ rows_on ls ++ as_told r ∷ []
unfolding rows_on
rows_on_more [] l r e = ap (λ x. with_row x []) e
rows_on_more (k ∷ ls) l r e = ap (with_row (row_on k)) (rows_on_more ls l r e) ∙ go (row_on k)
  where
    go : (x : Result Row Reason) → with_row x (rows_on ls ++ as_told r ∷ []) ≡ with_row x (rows_on ls) ++ as_told r ∷ []
    go (Ok q) = refl
    go (Err f) = refl

module _ (ls : List Bytes) (n : ℕ) (m : BTreeMap (ℕ × ℕ) ℕ) (so : SoFar ls n m) where
  good_so : Good (take n ls)
  good_so = record { rows = so.rows; agree = held_agree (rows_on (take n ls)) m so.held }

  back : n ≡ (n + 1) - 1
  back = omega arith

  -- one line more, which is there
  module _ (l : Bytes) (after : List Bytes) (cut : drop n ls ≡ l ∷ after) where
    there : n < length ls
    there = omega (arith, length-drop n ls, ap length cut)

    two : get_or ls n [] ∷ drop (n + 1) ls ≡ l ∷ after
    two = sym (drop_more ls n [] there) ∙ cut

    line_is : get_or ls n [] ≡ l
    line_is = cc two

    pub left : drop (n + 1) ls ≡ after
    left = cc two

    longer : take (n + 1) ls ≡ take n ls ++ l ∷ []
    longer = take_more ls n [] there ∙ ap (λ x. take n ls ++ x ∷ []) line_is

    pub one_more : (p : BTreeMap (ℕ × ℕ) ℕ) → (r : Row) × (row_on l ≡ Ok r) × RowMore r m p → SoFar ls (n + 1) p
    one_more p (r, says, more) = record {
      rows = ap (every (λ x. is_ok (row_on x))) longer ∙ every_last (λ x. is_ok (row_on x)) (take n ls) l so.rows (ap is_ok says);
      held = subst (λ ts. Holds ts p) (sym (ap rows_on longer ∙ rows_on_more (take n ls) l r says)) (more (rows_on (take n ls)) so.held);
    }

    above : GoodAbove ls (n + 1)
    above = record { counted = (omega arith, omega (arith, there)); above = subst (λ k. Good (take k ls)) back good_so }

    here : row_on (get_or ls ((n + 1) - 1) []) ≡ row_on l
    here = ap (λ k. row_on (get_or ls k [])) (sym back) ∙ ap row_on line_is

-- a line that is refused
module _ (text : Bytes) (n : ℕ) (m : BTreeMap (ℕ × ℕ) ℕ) (so : SoFar (whole_lines text) n m) where
  pub stopped : {Y : Type 0} (l : Bytes) (after : List Bytes) → drop n (whole_lines text) ≡ l ∷ after → (p : BTreeMap (ℕ × ℕ) ℕ) (e : WallMistake) → LineTaken (n + 1) l m p (Err e) →
      (r : Result (Vec Row Y) WallMistake) → r ≡ Err e → ReadSays text r
  stopped l after cut p (Line k e) (is, why) r eq =
      subst (ReadSays text) (sym eq)
      (subst (λ j. NoRow (whole_lines text) j e) (sym is) (record { place = above (whole_lines text) n m so l after cut; why = here (whole_lines text) n m so l after cut ∙ why }))
  stopped l after cut p (Contradiction k h q first second) (row, says, against) r eq =
      subst (ReadSays text) (sym eq)
      (subst (λ j. Contradicted (whole_lines text) j h q first second) (sym against.number) (record {
        place = above (whole_lines text) n m so l after cut;
        here = here (whole_lines text) n m so l after cut ∙ says ∙ ap Ok against.row;
        above = subst (λ j. stands (rows_on (take j (whole_lines text))) (record { hour = h; place = q; sum = first }) ≡ true) (back (whole_lines text) n m so) (against.above (rows_on (take n (whole_lines text))) so.held);
        other = against.other;
      }))
  stopped l after cut p Memory h r eq = subst (ReadSays text) (sym eq) tt

  -- no line is left
  pub all_read : drop n (whole_lines text) ≡ [] → (ts : List ToldSum) → ts ≡ rows_of m → TableOf (whole_lines text) ts
  all_read none ts is =
      let few : length (whole_lines text) ≤ n = omega (arith, length-drop n (whole_lines text), ap length none) in
      let whole : take n (whole_lines text) ≡ whole_lines text = take_all n (whole_lines text) few in
      let held : Holds (rows_on (whole_lines text)) m = subst (λ ls. Holds (rows_on ls) m) whole so.held in
      subst (TableOf (whole_lines text)) (sym is) (record {
        good = subst Good whole (good_so (whole_lines text) n m so);
        all = held_all (rows_on (whole_lines text)) m held;
        only = held_only (rows_on (whole_lines text)) m held;
        ordered = held_order (rows_on (whole_lines text)) m held;
      })
