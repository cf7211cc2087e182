-- Records as bytes: how long they are, that each byte is one, and that what is read is what was written.
use Rattle.std.proofs.Common.{◌≡◌, ℕ, ◌*◌, ◌<◌, true, ltb, List, [], ◌∷◌, length, Some, None, Option, unwrap_or, sym, refl, ap, ◌∙◌, append-nil, lit<}
use Rattle.std.proofs.lemmas.Bool.{and_from, lt-ltb, eq-eqb, ne_eqb}
use Rattle.sums.specs.Digits.{fits, row_bytes, row_numbers}
use Rattle.sums.specs.Sums.{every}
use Rattle.sums.proofs.Digits.{length_row, numbers_back, row_all_bytes}
use Rattle.store.specs.Records.{set_number, numbered_set, number_width, number_limit, record_of, zero_root, root_numbers, numbered_root, root_bytes, root_bytes_long, root_of, zero_cursor, cursor_numbers, numbered_cursor, cursor_bytes, cursor_bytes_long, cursor_of, RootFits, CursorFits, RootRoundTrip, CursorRoundTrip}
use Rattle.store.specs.declared.records.Cursor.{Cursor}
use Rattle.store.specs.declared.records.PageSet.{PageSet}
use Rattle.store.specs.declared.records.PageSet.TheVariants.{First, Second}
use Rattle.store.specs.declared.records.PageSet.TheVariants as page_set
use Rattle.store.specs.declared.records.Root.{Root}

-- a set is that of its number
pub set_back : (s : PageSet) → numbered_set (set_number s) ≡ Some s
set_back page_set.None = refl
set_back First = refl
set_back Second = refl

pub set_fits : (s : PageSet) → set_number s < number_limit
set_fits page_set.None = lit< tt
set_fits First = lit< tt
set_fits Second = lit< tt

-- what the bytes of numbers stand for is the record of these numbers, where they fit, or the zero record; and nothing of another length is a record
module _ {R : Type 0} (z : R) (n : ℕ) (of : List ℕ → Option R) where
  record_back : (ns : List ℕ) (r : Option R) → length ns ≡ n → every (fits number_width) ns ≡ true → of ns ≡ r →
      record_of z n of (row_bytes number_width ns) ≡ unwrap_or r z
  record_back ns r len all is =
      let bs = row_bytes number_width ns in
      let whole : length bs ≡ number_width * n = length_row number_width ns ∙ ap (λ k. number_width * k) len in
      let back : row_numbers number_width n bs ≡ ns =
      rw (← len) (ap (row_numbers number_width (length ns)) (sym (append-nil bs)) ∙ numbers_back number_width ns [] all) in
      simp (eq-eqb (length bs) (number_width * n) whole, back, is)

  no_record : (bs : List ℕ) → (length bs ≡ number_width * n → ⊥) → record_of z n of bs ≡ z
  no_record bs other = simp (ne_eqb (length bs) (number_width * n) other)

pub root_back : (r : Root) → RootFits r → root_of (root_bytes r) ≡ r
unfolding root_of root_bytes every
root_back r small =
    record_back zero_root 3 numbered_root (root_numbers r) (Some r) refl
    (and_from _ _ (lt-ltb _ _ (set_fits r.set)) (and_from _ _ (lt-ltb _ _ small.hour) (and_from _ _ (lt-ltb _ _ small.pos) refl)))
    (simp set_back)

pub cursor_back : (c : Cursor) → CursorFits c → cursor_of (cursor_bytes c) ≡ c
unfolding cursor_of cursor_bytes every
cursor_back c small =
    record_back zero_cursor 2 numbered_cursor (cursor_numbers c) (Some c) refl (and_from _ _ (lt-ltb _ _ small.hour) (and_from _ _ (lt-ltb _ _ small.cell) refl)) refl

-- each byte is one
pub root_all_bytes : (r : Root) → every (λ b. ltb b 256) (root_bytes r) ≡ true
unfolding root_bytes
root_all_bytes r = row_all_bytes number_width (root_numbers r)

pub cursor_all_bytes : (c : Cursor) → every (λ b. ltb b 256) (cursor_bytes c) ≡ true
unfolding cursor_bytes
cursor_all_bytes c = row_all_bytes number_width (cursor_numbers c)

pub root_round_trip : RootRoundTrip
unfolding RootRoundTrip root_of
root_round_trip = (
  λ r. (root_bytes_long r, root_all_bytes r, root_back r),
  no_record zero_root 3 numbered_root,
  λ n h p all none. record_back zero_root 3 numbered_root (n ∷ h ∷ p ∷ []) None refl all (simp none),
)

pub cursor_round_trip : CursorRoundTrip
unfolding CursorRoundTrip cursor_of
cursor_round_trip = (λ c. (cursor_bytes_long c, cursor_all_bytes c, cursor_back c), no_record zero_cursor 2 numbered_cursor)
