-- Bytes of numbers: those that are read are spelled just as they would be written.
use Rattle.std.proofs.Common.{◌≡◌, ℕ, zero, suc, ◌+◌, ◌*◌, ◌/◌, ◌%◌, ◌^◌, ◌<◌, ◌≤◌, true, List, [], ◌∷◌, ◌++◌, length, get_or, take, drop, sym, refl, ap, ◌∙◌, append_assoc, arith, nat_lt, lit<, length-drop, mul-zero, append-nil, length-take}
use Rattle.std.proofs.lemmas.List.{take-append-drop, drop-drop, get_or-drop, length-take-le, drop_all}
use Rattle.std.proofs.lemmas.Bool.{and_parts, and_from, ltb-true, lt-ltb}
use Rattle.std.proofs.Math.Nat.{pow-le-pow_right}
use Rattle.sums.specs.Digits.{digits, value, fits, row_bytes, row_numbers}
use Rattle.sums.specs.Cells.{slots}
use Rattle.sums.specs.Pages.{sum_width, count_width, page_length, page_bytes, page_sums, page_counts, numbers_fit}
use Rattle.sums.specs.Sums.{every}
use Rattle.sums.proofs.Digits.{value_fits, take_low}

-- each is a byte, by its place
abbrev pub Low : List ℕ → Type 0
Low bs = (i : ℕ) → get_or bs i 0 < 256

pub low_bytes : (bs : List ℕ) → every (λ b. nat_lt b 256) bs ≡ true → Low bs
unfolding every
low_bytes [] all i = lit< tt
low_bytes (b ∷ bs) all zero = ltb-true b 256 (and_parts _ _ all).0
low_bytes (b ∷ bs) all (suc i) = low_bytes bs (and_parts (nat_lt b 256) _ all).1 i

pub drop_low : (n : ℕ) (bs : List ℕ) → Low bs → Low (drop n bs)
drop_low n bs low i = rw get_or-drop (low (n + i))

pub digits_value : (bs : List ℕ) → Low bs → digits (length bs) (value bs) ≡ bs
unfolding digits value
digits_value [] low = refl
digits_value (b ∷ bs) low =
    let first : b < 256 = low zero in
    let byte : (b + 256 * value bs) % 256 ≡ b = omega arith in
    let others : (b + 256 * value bs) / 256 ≡ value bs = omega arith in
    rw (byte, others) (ap (λ ds. b ∷ ds) (digits_value bs (λ i. low (suc i))))

-- a number in front
pub spelled_front : (w : ℕ) (bs : List ℕ) → Low bs → w ≤ length bs → digits w (value (take w bs)) ≡ take w bs
spelled_front w bs low le = ap (λ n. digits n (value (take w bs))) (sym (length-take-le w bs le)) ∙ digits_value (take w bs) (take_low w bs low)

-- a row in front
pub spelled_row : (w c : ℕ) (bs : List ℕ) → Low bs → w * c ≤ length bs → row_bytes w (row_numbers w c bs) ++ drop (w * c) bs ≡ bs
unfolding row_bytes row_numbers
spelled_row w zero bs low le = simp (mul-zero) refl
spelled_row w (suc c) bs low le =
    let split : w * suc c ≡ w + w * c = omega arith in
    let room : w * c ≤ length (drop w bs) = rw length-drop (omega arith) in
    let front = spelled_front w bs low (omega arith) in
    let rest = spelled_row w c (drop w bs) (drop_low w bs low) room in
    rw (front, append_assoc) (rw (split, ← drop-drop, rest) (take-append-drop w bs))

-- a page, where the bytes are just as many
pub spelled_page : (bs : List ℕ) → Low bs → length bs ≡ page_length → page_bytes (page_sums bs) (page_counts bs) ≡ bs
unfolding page_bytes page_sums page_counts
spelled_page bs low len =
    let sums = spelled_row sum_width slots bs low (omega arith) in
    let behind = drop (sum_width * slots) bs in
    let room : count_width * slots ≤ length behind = rw length-drop (omega arith) in
    let counts = spelled_row count_width slots behind (drop_low (sum_width * slots) bs low) room in
    let none : drop (count_width * slots) behind ≡ [] = drop_all (count_width * slots) behind (rw length-drop (omega arith)) in
    let last : row_bytes count_width (row_numbers count_width slots behind) ≡ behind = sym (append-nil _) ∙ ap (λ zs. row_bytes count_width (row_numbers count_width slots behind) ++ zs) (sym none) ∙ counts in
    rw last sums

-- what is read in so many bytes fits them
pub read_fits : (w c : ℕ) (bs : List ℕ) → Low bs → every (fits w) (row_numbers w c bs) ≡ true
unfolding every row_numbers
read_fits w zero bs low = refl
read_fits w (suc c) bs low =
    let few : length (take w bs) ≤ w = rw length-take (omega arith) in
    let small : value (take w bs) < 256 ^ length (take w bs) = value_fits (take w bs) (take_low w bs low) in
    let wide : 256 ^ length (take w bs) ≤ 256 ^ w = pow-le-pow_right (lit< tt) few in
    and_from _ _ (lt-ltb _ _ (omega arith)) (read_fits w c (drop w bs) (drop_low w bs low))

pub page_numbers_fit : (bs : List ℕ) → Low bs → numbers_fit bs ≡ true
unfolding page_sums page_counts
page_numbers_fit bs low = and_from _ _ (read_fits sum_width slots bs low) (read_fits count_width slots (drop (sum_width * slots) bs) (drop_low (sum_width * slots) bs low))
