-- Numbers and rows of numbers as bytes: how long they are, that each byte is one, and that what is read is what was written.
use Rattle.std.proofs.Common.{◌≡◌, ℕ, zero, suc, ◌+◌, ◌*◌, ◌/◌, ◌%◌, ◌^◌, ◌<◌, ◌≤◌, true, ltb, List, [], ◌∷◌, ◌++◌, length, get_or, take, drop, replicate, sym, refl, ap, ◌∙◌, append_assoc, append-nil, mod-eq_of_lt, pow-suc, arith, lit<, lit≤}
use native.Mathlib.Nat.{div-div-eq-div-mul, one-le-pow, pow-zero}
use lib.Arith.{mod-mul}
use Rattle.std.proofs.lemmas.List.{take_more, take_at, drop_at, drop-drop}
use Rattle.std.proofs.lemmas.Bool.{and_from, and_parts, ltb-true, lt-ltb}
use Rattle.std.proofs.lemmas.Grind.{common_steps}
use Rattle.sums.specs.Digits.{digits, value, fits, row_bytes, row_numbers}
use Rattle.sums.specs.Sums.{every}
use Rattle.sums.proofs.Everys.{every_append}

pub length_digits : (w n : ℕ) → length (digits w n) ≡ w
unfolding digits
length_digits zero n = refl
length_digits (suc w) n = ap suc (length_digits w (n / 256))

-- fewer bytes are the low ones
pub take_digits : (w v n : ℕ) → w ≤ v → take w (digits v n) ≡ digits w n
unfolding digits
take_digits zero v n le = refl
take_digits (suc w) zero n le = absurd (omega arith)
take_digits (suc w) (suc v) n le = ap (λ bs. n % 256 ∷ bs) (take_digits w v (n / 256) (omega arith))

-- what is read of a number in w bytes is what is left of it there
pub value_digits : (w n : ℕ) → value (digits w n) ≡ n % 256 ^ w
unfolding digits value
value_digits zero n = sym (simp pow-zero (omega arith))
value_digits (suc w) n =
    let split : n % (256 ^ w * 256) ≡ (n / 256 % 256 ^ w) * 256 + n % 256 = mod-mul n (one-le-pow w 256 (lit≤ tt)) (lit< tt) in
    ap (λ m. n % 256 + 256 * m) (value_digits w (n / 256)) ∙ omega (arith, split) ∙ ap (λ m. n % m) (sym (pow-suc 256 w))

pub value_back : (w n : ℕ) → fits w n ≡ true → value (digits w n) ≡ n
value_back w n small = grind (arith, value_digits, mod-eq_of_lt, ltb-true)

-- zeros behind bytes do not count
pub value_zeros : (bs : List ℕ) (k : ℕ) → value (bs ++ replicate k 0) ≡ value bs
unfolding value
value_zeros [] zero = refl
value_zeros [] (suc k) = omega (arith, value_zeros [] k)
value_zeros (b ∷ bs) k = ap (λ m. b + 256 * m) (value_zeros bs k)

-- bytes write a number that fits in as many
pub value_fits : (bs : List ℕ) → ((i : ℕ) → get_or bs i 0 < 256) → value bs < 256 ^ length bs
unfolding value
value_fits [] low = lit< tt
value_fits (b ∷ bs) low =
    let first : b < 256 = low zero in
    let rest : value bs < 256 ^ length bs = value_fits bs (λ i. low (suc i)) in
    rw pow-suc (omega arith)

pub take_low : (n : ℕ) (bs : List ℕ) → ((i : ℕ) → get_or bs i 0 < 256) → (i : ℕ) → get_or (take n bs) i 0 < 256
take_low zero bs low i = lit< tt
take_low (suc n) [] low i = lit< tt
take_low (suc n) (b ∷ bs) low zero = low zero
take_low (suc n) (b ∷ bs) low (suc i) = take_low n bs (λ j. low (suc j)) i

-- eight bytes, as the machine's own numbers have them
pub digits_eight : (n : ℕ) →
    n % 256 ∷ n / 256 % 256 ∷ n / 65536 % 256 ∷ n / 16777216 % 256 ∷ n / 4294967296 % 256 ∷ n / 1099511627776 % 256 ∷ n / 281474976710656 % 256
    ∷ n / 72057594037927936 % 256 ∷ [] ≡ digits 8 n
unfolding digits
digits_eight n = simp div-div-eq-div-mul

pub value_eight : (bs : List ℕ) → length bs ≡ 8 →
    value bs ≡ get_or bs 0 0 + get_or bs 1 0 * 256 + get_or bs 2 0 * 65536 + get_or bs 3 0 * 16777216 + get_or bs 4 0 * 4294967296 + get_or bs 5 0 * 1099511627776
    + get_or bs 6 0 * 281474976710656 + get_or bs 7 0 * 72057594037927936
unfolding value
value_eight [] p = absurd (omega arith)
value_eight (a ∷ []) p = absurd (omega arith)
value_eight (a ∷ b ∷ []) p = absurd (omega arith)
value_eight (a ∷ b ∷ c ∷ []) p = absurd (omega arith)
value_eight (a ∷ b ∷ c ∷ d ∷ []) p = absurd (omega arith)
value_eight (a ∷ b ∷ c ∷ d ∷ e ∷ []) p = absurd (omega arith)
value_eight (a ∷ b ∷ c ∷ d ∷ e ∷ f ∷ []) p = absurd (omega arith)
value_eight (a ∷ b ∷ c ∷ d ∷ e ∷ f ∷ g ∷ []) p = absurd (omega arith)
value_eight (a ∷ b ∷ c ∷ d ∷ e ∷ f ∷ g ∷ h ∷ []) p = omega arith
value_eight (a ∷ b ∷ c ∷ d ∷ e ∷ f ∷ g ∷ h ∷ i ∷ bs) p = absurd (omega arith)

pub length_row : (w : ℕ) (ns : List ℕ) → length (row_bytes w ns) ≡ w * length ns
unfolding row_bytes
length_row w [] = omega arith
length_row w (n ∷ ns) = grind (arith, common_steps, length_digits w n, length_row w ns)

row_append : (w : ℕ) (ms ns : List ℕ) → row_bytes w (ms ++ ns) ≡ row_bytes w ms ++ row_bytes w ns
unfolding row_bytes
row_append w [] ns = refl
row_append w (m ∷ ms) ns = grind (arith, append_assoc (digits w m) (row_bytes w ms) (row_bytes w ns), row_append w ms ns)

row_one : (w n : ℕ) → row_bytes w (n ∷ []) ≡ digits w n
unfolding row_bytes
row_one w n = append-nil (digits w n)

-- one number more
pub row_more : (w : ℕ) (ns : List ℕ) (i : ℕ) → i < length ns → row_bytes w (take (i + 1) ns) ≡ row_bytes w (take i ns) ++ digits w (get_or ns i 0)
row_more w ns i lt = rw (take_more ns i 0 lt, row_append, row_one)

pub length_numbers : (w c : ℕ) (bs : List ℕ) → length (row_numbers w c bs) ≡ c
unfolding row_numbers
length_numbers w zero bs = refl
length_numbers w (suc c) bs = ap suc (length_numbers w c (drop w bs))

-- one number more is read
pub numbers_more : (w c : ℕ) (bs : List ℕ) → row_numbers w (c + 1) bs ≡ row_numbers w c bs ++ value (take w (drop (w * c) bs)) ∷ []
unfolding row_numbers
numbers_more w zero bs = grind arith
numbers_more w (suc c) bs = grind (arith, numbers_more w c (drop w bs), drop-drop)

-- a row is read back, whatever stands behind it
pub numbers_back : (w : ℕ) (ns rest : List ℕ) → every (fits w) ns ≡ true → row_numbers w (length ns) (row_bytes w ns ++ rest) ≡ ns
unfolding row_numbers row_bytes every
numbers_back w [] rest all = refl
numbers_back w (n ∷ ns) rest all =
    let small : fits w n ≡ true = (and_parts _ _ all).0 in
    let more : every (fits w) ns ≡ true = (and_parts (fits w n) _ all).1 in
    let behind = row_bytes w ns ++ rest in
    grind (
      arith,
      append_assoc (digits w n) (row_bytes w ns) rest,
      take_at (digits w n) behind w (length_digits w n),
      drop_at (digits w n) behind w (length_digits w n),
      value_back w n small,
      numbers_back w ns rest more,
    )

pub digits_bytes : (w n : ℕ) → every (λ b. ltb b 256) (digits w n) ≡ true
unfolding digits every
digits_bytes zero n = refl
digits_bytes (suc w) n = and_from _ _ (lt-ltb (n % 256) 256 (omega arith)) (digits_bytes w (n / 256))

pub row_all_bytes : (w : ℕ) (ns : List ℕ) → every (λ b. ltb b 256) (row_bytes w ns) ≡ true
unfolding row_bytes every
row_all_bytes w [] = refl
row_all_bytes w (n ∷ ns) = every_append _ (digits w n) (row_bytes w ns) (digits_bytes w n) (row_all_bytes w ns)
