-- Bytes as digits, two at a time. Assumes nothing.
use Rattle.std.proofs.Common.{◌≡◌, ℕ, suc, ◌+◌, ◌/◌, ◌%◌, ◌<◌, ◌≤◌, [], ◌∷◌, ◌++◌, length, get_or, drop, Some, Ok, Err, Result, refl, ap, ◌∙◌, arith}
use Rattle.std.proofs.lemmas.List.{drop_more, drop_all, nil_from_length}
use Rattle.std.proofs.lemmas.Grind.{common_steps}
use Rattle.text.specs.declared.base16.HexError.{HexError}
use Rattle.text.specs.declared.base16.HexError.TheVariants.{OddLength}
use Rattle.text.specs.Text.{Bytes}
use Rattle.text.proofs.Behind.{behind, behind_more}
use Rattle.text.specs.Hex.{hex_digit, hex_value, hex_byte, hex, led, joined, unhex}

-- a digit is read as the value that it writes
digit_read : (n : ℕ) → n < 16 → hex_value (hex_digit n) ≡ Some n
digit_read n h = grind (arith, common_steps)

pub read_back : (bs : Bytes) → ((k : ℕ) → k < length bs → get_or bs k 0 < 256) → unhex (hex bs) ≡ Ok bs
unfolding hex unhex
read_back [] small = refl
read_back (b ∷ bs) small =
    let lt : b < 256 = small 0 (omega arith) in
    let both : hex_byte (hex_digit (b / 16)) (hex_digit (b % 16)) ≡ Some b =
    (λ i. joined (digit_read (b / 16) (omega arith) i) (digit_read (b % 16) (omega arith) i)) ∙ ap Some (omega arith) in
    (λ i. led (both i) (read_back bs (λ k h. small (suc k) (omega arith)) i))

-- one byte more is written
pub hex_more : (bs done : Bytes) (i : ℕ) → i < length bs → done ++ hex (drop i bs) ≡ hex bs →
    (done ++ hex_digit (get_or bs i 0 / 16) ∷ hex_digit (get_or bs i 0 % 16) ∷ []) ++ hex (drop (i + 1) bs) ≡ hex bs
unfolding hex
hex_more bs done i h so = grind (arith, common_steps, drop_more bs i 0 h)

pub hex_done : (bs done : Bytes) (i : ℕ) → length bs ≤ i → done ++ hex (drop i bs) ≡ hex bs → done ≡ hex bs
unfolding hex
hex_done bs done i h so = grind (arith, common_steps, drop_all i bs h)

-- two digits more are read
pub unhex_more : (bs : Bytes) → 2 ≤ length bs → unhex bs ≡ led (hex_byte (get_or bs 0 0) (get_or bs 1 0)) (unhex (drop 2 bs))
unfolding unhex
unhex_more [] h = absurd (omega arith)
unhex_more (c ∷ []) h = absurd (omega arith)
unhex_more (c ∷ d ∷ cs) h = refl

pub led_more : (bs : Bytes) (b : ℕ) (r : Result Bytes HexError) → behind bs (led (Some b) r) ≡ behind (bs ++ b ∷ []) r
led_more bs b = behind_more (led (Some b)) b (λ cs. refl) (λ e. refl) bs

pub unhex_odd : (bs : Bytes) → 0 < length bs → length bs < 2 → unhex bs ≡ Err OddLength
unfolding unhex
unhex_odd [] h e = absurd (omega arith)
unhex_odd (c ∷ []) h e = refl
unhex_odd (c ∷ d ∷ cs) h e = absurd (omega arith)

pub unhex_none : (bs : Bytes) → length bs ≡ 0 → unhex bs ≡ Ok []
unfolding unhex
unhex_none bs h = ap unhex (nil_from_length bs h)

pub digit_small : (n : ℕ) → n < 16 → hex_digit n < 128
digit_small n h = grind (arith, common_steps)
