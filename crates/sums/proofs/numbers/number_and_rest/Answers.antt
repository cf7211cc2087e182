use Rattle.std.proofs.Common.{◌≡◌, ℕ, ◌-◌, ◌^◌, ◌<◌, List, ◌++◌, length, take, drop, replicate, sym, ap, ◌∙◌, arith}
use Rattle.std.proofs.lemmas.Bool.{lt-ltb}
use Rattle.std.proofs.lemmas.Grind.{common_steps}
use Rattle.std.proofs.lemmas.List.{drop-replicate}
use Rattle.sums.specs.Digits.{value}
use Rattle.sums.proofs.Digits.{value_eight, value_zeros, value_fits, take_low}
use Rattle.sums.proofs.numbers.number_and_rest.Goals as goal

pub returns : goal.returns
returns c =
    let w = c.args.width.bytes in
    let front : List ℕ = take w c.args.bytes.now in
    let zeros : List ℕ = replicate (8 - w) 0 in
    let low : List ℕ = c.copy_from_slice.new.self ++ drop w (replicate 8 0) in
    let e : low ≡ front ++ zeros = rw (drop-replicate {X = ℕ} w 8 0, c.copy_from_slice.ensures.after, c.split_at.ensures.front) in
    let eight : length low ≡ 8 = rw e (grind (arith, common_steps)) in
    let number : c.from_le_bytes.result ≡ value front = c.from_le_bytes.ensures ∙ sym (value_eight low eight) ∙ ap value e ∙ value_zeros front (8 - w) in
    let len : length front ≡ w = grind (arith, common_steps) in
    let small : value front < 256 ^ w = rw len at (value_fits front (take_low w c.args.bytes.now (λ i. omega (arith, c.type_inv.bytes i)))) in
    record { number = number; small = rw number (lt-ltb _ _ small); rest = c.split_at.ensures.back }
