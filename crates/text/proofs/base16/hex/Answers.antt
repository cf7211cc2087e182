use Rattle.std.proofs.Common.{◌≡◌, ◌+◌, ◌/◌, ◌%◌, ◌<◌, [], ◌∷◌, ◌++◌, get_or, drop, string_bytes, ap, ◌∙◌, arith}
use lib.Utf8.{encode}
use Rattle.std.proofs.lemmas.List.{append_assoc}
use Rattle.text.specs.Hex.{hex, hex_digit, unhex}
use Rattle.text.proofs.Hexes.{digit_small, hex_more, hex_done, read_back}
use Rattle.text.proofs.base16.hex.Goals as goal

pub loop-byte-preserved : goal.loop-byte-preserved
loop-byte-preserved c =
    let bs = c.args.bytes.now in
    let i = c.loop-byte.byte-index in
    let b = get_or bs i 0 in
    let done = string_bytes c.loop-byte.text in
    let small : b < 256 = omega (arith, c.type_inv.bytes i) in
    let one = c.in_ok-push.ensures in
    let two = c.in_ok-push-2.ensures in
    let high : encode c.digit.result ≡ hex_digit (b / 16) ∷ [] =
    one.ascii (omega (arith, c.digit.ensures, digit_small (b / 16) (omega arith))) ∙ ap (λ d. d ∷ []) c.digit.ensures in
    let low : encode c.digit-in-loop-byte.result ≡ hex_digit (b % 16) ∷ [] =
    two.ascii (omega (arith, c.digit-in-loop-byte.ensures, digit_small (b % 16) (omega arith))) ∙ ap (λ d. d ∷ []) c.digit-in-loop-byte.ensures in
    let text : string_bytes c.push-in-loop-byte.new.self ≡ done ++ hex_digit (b / 16) ∷ hex_digit (b % 16) ∷ [] =
    two.bytes ∙ (λ j. (one.bytes ∙ ap (λ l. done ++ l) high) j ++ low j) ∙ append_assoc done _ _ in
    ap (λ l. l ++ hex (drop (i + 1) bs)) text ∙ hex_more bs done i c.loop-byte-test.true c.loop-byte.invariant

pub returns : goal.returns
returns c =
    let bs = c.args.bytes.now in
    let written = hex_done bs (string_bytes c.loop-byte.text) c.loop-byte.byte-index (omega arith) c.loop-byte.invariant in
    record { written = written; back = ap unhex written ∙ read_back bs (λ k h. omega (arith, c.type_inv.bytes k)) }
