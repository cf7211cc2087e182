use Rattle.std.proofs.Common.{sym, arith}
use Rattle.std.proofs.lemmas.Grind.{common_steps}
use Rattle.std.proofs.lemmas.List.{nil_from_length}
use Rattle.text.specs.Text.{decimal}
use Rattle.text.proofs.Numbers.{whole, read_on_bad, read_on_large, read_on_more, read_on_end}
use Rattle.text.proofs.read.decimal.Goals as goal

pub returns-then-is_empty : goal.returns-then-is_empty
unfolding decimal
returns-then-is_empty c = grind (arith, common_steps, nil_from_length c.args.word.now)

pub returns-then-not-is_ascii_digit : goal.returns-then-not-is_ascii_digit
returns-then-not-is_ascii_digit c =
    let bs = c.args.word.now in
    whole bs c.loop-byte.value c.loop-byte.byte-index (sym c.if-is_empty.ensures) c.loop-byte.invariant.1
    (read_on_bad c.loop-byte.value bs c.loop-byte.byte-index c.loop-byte-test.true (sym c.if-not-is_ascii_digit.ensures.value))

pub returns-in_err-checked_mul : goal.returns-in_err-checked_mul
returns-in_err-checked_mul c = grind (arith, common_steps, read_on_large, whole)

pub returns-in_err-value : goal.returns-in_err-value
returns-in_err-value c = grind (arith, common_steps, read_on_large, whole)

pub loop-byte-preserved : goal.loop-byte-preserved
loop-byte-preserved c = grind (arith, common_steps, read_on_more)

pub returns : goal.returns
returns c = grind (arith, common_steps, read_on_end, whole)
