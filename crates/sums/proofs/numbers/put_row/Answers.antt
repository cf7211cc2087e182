use Rattle.std.proofs.Common.{arith}
use Rattle.std.proofs.lemmas.Grind.{common_steps}
use Rattle.sums.specs.Digits.{row_bytes}
use Rattle.sums.proofs.Digits.{length_row, row_more}
use Rattle.sums.proofs.numbers.put_row.Goals as goal

pub loop-i-init : goal.loop-i-init
unfolding row_bytes
loop-i-init c = grind arith

pub loop-i-preserved : goal.loop-i-preserved
loop-i-preserved c = grind (arith, common_steps, length_row, row_more)
