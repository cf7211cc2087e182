use Rattle.std.proofs.Common.{arith}
use Rattle.std.proofs.lemmas.Grind.{common_steps}
use Rattle.sums.specs.Digits.{row_numbers}
use Rattle.sums.specs.Sums.{every}
use Rattle.sums.proofs.Digits.{numbers_more}
use Rattle.sums.proofs.Everys.{every_last}
use Rattle.sums.proofs.numbers.take_row.Goals as goal

pub loop-number-init : goal.loop-number-init
unfolding row_numbers every
loop-number-init c = grind (arith, common_steps)

pub loop-number-preserved : goal.loop-number-preserved
loop-number-preserved c = grind (arith, common_steps, numbers_more, every_last)
