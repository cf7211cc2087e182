use Rattle.std.proofs.Common.{arith}
use Rattle.std.proofs.lemmas.Grind.{common_steps}
use Rattle.sums.proofs.Digits.{take_digits, digits_eight}
use Rattle.sums.proofs.numbers.put_number.Goals as goal

pub returns : goal.returns
returns c = grind (arith, common_steps, take_digits, digits_eight)
