use Rattle.sums.specs.Numbers.{NumbersLaw}
use Rattle.sums.proofs.Digits.{numbers_back}
use Rattle.sums.proofs.numbers.numbers_law.Goals as goal

pub returns : goal.returns
unfolding NumbersLaw
returns c = numbers_back
