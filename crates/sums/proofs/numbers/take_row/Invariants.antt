use Rattle.std.proofs.Common.{◌≡◌, ◌*◌, true, take, drop}
use Rattle.sums.specs.Digits.{fits, row_numbers}
use Rattle.sums.specs.Sums.{every}
use Rattle.sums.proofs.numbers.take_row.Given as goal

-- what is read, and what is still to be read
abbrev pub invariant-loop-number : goal.invariant-loop-number
invariant-loop-number l = record {
  numbers : take l.number-index l.numbers ≡ row_numbers l.width.bytes l.number-index l.bytes;
  small : every (fits l.width.bytes) (take l.number-index l.numbers) ≡ true;
  rest : l.rest ≡ drop (l.width.bytes * l.number-index) l.bytes;
}
