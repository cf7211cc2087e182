use Rattle.std.proofs.Common.{◌≡◌, ◌*◌, ◌++◌, take, drop}
use Rattle.sums.specs.Digits.{row_bytes}
use Rattle.sums.proofs.numbers.put_row.Given as goal

abbrev pub invariant-loop-i : goal.invariant-loop-i
invariant-loop-i l = l.out ≡ row_bytes l.width.bytes (take l.i l.numbers) ++ drop (l.width.bytes * l.i) l.initial.out
