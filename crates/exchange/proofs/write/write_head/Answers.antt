use Rattle.std.proofs.Common.{◌*◌, ◌≤◌, length, arith}
use Rattle.std.proofs.lemmas.Grind.{common_steps}
use Rattle.std.proofs.lemmas.List.{drop-drop}
use Rattle.sums.specs.Digits.{widest}
use Rattle.exchange.specs.Letters.{head_bytes, head_numbers}
use Rattle.exchange.proofs.Writing.{length_head, flag_byte, marked, behind_marks}
use Rattle.exchange.proofs.write.write_head.Goals as goal

pub returns-clause-length : goal.returns-clause-length
returns-clause-length c = grind (arith, length_head)

pub returns-clause-bytes : goal.returns-clause-bytes
unfolding head_bytes
returns-clause-bytes c =
    let le : 2 ≤ length c.args.out.now = omega arith in
    let front = marked c.args.out.now c.write_head_numbers.new.out c.into.result c.from.result le in
    let behind = behind_marks c.args.out.now c.into.result c.from.result le in
    let flags = flag_byte c.args.head.woke in
    let rest = drop-drop (widest * length (head_numbers c.args.head)) 2 c.args.out.now in
    grind (arith, common_steps)
