use Rattle.std.proofs.Common.{◌++◌, length, drop, ap₂, ◌∙◌}
use Rattle.gauge.proofs.Cells.{part_is}
use Rattle.exchange.specs.Letters.{letter_bytes}
use Rattle.exchange.proofs.mail.write_with_page.Goals as goal

pub returns-clause-length : goal.returns-clause-length
returns-clause-length c =
    let m = c.args.memory.now in
    c.write_letter.ensures.length ∙ ap₂ (λ ss cs. length (letter_bytes c.args.head ss cs)) (part_is m _ _) (part_is m _ _)

pub returns-clause-bytes : goal.returns-clause-bytes
returns-clause-bytes c =
    let m = c.args.memory.now in
    c.write_letter.ensures.bytes ∙ ap₂ (λ ss cs. letter_bytes c.args.head ss cs ++ drop c.write_letter.result c.args.out.now) (part_is m _ _) (part_is m _ _)
