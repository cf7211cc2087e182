use Rattle.std.proofs.Common.{ap, ◌∙◌, rules}
use Rattle.wall_reader.specs.Lines.{row_on}
use Rattle.wall_reader.proofs.Back.{read_back}
use Rattle.wall_reader.proofs.line.print_and_read.Goals as goal

pub returns : goal.returns
returns c =
    c.read_row.ensures ∙ ap row_on (c.as_bytes.ensures.value ∙ c.in_ok-line.ensures.ok)
    ∙ read_back c.args.row (search rules) (search rules) (search rules)
