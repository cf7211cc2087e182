use Rattle.std.proofs.Common.{ap, ◌∙◌, rules}
use Rattle.text.specs.Text.{lines}
use Rattle.keeper.specs.Stations.{lone_line}
use Rattle.keeper.proofs.Numbers.{number_back}
use Rattle.keeper.proofs.files.released_text.Goals as goal

pub returns : goal.returns
returns c =
    ap (λ bs. lone_line (lines bs)) c.in_ok-format.ensures.ok
    ∙ number_back c.args.place (search rules)
