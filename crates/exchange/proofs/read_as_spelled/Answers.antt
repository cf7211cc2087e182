use Rattle.exchange.proofs.Laws.{read_as_spelled}
use Rattle.exchange.proofs.read_as_spelled.Goals as goal

pub returns : goal.returns
returns c = read_as_spelled
