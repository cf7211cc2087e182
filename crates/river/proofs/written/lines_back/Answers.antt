use Rattle.river.proofs.Spelled.{lines_back}
use Rattle.river.proofs.written.lines_back.Goals as goal

pub returns : goal.returns
returns c = lines_back
