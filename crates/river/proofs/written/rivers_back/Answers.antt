use Rattle.river.proofs.Backs.{rivers_back}
use Rattle.river.proofs.written.rivers_back.Goals as goal

pub returns : goal.returns
returns c = rivers_back
