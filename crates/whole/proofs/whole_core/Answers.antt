use Rattle.whole.proofs.Promised.{whole_core}
use Rattle.whole.proofs.whole_core.Goals as goal

pub returns : goal.returns
returns c = whole_core
