use Rattle.whole.proofs.Promised.{told_twice_if_struck}
use Rattle.whole.proofs.told_twice_if_struck.Goals as goal

pub returns : goal.returns
returns c = told_twice_if_struck
