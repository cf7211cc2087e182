use Rattle.whole.proofs.Promised.{told_once}
use Rattle.whole.proofs.told_once.Goals as goal

pub returns : goal.returns
returns c = told_once
