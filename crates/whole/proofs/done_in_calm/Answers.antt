use Rattle.whole.proofs.Promised.{done_in_calm}
use Rattle.whole.proofs.done_in_calm.Goals as goal

pub returns : goal.returns
returns c = done_in_calm
