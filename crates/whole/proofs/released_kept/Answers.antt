use Rattle.whole.proofs.Promised.{released_kept}
use Rattle.whole.proofs.released_kept.Goals as goal

pub returns : goal.returns
returns c = released_kept
