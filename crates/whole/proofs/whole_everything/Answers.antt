use Rattle.whole.proofs.Promised.{whole_everything}
use Rattle.whole.proofs.whole_everything.Goals as goal

pub returns : goal.returns
returns c = whole_everything
