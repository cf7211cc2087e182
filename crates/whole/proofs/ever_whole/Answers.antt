use Rattle.whole.proofs.Promised.{ever_whole}
use Rattle.whole.proofs.ever_whole.Goals as goal

pub returns : goal.returns
returns c = ever_whole
