use Rattle.promise.proofs.Laws.{never_back}
use Rattle.promise.proofs.never_back.Goals as goal

pub returns : goal.returns
returns c = never_back
