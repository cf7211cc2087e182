use Rattle.promise.proofs.Laws.{outlives}
use Rattle.promise.proofs.outlives.Goals as goal

pub returns : goal.returns
returns c = outlives
