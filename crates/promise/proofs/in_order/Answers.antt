use Rattle.promise.proofs.Laws.{in_order}
use Rattle.promise.proofs.in_order.Goals as goal

pub returns : goal.returns
returns c = in_order
