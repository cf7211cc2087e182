use Rattle.protocol_bridge.proofs.Promised.{mirrors_told_again}
use Rattle.protocol_bridge.proofs.mirrors_told_again.Goals as goal

pub returns : goal.returns
returns c = mirrors_told_again
