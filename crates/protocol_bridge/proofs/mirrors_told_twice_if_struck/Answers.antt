use Rattle.protocol_bridge.proofs.Mirrored.{mirrors_told_twice_if_struck}
use Rattle.protocol_bridge.proofs.mirrors_told_twice_if_struck.Goals as goal

pub returns : goal.returns
returns c = mirrors_told_twice_if_struck
