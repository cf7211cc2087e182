use Rattle.protocol_bridge.proofs.Mirrored.{mirrors_whole}
use Rattle.protocol_bridge.proofs.mirrors_whole.Goals as goal

pub returns : goal.returns
returns c = mirrors_whole
