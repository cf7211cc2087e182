use Rattle.protocol_bridge.proofs.Promised.{mirrors_ever_safe}
use Rattle.protocol_bridge.proofs.mirrors_ever_safe.Goals as goal

pub returns : goal.returns
returns c = mirrors_ever_safe
