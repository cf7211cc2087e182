use Rattle.protocol_bridge.proofs.Promised.{mirrors_released_kept}
use Rattle.protocol_bridge.proofs.mirrors_released_kept.Goals as goal

pub returns : goal.returns
returns c = mirrors_released_kept
