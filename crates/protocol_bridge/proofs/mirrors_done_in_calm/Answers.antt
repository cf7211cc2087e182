use Rattle.protocol_bridge.proofs.Promised.{mirrors_done_in_calm}
use Rattle.protocol_bridge.proofs.mirrors_done_in_calm.Goals as goal

pub returns : goal.returns
returns c = mirrors_done_in_calm
