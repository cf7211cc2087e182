use Rattle.protocol_world.proofs.Theorems.{settled_is_done}
use Rattle.protocol_world.proofs.settled_is_done.Goals as goal

pub returns : goal.returns
returns c = settled_is_done
