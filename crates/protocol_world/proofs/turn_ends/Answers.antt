use Rattle.protocol_world.proofs.Theorems.{turn_ends}
use Rattle.protocol_world.proofs.turn_ends.Goals as goal

pub returns : goal.returns
returns c = turn_ends
