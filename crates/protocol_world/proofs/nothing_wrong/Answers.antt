use Rattle.protocol_world.proofs.Theorems.{nothing_wrong}
use Rattle.protocol_world.proofs.nothing_wrong.Goals as goal

pub returns : goal.returns
returns c = nothing_wrong
