use Rattle.protocol_world.proofs.Theorems.{told_twice_if_struck}
use Rattle.protocol_world.proofs.told_twice_if_struck.Goals as goal

pub returns : goal.returns
returns c = told_twice_if_struck
