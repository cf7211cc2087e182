use Rattle.protocol_world.proofs.Theorems.{told_again}
use Rattle.protocol_world.proofs.told_again.Goals as goal

pub returns : goal.returns
returns c = told_again
