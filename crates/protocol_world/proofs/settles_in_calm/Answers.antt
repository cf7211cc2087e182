use Rattle.protocol_world.proofs.Theorems.{settles_in_calm}
use Rattle.protocol_world.proofs.settles_in_calm.Goals as goal

pub returns : goal.returns
returns c = settles_in_calm
