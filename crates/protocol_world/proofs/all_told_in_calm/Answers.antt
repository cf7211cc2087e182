use Rattle.protocol_world.proofs.Theorems.{all_told_in_calm}
use Rattle.protocol_world.proofs.all_told_in_calm.Goals as goal

pub returns : goal.returns
returns c = all_told_in_calm
