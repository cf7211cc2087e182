use Rattle.protocol_world.proofs.Theorems.{all_released}
use Rattle.protocol_world.proofs.all_released.Goals as goal

pub returns : goal.returns
returns c = all_released
