use Rattle.whole.proofs.Promised.{all_released}
use Rattle.whole.proofs.all_released.Goals as goal

pub returns : goal.returns
returns c = all_released
