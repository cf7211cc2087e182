use Rattle.whole.proofs.Checkpointed.{checkpoints_stand}
use Rattle.whole.proofs.checkpoints_stand.Goals as goal

pub returns : goal.returns
returns c = checkpoints_stand
