use Rattle.store.proofs.Checkpoints.{checkpoint_laws}
use Rattle.store.proofs.checkpoint_laws.Goals as goal

pub returns : goal.returns
returns c = checkpoint_laws
