use Rattle.protocol_world.proofs.Theorems.{released_kept}
use Rattle.protocol_world.proofs.released_kept.Goals as goal

pub returns : goal.returns
returns c = released_kept
