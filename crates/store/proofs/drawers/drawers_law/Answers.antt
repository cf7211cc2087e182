use Rattle.store.proofs.Numbered.{drawers_law}
use Rattle.store.proofs.drawers.drawers_law.Goals as goal

pub returns : goal.returns
returns c = drawers_law
