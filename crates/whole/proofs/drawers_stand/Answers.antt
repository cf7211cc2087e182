use Rattle.whole.proofs.Stands.{drawers_stand}
use Rattle.whole.proofs.drawers_stand.Goals as goal

pub returns : goal.returns
returns c = drawers_stand
