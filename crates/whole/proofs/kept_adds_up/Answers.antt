use Rattle.whole.proofs.AddsUp.{kept_adds_up}
use Rattle.whole.proofs.kept_adds_up.Goals as goal

pub returns : goal.returns
returns c = kept_adds_up
