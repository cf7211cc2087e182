use Rattle.whole.proofs.Refilled.{boot_stands}
use Rattle.whole.proofs.boot_stands.Goals as goal

pub returns : goal.returns
returns c = boot_stands
