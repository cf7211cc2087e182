use Rattle.store.proofs.Boots.{boot_law}
use Rattle.store.proofs.boot_law.Goals as goal

pub returns : goal.returns
returns c = boot_law
