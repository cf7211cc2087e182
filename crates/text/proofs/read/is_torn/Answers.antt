use Rattle.std.proofs.Common.{arith}
use Rattle.std.proofs.lemmas.Grind.{common_steps}
use Rattle.text.proofs.Wholes.{torn_is}
use Rattle.text.proofs.read.is_torn.Goals as goal

pub returns : goal.returns
returns c = let is = torn_is c.args.text.now in grind (arith, common_steps)
