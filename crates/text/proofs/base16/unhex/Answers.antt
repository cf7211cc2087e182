use Rattle.std.proofs.Common.{arith}
use Rattle.std.proofs.lemmas.Grind.{common_steps}
use Rattle.text.proofs.Hexes.{led_more, unhex_more, unhex_odd, unhex_none}
use Rattle.text.proofs.base16.unhex.Goals as goal

pub returns-in_default-byte : goal.returns-in_default-byte
returns-in_default-byte c = grind (arith, common_steps, unhex_more)

pub loop-rest-preserved : goal.loop-rest-preserved
loop-rest-preserved c = grind (arith, common_steps, unhex_more, led_more)

pub returns-then-is_empty : goal.returns-then-is_empty
returns-then-is_empty c = grind (arith, common_steps, unhex_none)

pub returns-else-is_empty : goal.returns-else-is_empty
returns-else-is_empty c = grind (arith, common_steps, unhex_odd)
