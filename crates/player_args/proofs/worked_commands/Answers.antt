-- Each is computed from the definitions.
use Rattle.std.proofs.Common.{refl}
use Rattle.player_args.specs.Worked.{WorkedCommands}
use Rattle.text.specs.Text.{all_digits, value, decimal}
use Rattle.player_args.proofs.worked_commands.Goals as goal

pub returns : goal.returns
unfolding WorkedCommands all_digits value decimal
returns c = (refl, refl, refl, refl, refl, refl, refl, refl, refl, refl, refl, refl, refl, refl)
