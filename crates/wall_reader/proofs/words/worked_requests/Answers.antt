use Rattle.std.proofs.Common.{refl}
use Rattle.text.specs.Text.{before, from, all_digits, value, decimal}
use Rattle.wall_reader.specs.Requests.{asked_from}
use Rattle.wall_reader.proofs.words.worked_requests.Goals as goal

pub returns : goal.returns
unfolding before from all_digits value decimal asked_from
returns c = record { nothing = refl; hour = refl; hours = refl; no_value = refl; no_hours = refl; twice = refl; two_forms = refl }
