use Rattle.exchange.proofs.Laws.{letter_round_trip}
use Rattle.exchange.proofs.letter_round_trip.Goals as goal

pub returns : goal.returns
returns c = letter_round_trip
