use Rattle.store.proofs.RoundTrips.{cursor_round_trip}
use Rattle.store.proofs.records.cursor_round_trip.Goals as goal

pub returns : goal.returns
returns c = cursor_round_trip
