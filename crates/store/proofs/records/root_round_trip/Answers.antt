use Rattle.store.proofs.RoundTrips.{root_round_trip}
use Rattle.store.proofs.records.root_round_trip.Goals as goal

pub returns : goal.returns
returns c = root_round_trip
