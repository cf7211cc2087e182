use Rattle.playback.proofs.Ends.{verdict_ends}
use Rattle.playback.proofs.playing.summary.Goals as goal

pub returns-in-Untold-clause-printed : goal.returns-in-Untold-clause-printed
returns-in-Untold-clause-printed g c =
    rw (← c.count_readings-readings.ensures, ← c.len-told.ensures, ← c.len-untold.ensures, verdict_ends) c.in_ok-writeln.ensures.bytes
