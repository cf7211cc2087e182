use Rattle.std.proofs.Common.{length}
use Rattle.wall_reader.proofs.tail.+completes.Given as goal

abbrev pub decreases-completes : goal.decreases-completes
decreases-completes l = length l.end.now
