-- The reader goes on to its next hour once all adders have passed the one that is whole. Assumes nothing: these are definitions.
use Rattle.std.specs.Prelude.{Bool, false, nat_lt}
use Rattle.protocol.specs.Limits.{crew}
use Rattle.protocol.specs.Memory.{Memory, passed_of, with_reader}
use Rattle.protocol.specs.Phases.{ready, from, Reaction, does}
use Rattle.protocol.specs.Reader.{Stage, begun, whole, ended, first_open}
use Rattle.protocol.specs.Searches.{all_below}

abbrev pub may_go_on : Memory → Stage → Bool
may_go_on b (begun c) = false
may_go_on b (whole c nx) = all_below (λ i. nat_lt c (passed_of b i)) crew
may_go_on b ended = false

-- nothing is kept: after a strike the hour is read again, and said again
abbrev pub goes_on : Memory → Reaction
goes_on b = does ready
    (with_reader b
    (record {
      stage = begun (first_open b.reader.stage);
      pos = b.reader.pos;
      tables = b.reader.tables;
      set = b.reader.set;
      paused = false;
      kept = b.reader.kept;
      base = first_open b.reader.stage;
    }))
    (from b.reader.pos)
