-- A reading is taken in; the row ends. Assumes nothing: these are definitions.
use Rattle.std.specs.Prelude.{ℕ, suc, ◌+◌, ◌-◌, Some, None, Option, nat_le}
use Rattle.sums.specs.Sums.{pick, Reading, hour_of}
use Rattle.protocol.specs.Limits.{late}
use Rattle.protocol.specs.Mail.{with_news}
use Rattle.protocol.specs.Memory.{Memory, with_reader}
use Rattle.protocol.specs.OpenHours.{oldest, raised, sooner}
use Rattle.protocol.specs.Reader.{Stage, begun, whole, ended, read_on}

-- A READING COMES; f is the first hour that is not done, and c the oldest open hour of which something has been taken in, if there is one. If no more of c can
-- come after the reading, c is whole, and the reading is not taken in yet: c's next hour is an open one, or as soon as the reading allows
abbrev pub reads_by : Memory → (f : ℕ) → Option ℕ → Reading → Memory
reads_by b f None r = with_reader b (read_on b.reader (raised f (hour_of r)) r)
reads_by b f (Some c) r = pick (nat_le (hour_of r) (c + late)) (with_reader b (read_on b.reader (raised f (hour_of r)) r))
    (with_news b (whole c (Some (sooner (oldest b.reader.tables (suc c)) (hour_of r - late)))))

abbrev pub reads : Memory → Stage → Reading → Memory
reads b (begun f) r = reads_by b f (oldest b.reader.tables f) r
reads b (whole c nx) r = b
reads b ended r = b

-- THE ROW ENDS: the oldest open hour is whole, and when there is none, all is
abbrev pub ends_by : Memory → Option ℕ → Memory
ends_by b None = with_news b ended
ends_by b (Some c) = with_news b (whole c (oldest b.reader.tables (suc c)))

abbrev pub ends : Memory → Stage → Memory
ends b (begun f) = ends_by b (oldest b.reader.tables f)
ends b (whole c nx) = b
ends b ended = b
