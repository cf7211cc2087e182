-- How many machines there are, and the other limits of the protocol: each is named here, and nowhere else. Assumes nothing: these are definitions.
use Rattle.std.specs.Prelude.{ℕ, suc, ◌*◌}
use Rattle.sums.specs.Cells.{pages}

-- how many machines: each reads its own gauge, and adds the places of one page of an hour's tables
abbrev pub crew : ℕ
crew = pages

-- by how many hours a reading may be late: so much may its time be behind the greatest before it. 0: times never fall. (14 at most, for the drawers.)
abbrev pub late : ℕ
late = 0

-- so late + 1 hours are open at once, each with a page for each adder; a checkpoint keeps them all
abbrev pub kept_pages : ℕ
kept_pages = crew * suc late

-- half a roll: a checkpoint waits till so much has been read since the root record. Any number up to a whole roll (4,096) would do.
abbrev pub half_roll : ℕ
half_roll = 2048
