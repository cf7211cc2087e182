-- What is to be said of a world that was played. Assumes nothing: these are definitions.
use Rattle.std.specs.Prelude.{◌≡◌, ℕ, true, List, ◌++◌, codes}
use Rattle.sums.specs.Sums.{pick, every, Gauges, ToldSum, is_right, all_told}
use Rattle.machine.specs.Run as run
use Rattle.rows.specs.Walls.{is_new, in_order}
use Rattle.play.specs.declared.verdict.Verdict.{Verdict}
use Rattle.play.specs.declared.verdict.Verdict.TheVariants.{Fault, Wrong, Untold, Right}

-- a fault first, then a row that is not right, then something that is not told
abbrev pub verdict_of : Gauges → run.World → Verdict
verdict_of gs w = pick w.fault Fault (pick (every (is_right gs) w.told) (pick (all_told gs w.told) Right Untold) Wrong)

-- these rows, in order, are what is to be told and is not among those told
pub record AreUntold (gs : Gauges) (told rows : List ToldSum) : Type 0 where
  pub right : every (is_right gs) rows ≡ true
  pub fresh : every (is_new told) rows ≡ true
  pub whole : all_told gs (told ++ rows) ≡ true
  pub ordered : in_order rows ≡ true

-- in words
abbrev pub said_of : Verdict → List ℕ
said_of Fault = codes "a machine is at fault"
said_of Wrong = codes "what is told is wrong"
said_of Untold = codes "what is told is right, and not all is told"
said_of Right = codes "what is told is right, and all is told"
