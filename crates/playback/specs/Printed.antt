-- What is printed of a river that is played. Assumes nothing: these are definitions.
use Rattle.std.specs.Prelude.{◌≡◌, ℕ, Bool, true, false, List, ◌++◌, Option, length, codes, decimal}
use Rattle.std.specs.Io.KnownBytes.{Appends}
use Rattle.sums.specs.Sums.{Gauges, ToldSum}
use Rattle.machine.specs.Run as run
use Rattle.promise.specs.Promise.{Safe}
use Rattle.river.specs.Rivers.{ToldRiver}
use Rattle.rows.specs.Walls.{wrong_rows}
use Rattle.text.specs.Text.{Bytes}
use Rattle.text.specs.Written.{lined}
use Rattle.play.specs.Plays.{played}
use Rattle.play.specs.Trials.{readings_after}
use Rattle.play.specs.Verdicts.{AreUntold, verdict_of, said_of}
use Rattle.play.specs.declared.verdict.Verdict.{Verdict}
use Rattle.play.specs.declared.verdict.Verdict.TheVariants.{Fault, Wrong, Untold, Right}
use Rattle.report.specs.Printed.{wall_text, untold_text, TellsOf}

-- counts and a verdict
abbrev pub verdict_line : (readings told wrong untold : ℕ) → Verdict → Bytes
verdict_line readings told wrong untold v =
    decimal readings ++ (codes " readings, " ++ (decimal told ++ (codes " rows told, " ++ (decimal wrong ++ (codes " wrong, " ++ (decimal untold ++ (codes " untold: " ++ said_of v)))))))

-- no machine is at fault, and no row is wrong
abbrev pub is_well : Verdict → Bool
is_well Fault = false
is_well Wrong = false
is_well Untold = true
is_well Right = true

-- of a world that was played: the rows in the order in which they were told, those that were to be told and were not, and the verdict
abbrev pub play_text : Gauges → run.World → List ToldSum → Bytes
play_text gs w untold =
    wall_text w.told ++ (untold_text untold ++ lined (verdict_line (readings_after 0 gs) (length w.told) (wrong_rows gs w.told) (length untold) (verdict_of gs w)))

abbrev pub ShowsPlay : Gauges → run.World → Option Bytes → Option Bytes → Type 0
ShowsPlay gs w old new = (untold : List ToldSum) × AreUntold gs w.told untold × Appends old new (play_text gs w untold)

-- the river was played: no machine is at fault in its world, and every row on the wall is right
abbrev pub PlaysOne : (file : Bytes) → (input old new : Option Bytes) → Type 0
PlaysOne file input old new =
    (r : ToldRiver) × TellsOf file input r × Safe r.gauges (played r.gauges r.course) × ShowsPlay r.gauges (played r.gauges r.course) old new
