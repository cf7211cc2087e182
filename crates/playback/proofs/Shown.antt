-- What is printed of a river, put together.
use Rattle.std.proofs.Common.{◌≡◌, ℕ, true, List, Option, length, subst}
use Rattle.std.proofs.KnownBytes.{Appends-trans}
use Rattle.std.specs.Io.KnownBytes.{Appends}
use Rattle.sums.specs.Sums.{Gauges, ToldSum, gauges_fine}
use Rattle.machine.specs.Run as run
use Rattle.promise.specs.Promise.{Safe}
use Rattle.whole.proofs.Promised.{ever_whole}
use Rattle.whole.specs.Promises.{EverWhole}
use Rattle.river.specs.declared.model.Item.{Item}
use Rattle.rows.specs.Walls.{wrong_rows}
use Rattle.text.specs.Text.{Bytes}
use Rattle.text.specs.Written.{lined}
use Rattle.play.specs.Plays.{unrolled, played}
use Rattle.play.specs.Trials.{readings_after}
use Rattle.play.specs.Verdicts.{AreUntold, verdict_of}
use Rattle.play.specs.declared.verdict.Verdict.{Verdict}
use Rattle.report.specs.Printed.{wall_text, untold_text}
use Rattle.playback.specs.Printed.{verdict_line, ShowsPlay}

module _ (gs : Gauges) (w : run.World) (rest : List ToldSum) (told wrong left : ℕ) (v : Verdict) where
  pub play_shown : AreUntold gs w.told rest → told ≡ length w.told → wrong ≡ wrong_rows gs w.told → left ≡ length rest → v ≡ verdict_of gs w → (a b c d : Option Bytes) →
      Appends a b (wall_text w.told) → Appends b c (untold_text rest) → Appends c d (lined (verdict_line (readings_after 0 gs) told wrong left v)) → ShowsPlay gs w a d
  play_shown are t₁ w₁ l₁ v₁ a b c d p q r =
      let line : lined (verdict_line (readings_after 0 gs) told wrong left v)
      ≡ lined (verdict_line (readings_after 0 gs) (length w.told) (wrong_rows gs w.told) (length rest) (verdict_of gs w)) = cc in
      (rest, are, Appends-trans a b d _ _ p (Appends-trans b c d _ _ q (subst (Appends c d) line r)))

-- the promise, of what is played
pub played_safe : (gs : Gauges) (its : List Item) → gauges_fine gs ≡ true → Safe gs (played gs its)
unfolding EverWhole
played_safe gs its fine = (ever_whole gs (unrolled its) fine).0
