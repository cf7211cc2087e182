-- What came of rivers, and how it is added up. Assumes nothing: these are definitions.
use Rattle.std.specs.Prelude.{◌≡◌, ◌↔◌, ℕ, ◌+◌, min, Bool, true, ◌&&◌, List, [], ◌∷◌, length, ◌==◌, nat_lt}
use Rattle.sums.specs.Again.{told_again}
use Rattle.sums.specs.Sums.{pick, Gauges, ToldSum, all_told}
use Rattle.machine.specs.Run as run
use Rattle.rows.specs.Walls.{wrong_rows}
use Rattle.play.specs.Scores.{all_strokes}
use Rattle.play.specs.Verdicts.{AreUntold}
use Rattle.play.specs.declared.trials.Score.{Score}

-- within 64 bits
abbrev pub plus : ℕ → ℕ → ℕ
plus a b = min (a + b) 18446744073709551615

abbrev pub both : Score → Score → Score
both s t = record {
  worlds = plus s.worlds t.worlds;
  readings = plus s.readings t.readings;
  told = plus s.told t.told;
  again = plus s.again t.again;
  too_often = plus s.too_often t.too_often;
  wrong = plus s.wrong t.wrong;
  untold = plus s.untold t.untold;
  faults = plus s.faults t.faults;
}

abbrev pub all_right : Score → Bool
all_right s = s.too_often == 0 && (s.wrong == 0 && (s.untold == 0 && s.faults == 0))

-- the readings of gauges, after so many others
unfoldable pub readings_after : ℕ → Gauges → ℕ
readings_after n [] = n
readings_after n (rs ∷ gs) = readings_after (plus n (length rs)) gs

-- the score of one world, after these things that happen; rows are told too often where more are told again than there are strokes
pub record Scores (gs : Gauges) (is : List run.Item) (w : run.World) (s : Score) : Type 0 where
  pub worlds : s.worlds ≡ 1
  pub readings : s.readings ≡ readings_after 0 gs
  pub told : s.told ≡ length w.told
  pub again : s.again ≡ told_again w.told
  pub too_often : s.too_often ≡ pick (nat_lt (all_strokes is) (told_again w.told)) 1 0
  pub wrong : s.wrong ≡ wrong_rows gs w.told
  pub untold : (rows : List ToldSum) × AreUntold gs w.told rows × (s.untold ≡ length rows)
  pub none_untold : (s.untold ≡ 0) ↔ (all_told gs w.told ≡ true)
  pub faults : s.faults ≡ pick w.fault 1 0
