-- What eight of the machines that run promise, if they mirror the machine of records.
use Rattle.std.proofs.Common.{◌≡◌, ℕ, true, List, length, refl, arith}
use Rattle.sums.specs.Sums.{Gauges, gauges_fine}
use Rattle.machine.proofs.Steadies.{steady}
use Rattle.machine.specs.Entry.{own}
use Rattle.machine.specs.Run.{Item, all_happened, calm, new_world}
use Rattle.promise.specs.Once.{ToldTwiceIfStruck}
use Rattle.promise.specs.Promise.{Whole, core, everything}
use Rattle.protocol.specs.Limits.{crew}
use Rattle.protocol.specs.Searches.{sum_below}
use Rattle.protocol_world.specs.Enough.{enough_acts, enough_rounds}
use Rattle.protocol_world.proofs.Together.{one_of_sum}
use Rattle.protocol_bridge.specs.Promises.{DoneInCalm, IsDone, MirrorsEverSafe, MirrorsToldAgain, MirrorsDoneInCalm, MirrorsReleasedKept, ReleasedKept, ToldAgain}
use Rattle.protocol_bridge.specs.Views.{Mirrors, MirrorsToldTwiceIfStruck, MirrorsWhole}
use Rattle.protocol_bridge.proofs.Mirrored.{mirrors_told_twice_if_struck, mirrors_whole}
use Rattle.protocol_bridge.proofs.Promised.{mirrors_done_in_calm, mirrors_ever_safe, mirrors_released_kept, mirrors_told_again}
use Rattle.whole.specs.Promises.{AllReleased, EverWhole}
use Rattle.whole.specs.Seen.{own_views}

module _ (m : Mirrors own_views own) where
  pub whole_by : Whole everything own
  unfolding MirrorsWhole
  whole_by = mirrors_whole own_views own m steady

  -- the small core is a case of it
  pub whole_core_by : Whole core own
  unfolding Whole
  whole_core_by = (whole_by.0, λ gs is fine known few. whole_by.1 gs is fine refl few)

  pub told_twice_by : ToldTwiceIfStruck own
  unfolding MirrorsToldTwiceIfStruck
  told_twice_by = mirrors_told_twice_if_struck own_views own m

  pub told_again_by : ToldAgain own
  unfolding MirrorsToldAgain
  told_again_by = mirrors_told_again own_views own m

  pub released_kept_by : ReleasedKept own_views own
  unfolding MirrorsReleasedKept
  released_kept_by = mirrors_released_kept own_views own m

  pub done_in_calm_by : DoneInCalm own
  unfolding MirrorsDoneInCalm
  done_in_calm_by = mirrors_done_in_calm own_views own m

  -- so much calm is enough
  abbrev rounds : (gs : Gauges) → List Item → ℕ
  rounds gs is = enough_rounds gs (length (all_happened own gs (new_world own) is).wires)

  abbrev acts : Gauges → ℕ
  acts gs = sum_below (enough_acts gs) crew

  done_by : (gs : Gauges) (is : List Item) → gauges_fine gs ≡ true → IsDone gs (calm (rounds gs is) (acts gs) own gs (all_happened own gs (new_world own) is))
  done_by gs is fine = done_in_calm_by gs is (rounds gs is) (acts gs) fine (omega arith, one_of_sum (enough_acts gs) crew)

  pub ever_whole_by : EverWhole
  unfolding EverWhole MirrorsEverSafe
  ever_whole_by gs is fine = let safe = mirrors_ever_safe own_views own m gs is fine in (safe.0, safe.1, (rounds gs is, acts gs, (done_by gs is fine).0))

  pub all_released_by : AllReleased
  unfolding AllReleased
  all_released_by gs is fine = (rounds gs is, acts gs, (done_by gs is fine).1)
