-- What eight of the machines that run promise.
use Rattle.machine.specs.Entry.{own}
use Rattle.promise.specs.Once.{ToldTwiceIfStruck}
use Rattle.promise.specs.Promise.{Whole, core, everything}
use Rattle.protocol_bridge.specs.Promises.{DoneInCalm, ReleasedKept, ToldAgain}
use Rattle.whole.specs.Promises.{AllReleased, EverWhole}
use Rattle.whole.specs.Seen.{own_views}
use Rattle.whole.proofs.Mirrored.{own_mirrors}
use Rattle.whole.proofs.Promises.{whole_by, whole_core_by, ever_whole_by, released_kept_by, all_released_by, told_again_by, told_twice_by, done_in_calm_by}

pub whole_everything : Whole everything own
whole_everything = whole_by own_mirrors

pub whole_core : Whole core own
whole_core = whole_core_by own_mirrors

pub ever_whole : EverWhole
ever_whole = ever_whole_by own_mirrors

pub released_kept : ReleasedKept own_views own
released_kept = released_kept_by own_mirrors

pub all_released : AllReleased
all_released = all_released_by own_mirrors

pub told_once : ToldAgain own
told_once = told_again_by own_mirrors

pub told_twice_if_struck : ToldTwiceIfStruck own
told_twice_if_struck = told_twice_by own_mirrors

pub done_in_calm : DoneInCalm own
done_in_calm = done_in_calm_by own_mirrors
