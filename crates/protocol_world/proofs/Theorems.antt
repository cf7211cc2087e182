-- What eight machines of records promise together: each theorem, from what is known of every world.
use Rattle.std.proofs.Common.{refl, arith}
use Rattle.sums.specs.Sums.{Gauges}
use Rattle.protocol_world.specs.Runs.{all_happened, calm}
use Rattle.protocol_world.specs.Theorems.{NothingWrong, ToldTwiceIfStruck, ToldAgain, AllToldInCalm, AllReleased, SettlesInCalm, TurnEnds, SettledIsDone, ReleasedKept, IsReleased}
use Rattle.protocol_world.specs.Enough.{Settled}
use Rattle.protocol_world.specs.Worlds.{World, new_world}
use Rattle.protocol_world.proofs.Amounts.{ahead, counts, acts_most}
use Rattle.protocol_world.proofs.Calm.{goes_rests}
use Rattle.protocol_world.proofs.OnceRuns.{few_told}
use Rattle.protocol_world.proofs.Released as released
use Rattle.protocol_world.proofs.Safety.{Known, eight, rows_fine, happened_well, calm_well}
use Rattle.protocol_world.proofs.Settled.{settled_tells}
use Rattle.protocol_world.proofs.Stays.{calm_stays}
use Rattle.protocol_world.proofs.Together.{In, keys, happened_in, calm_in, settled_by}
use Rattle.protocol_world.proofs.ToldAgain.{told_once}

pub nothing_wrong : NothingWrong
unfolding NothingWrong
nothing_wrong gs is fine =
    let known : Known gs = record { fine = fine } in
    let now = happened_well gs known is in
    ((now.fault, now.right), λ k n. let then = calm_well gs known is k n in (then.fault, then.right))

pub told_twice_if_struck : ToldTwiceIfStruck
unfolding ToldTwiceIfStruck
told_twice_if_struck gs is r n h k fine = few_told gs (record { fine = fine }) h k is r n

pub told_again : ToldAgain
unfolding ToldAgain
told_again gs is r n fine = told_once gs (record { fine = fine }) is r n

module _ (gs : Gauges) (known : Known gs) (w : World) (h : In gs known w) (s : Settled w) where
  released_all : IsReleased gs w
  released_all i lt = released.all_released gs (eight gs known) (rows_fine gs known) (keys gs known) w h i lt s

pub all_told_in_calm : AllToldInCalm
unfolding AllToldInCalm
all_told_in_calm gs is k n fine enough =
    let known : Known gs = record { fine = fine } in
    settled_tells gs (eight gs known) (rows_fine gs known) _ (calm_in gs known is k n) (settled_by gs known is k n enough) (keys gs known)

pub all_released : AllReleased
unfolding AllReleased
all_released gs is k n fine enough =
    let known : Known gs = record { fine = fine } in released_all gs known _ (calm_in gs known is k n) (settled_by gs known is k n enough)

pub settles_in_calm : SettlesInCalm
unfolding SettlesInCalm
settles_in_calm gs is k n fine enough = settled_by gs (record { fine = fine }) is k n enough

pub turn_ends : TurnEnds
unfolding TurnEnds
turn_ends gs is i n fine lt acts =
    let known : Known gs = record { fine = fine } in
    let w : World = all_happened gs new_world is in
    (goes_rests gs (eight gs known) (rows_fine gs known) (ahead gs) (counts gs) n w i lt (happened_in gs known is)
    (omega (arith, acts, acts_most gs i (w.node i)))).here

pub settled_is_done : SettledIsDone
unfolding SettledIsDone
settled_is_done gs is fine s =
    let known : Known gs = record { fine = fine } in
    let w : World = all_happened gs new_world is in
    let h : In gs known w = happened_in gs known is in (
      settled_tells gs (eight gs known) (rows_fine gs known) w h s (keys gs known),
      released_all gs known w h s,
      λ k n.
          let stays = calm_stays gs (eight gs known) (rows_fine gs known) n w k w (record { known = h; settled = s; told = refl }) in
          (stays.settled, stays.told),
    )

pub released_kept : ReleasedKept
unfolding ReleasedKept
released_kept gs is k n i fine lt =
    let known : Known gs = record { fine = fine } in
    released.released_kept gs (eight gs known) (rows_fine gs known) (keys gs known) (calm k n gs (all_happened gs new_world is)) (calm_in gs known is k n) i lt
