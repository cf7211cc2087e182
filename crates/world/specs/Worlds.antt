-- The world that is played, as one of the definitions.
use Rattle.std.specs.Prelude.{◌≡◌, ℕ, Bool, true, false, List, [], ◌∷◌, ◌++◌, ◌<◌, Ok, OnOk, vec_items, vec_len, vec_capacity, Result, Vec}
use Rattle.sums.specs.Sums.{each, Gauges}
use Rattle.machine.specs.Run as run
use Rattle.machine.specs.Entry.{own}
use Rattle.machine.specs.Run.{machine_at, one_step, happened, all_happened, works, poke, brings, falls, calm}
use Rattle.machine.specs.declared.Act.{Act}
use Rattle.machine.specs.declared.Act.TheVariants.{Sends, Tells}
use Rattle.rows.specs.Walls.{as_wall}
use Rattle.rows.specs.declared.Row.{Row}
use Rattle.river.specs.declared.model.Item.{Item}
use Rattle.river.specs.declared.model.Item.TheVariants.{Works, Poke, Brings, Falls, Calm}
use Rattle.world.specs.declared.world.World.{World}
use Rattle.hut.specs.declared.effect.Effect.{Effect}
use Rattle.hut.specs.declared.effect.Effect.TheVariants.{Sent, Told}
use Rattle.hut.specs.Played.{as_machine}
use Rattle.world.specs.declared.post.Letter.{Letter}
use Rattle.world.specs.Posts.{as_letter}
use Rattle.world.specs.Tallies.{all_counted}

abbrev pub as_world : World → run.World
as_world w = record {
  machines = each as_machine (vec_items w.huts);
  wires = each as_letter (vec_items w.wires);
  told = as_wall (vec_items w.told);
  fault = w.fault;
}

-- room for what is seen of an act: a row on the wall, a letter on the wires
abbrev pub HasRoom : {Z : Type 0} → Effect → Vec Row Z → Vec Letter Z → Type 0
HasRoom (Told r) told wires = vec_len told < vec_capacity told
HasRoom (Sent j t) told wires = vec_len wires < vec_capacity wires
HasRoom _ told wires = Unit {0}

-- room was made on the wall by an act that tells, on the wires by one that sends, and none was asked for by any other, so that there it can't have failed
abbrev pub MadeRoom : {Z E : Type 0} → Act → Result (Unit {0}) E → Vec Row Z → Vec Letter Z → Vec Row Z → Vec Letter Z → Type 0
MadeRoom (Tells h k s) r told wires told₁ wires₁ = OnOk r (vec_len told₁ < vec_capacity told₁) × (wires₁ ≡ wires)
MadeRoom (Sends j n) r told wires told₁ wires₁ = OnOk r (vec_len wires₁ < vec_capacity wires₁) × (told₁ ≡ told)
MadeRoom _ r told wires told₁ wires₁ = (r ≡ Ok tt) × (told₁ ≡ told) × (wires₁ ≡ wires)

-- one step of a machine, where it does not rest
abbrev pub Went : Gauges → run.World → ℕ → Bool → run.World → Type 0
Went gs w i true w₁ = w₁ ≡ one_step own gs w i (machine_at w.machines i).pending
Went gs w i false w₁ = (w₁ ≡ w) × ((machine_at w.machines i).pending ≡ [])

-- the world after one thing that happens
abbrev pub took_place : Gauges → run.World → Item → run.World
took_place gs w (Works i n) = happened own gs w (works i n)
took_place gs w (Poke i) = happened own gs w (poke i)
took_place gs w (Brings i j) = happened own gs w (brings i j)
took_place gs w (Falls i) = happened own gs w (falls i)
took_place gs w (Calm k n) = calm k n own gs w

-- from a world and its counts to another by these things that happen
pub record Passed (gs : Gauges) (w : run.World) (cs : List ℕ) (its : List run.Item) (w₁ : run.World) (cs₁ : List ℕ) : Type 0 where
  pub world : w₁ ≡ all_happened own gs w its
  pub counts : cs₁ ≡ all_counted gs w its cs

-- where there was no room: a beginning of these things happened, and its end is a machine's work, cut short between two acts
pub record CutShort (gs : Gauges) (w : run.World) (cs : List ℕ) (its : List run.Item) (w₁ : run.World) (cs₁ : List ℕ) : Type 0 where
  pub before : List run.Item
  pub after : List run.Item
  pub i : ℕ
  pub acts : ℕ
  pub fewer : ℕ
  pub parts : its ≡ before ++ works i acts ∷ after
  pub less : fewer < acts
  pub passed : Passed gs w cs (before ++ works i fewer ∷ []) w₁ cs₁
