-- The kinds of acts that are counted, and the counts after what happens.
use Rattle.std.specs.Prelude.{ℕ, zero, suc, ◌+◌, min, List, [], ◌∷◌, codes, fold, slice_index, slice_set}
use Rattle.sums.specs.Sums.{pick, Gauges}
use Rattle.machine.specs.Run as run
use Rattle.machine.specs.Run.{machine_at, one_step, happened, more, from, let_go, sends, keep, recall, tells, rests, works, poke, brings, falls}
use Rattle.machine.specs.Entry.{own}
use Rattle.hut.specs.declared.effect.Effect.{Effect}
use Rattle.hut.specs.declared.effect.Effect.TheVariants as effect
use Rattle.world.specs.declared.tally.Kind.{Kind}
use Rattle.world.specs.declared.tally.Kind.TheVariants.{Asked, Sought, Released, Sent, Kept, Recalled, Told, Rested, Fault}

abbrev pub place_of : Kind → ℕ
place_of Asked = 0
place_of Sought = 1
place_of Released = 2
place_of Sent = 3
place_of Kept = 4
place_of Recalled = 5
place_of Told = 6
place_of Rested = 7
place_of Fault = 8

abbrev pub name_of : Kind → List ℕ
name_of Asked = codes "asked"
name_of Sought = codes "sought"
name_of Released = codes "released"
name_of Sent = codes "sent"
name_of Kept = codes "kept"
name_of Recalled = codes "recalled"
name_of Told = codes "told"
name_of Rested = codes "rested"
name_of Fault = codes "faults"

-- of an act that was done, or of a fault
abbrev pub kind_of : Effect → Kind
kind_of effect.Asked = Asked
kind_of (effect.Sought p) = Sought
kind_of (effect.Released p) = Released
kind_of (effect.Sent j t) = Sent
kind_of (effect.Kept d) = Kept
kind_of (effect.Recalled d) = Recalled
kind_of (effect.Told r) = Told
kind_of effect.Rested = Rested
kind_of effect.Fault = Fault

-- one more, within 64 bits
abbrev pub one_more : ℕ → ℕ
one_more n = min (suc n) 18446744073709551615

-- counts added up, within 64 bits
abbrev pub total_of : List ℕ → ℕ
total_of counts = fold (λ a c. min (a + c) 18446744073709551615) 0 counts

abbrev pub kind_of_act : run.Act → Kind
kind_of_act more = Asked
kind_of_act (from p) = Sought
kind_of_act (let_go p) = Released
kind_of_act (sends j bs) = Sent
kind_of_act (keep d bs) = Kept
kind_of_act (recall d) = Recalled
kind_of_act (tells h k s) = Told
kind_of_act rests = Rested

abbrev pub none_counted : List ℕ
none_counted = 0 ∷ 0 ∷ 0 ∷ 0 ∷ 0 ∷ 0 ∷ 0 ∷ 0 ∷ 0 ∷ []

-- one more of a kind
abbrev pub counted : List ℕ → Kind → List ℕ
counted cs k = slice_set cs (place_of k) (one_more (slice_index cs (place_of k)))

-- what machine i does next, in a world without a fault, is counted: its act, or the fault that it makes; nothing where it rests
abbrev pub next_counted : Gauges → run.World → ℕ → List run.Event → List ℕ → List ℕ
next_counted gs w i [] cs = cs
next_counted gs w i (ev ∷ evs) cs =
    counted cs (pick (one_step own gs w i (ev ∷ evs)).fault Fault (kind_of_act (own.step (machine_at w.machines i).memory ev).act))

-- so many acts at most
unfoldable pub acts_counted : ℕ → Gauges → run.World → ℕ → List ℕ → List ℕ
acts_counted zero gs w i cs = cs
acts_counted (suc n) gs w i cs =
    let evs : List run.Event = (machine_at w.machines i).pending in
    pick w.fault cs (acts_counted n gs (one_step own gs w i evs) i (next_counted gs w i evs cs))

-- what happens, one thing and all of it: only where a machine works are there acts
abbrev pub item_counted : Gauges → run.World → run.Item → List ℕ → List ℕ
item_counted gs w (works i n) cs = acts_counted n gs w i cs
item_counted gs w (poke i) cs = cs
item_counted gs w (brings i j) cs = cs
item_counted gs w (falls i) cs = cs

unfoldable pub all_counted : Gauges → run.World → List run.Item → List ℕ → List ℕ
all_counted gs w [] cs = cs
all_counted gs w (it ∷ its) cs = all_counted gs (happened own gs w it) its (item_counted gs w it cs)
