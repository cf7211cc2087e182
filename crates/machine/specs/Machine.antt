-- The machine: what it does at each event, by its phase. Assumes nothing: these are definitions.
use Rattle.std.specs.Prelude.{ℕ, ◌+◌, Bool, true, false, cond, List, length, Some, None, Option, ◌==◌, nat_le, nat_lt, slice_set}
use Rattle.sums.specs.Sums.{or}
use Rattle.protocol.specs.Limits.{crew, half_roll}
use Rattle.gauge.specs.Memory.{at, cells, placing, placed, ready, noting, saving, begun, phase_at, me_at, stage_at, pos_at, paused_at, kept_at}
use Rattle.gauge.specs.Deeds as deed
use Rattle.gauge.specs.Deeds.{Deed, Done, does}
use Rattle.gauge.specs.Gauge.{read, row_ended, page_saved, save_next, row_placed, row_released}
use Rattle.exchange.specs.Adder.{cursor_noted}
use Rattle.exchange.specs.Mail.{with_letter}
use Rattle.machine.specs.Boot.{woken, recalled}
use Rattle.machine.specs.Choose.{chooses}
use Rattle.machine.specs.Run.{Event, wakes, comes, later, ends, letter, slot, next, Act, more, from, let_go, sends, keep, recall, tells, rests, Step}

-- what has been taken in, if anything could be; then what comes next is chosen
abbrev pub absorbed : List ℕ → Option (List ℕ) → Done
absorbed m (Some n) = chooses n
absorbed m None = does m deed.rests

-- no reading comes for now: a checkpoint where there is half a roll to keep; else it pauses
abbrev pub paused : List ℕ → Done
paused m = cond (nat_le (at m kept_at + half_roll) (at m pos_at)) (page_saved m 0) (chooses (slice_set m paused_at 1))

-- the row's end: a checkpoint where there is anything to keep
abbrev pub finished : List ℕ → Done
finished m = cond (nat_lt (at m kept_at) (at m pos_at)) (page_saved m 0) (chooses (row_ended m))

-- told to go on, by the phase
abbrev pub went_on : List ℕ → Done
went_on m =
    cond (at m phase_at == placing) (row_placed m)
    (cond (at m phase_at == placed) (row_released m)
    (cond (at m phase_at == noting) (cursor_noted m)
    (cond (at m phase_at == saving) (save_next m)
    (cond (at m phase_at == ready) (chooses m) (does m deed.rests)))))

-- told of an event, by one that has booted; at an event that cannot come in its phase it rests, and nothing is changed
abbrev pub while_ready : List ℕ → Done → Done
while_ready m d = cond (at m phase_at == ready) d (does m deed.rests)

abbrev pub hears : List ℕ → Event → Done
hears m (wakes i) = woken m i
hears m (comes t k v) = while_ready m (absorbed m (read m t k v))
hears m later = while_ready m (paused m)
hears m ends = while_ready m (finished m)
hears m (letter j bs) = while_ready m (absorbed m (with_letter m j bs))
hears m (slot bs) = recalled m bs
hears m next = went_on m

abbrev pub wakes_up : Event → Bool
wakes_up (wakes i) = true
wakes_up (comes t k v) = false
wakes_up later = false
wakes_up ends = false
wakes_up (letter j bs) = false
wakes_up (slot bs) = false
wakes_up next = false

-- it wakes, or is one of the crew
abbrev pub reacts : List ℕ → Event → Done
reacts m ev = cond (or (wakes_up ev) (nat_lt (at m me_at) crew)) (hears m ev) (does m deed.rests)

abbrev pub as_act : Deed → Act
as_act deed.more = more
as_act (deed.from p) = from p
as_act (deed.let_go p) = let_go p
as_act (deed.sends j bs) = sends j bs
as_act (deed.keep d bs) = keep d bs
as_act (deed.recall d) = recall d
as_act (deed.tells h k s) = tells h k s
as_act deed.rests = rests

abbrev pub as_step : Done → Step
as_step d = record { memory = d.memory; act = as_act d.deed }

-- one step, for memories of the machine's own length, of a machine that is one of the crew or wakes as one; at any other it rests
unfoldable pub machine_step : List ℕ → Event → Step
machine_step m ev = cond (length m == cells) (as_step (reacts m ev)) (record { memory = m; act = rests })
