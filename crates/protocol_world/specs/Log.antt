-- The log of a run of machines of records: what they did, and when they were struck. Assumes nothing: these are definitions.
use Rattle.std.specs.Prelude.{ℕ, zero, suc, List, [], ◌∷◌, Some, None, Option, nat_lt}
use Rattle.sums.specs.Sums.{pick, Gauges}
use Rattle.store.specs.Drawers.{root_drawer, cursor_drawer}
use Rattle.machine.specs.Log.{Mark, did, struck}
use Rattle.machine.specs.Run as given
use Rattle.protocol.specs.Limits.{crew}
use Rattle.protocol.specs.Phases.{Phase, Event, Act, more, from, let_go, sends, keep_root, keep_page, keep_cursor, recall_root, recall_page, recall_cursor, tells, rests}
use Rattle.protocol.specs.Step.{reacts}
use Rattle.protocol_world.specs.Drawers.{page_drawer}
use Rattle.protocol_world.specs.Runs.{happened}
use Rattle.protocol_world.specs.Worlds.{World, one_step}

-- an act as the log has it, without bytes
abbrev pub shown : Act → given.Act
shown more = given.more
shown (from p) = given.from p
shown (let_go p) = given.let_go p
shown (sends j l) = given.sends j []
shown (keep_root r) = given.keep root_drawer []
shown (keep_page s q p) = given.keep (page_drawer s q) []
shown (keep_cursor c) = given.keep cursor_drawer []
shown recall_root = given.recall root_drawer
shown (recall_page s q) = given.recall (page_drawer s q)
shown recall_cursor = given.recall cursor_drawer
shown (tells h k s) = given.tells h k s.sum
shown rests = given.rests

-- the log goes along with the world: after a step, so many steps, a thing that happens, and all of a list
abbrev pub log_next : World → ℕ → Phase → Option Event → List Mark → List Mark
log_next w i p None log = log
log_next w i p (Some ev) log = did i (shown (reacts p (w.node i).memory ev).act) ∷ log

abbrev pub step_log : World → ℕ → List Mark → List Mark
step_log w i log = log_next w i (w.node i).phase (w.node i).pending log

unfoldable pub goes_log : ℕ → Gauges → World → ℕ → List Mark → List Mark
goes_log zero gs w i log = log
goes_log (suc n) gs w i log = pick w.fault log (goes_log n gs (one_step gs w i) i (step_log w i log))

unfoldable pub happened_log : Gauges → World → given.Item → List Mark → List Mark
happened_log gs w (given.works i n) log = pick (nat_lt i crew) (goes_log n gs w i log) log
happened_log gs w (given.poke i) log = log
happened_log gs w (given.brings i j) log = log
happened_log gs w (given.falls i) log = struck i ∷ log

unfoldable pub all_log : Gauges → World → List given.Item → List Mark → List Mark
all_log gs w [] log = log
all_log gs w (x ∷ xs) log = all_log gs (happened gs w x) xs (happened_log gs w x log)
