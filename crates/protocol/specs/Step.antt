-- One step of a machine: from a phase, a memory and an event to a phase, a memory and an act. Assumes nothing: these are definitions.
use Rattle.std.specs.Prelude.{suc, Some, ◌+◌, nat_le, nat_lt}
use Rattle.sums.specs.Sums.{pick}
use Rattle.protocol.specs.Boot.{booted_memory, rooted, paged, asks_next}
use Rattle.protocol.specs.Checkpoints.{saves, saves_next, pausing}
use Rattle.protocol.specs.Choose.{chooses}
use Rattle.protocol.specs.Limits.{half_roll}
use Rattle.protocol.specs.Mail.{with_letter}
use Rattle.protocol.specs.Memory.{Memory, with_cursor, new_memory}
use Rattle.protocol.specs.Phases.{Phase, asks_root, asks_page, asks_cursor, placing, placed, ready, noting, saving, Event, wakes, comes, later, at_end, letter, root_is, page_is, cursor_is, go, from, let_go, keep_cursor, recall_root, rests, Reaction, does}
use Rattle.protocol.specs.Reading.{reads, ends}

-- an event is taken in
abbrev pub takes_in : Memory → Event → Memory
takes_in b (wakes i) = b
takes_in b (comes r) = reads b b.reader.stage r
takes_in b later = b
takes_in b at_end = ends b b.reader.stage
takes_in b (letter j l) = with_letter b j l
takes_in b (root_is p) = b
takes_in b (page_is p) = b
takes_in b (cursor_is c) = b
takes_in b go = b

-- boot; the acts that belong together, one by one; and where nothing is half done, an event is taken in, and then it chooses
abbrev pub reacts : Phase → Memory → Event → Reaction
reacts p b (wakes i) = does asks_root (new_memory i) recall_root
reacts asks_root b (root_is r) = rooted b r r.set
reacts (asks_page q) b (page_is (Some p)) = asks_next (paged b q p) q
reacts asks_cursor b (cursor_is c) = does placed (booted_memory b c) (from b.reader.pos)
reacts placing b go = does placed b (from b.reader.pos)
reacts placed b go = does ready b (let_go b.reader.pos)
reacts (noting m s) b go = does ready (with_cursor b (record { hour = m; slot = suc s })) (keep_cursor (record { hour = m; slot = suc s }))
reacts (saving q) b go = saves_next b q
reacts ready b later = pick (nat_le (b.reader.kept + half_roll) b.reader.pos) (saves b) (chooses (pausing b))
reacts ready b at_end = pick (nat_lt b.reader.kept b.reader.pos) (saves b) (chooses (ends b b.reader.stage))
reacts ready b ev = chooses (takes_in b ev)
reacts p b ev = does p b rests
