-- Mail: what is due to whom, letters that come, and letters that are sent. Assumes nothing: these are definitions.
use Rattle.std.specs.Prelude.{ℕ, Bool, false, not, ◌&&◌, Some, None, Option, ◌==◌}
use Rattle.sums.specs.Sums.{pick, or}
use Rattle.protocol.specs.Bounds.{has_hour}
use Rattle.protocol.specs.Limits.{crew}
use Rattle.protocol.specs.Memory.{Mail, Memory, with_reader, with_mail}
use Rattle.protocol.specs.Phases.{ready, sends, rests, Reaction, does}
use Rattle.protocol.specs.Reader.{Stage, is_fresh, at_stage, with_pause}
use Rattle.protocol.specs.Searches.{find, put}
use Rattle.protocol.specs.Statements.{statement, Letter}

-- WHAT IS DUE. To all others, where the reader has something new to say
abbrev pub due_to_all : Memory → Mail
due_to_all b = record { word = b.mail.word; passed = b.mail.passed; due = λ j. not (j == b.me); woke = b.mail.woke }

abbrev pub with_news : Memory → Stage → Memory
with_news b s = record { me = b.me; reader = at_stage b.reader s; cursor = b.cursor; mail = due_to_all b }

-- once the adder has passed hour m, to those whose reader has it whole: they alone wait to hear of it
abbrev pub waits_for : Memory → (m j : ℕ) → Bool
waits_for b m j = not (j == b.me) && has_hour m (b.mail.word j)

abbrev pub due_to_waiting : Memory → (m : ℕ) → Mail
due_to_waiting b m = record { word = b.mail.word; passed = b.mail.passed; due = λ j. or (b.mail.due j) (waits_for b m j); woke = b.mail.woke }

-- A LETTER COMES from machine j: what it says replaces what it said before; one that woke is to be told again
abbrev pub with_letter : Memory → (j : ℕ) → Letter → Memory
with_letter b j l =
    with_mail b
    (record { word = put b.mail.word j l.says; passed = put b.mail.passed j l.passed; due = put b.mail.due j (or l.woke (b.mail.due j)); woke = b.mail.woke })

-- LETTERS ARE SENT, to the first machine to which something is due. A fresh reader knows nothing of its row: it sends nothing, and what is due stays due
abbrev pub next_due : Memory → Option ℕ
next_due b = pick (is_fresh b.reader) None (find b.mail.due crew)

abbrev pub letter_to : Memory → (j : ℕ) → Letter
letter_to b j = record { woke = b.mail.woke j; passed = b.cursor.hour; says = statement b.reader j }

abbrev pub with_sent : Memory → (j : ℕ) → Memory
with_sent b j = with_mail b (record { word = b.mail.word; passed = b.mail.passed; due = put b.mail.due j false; woke = put b.mail.woke j false })

-- where nothing is to be sent, it rests; and reads on when it is next told to go on
abbrev pub unpaused : Memory → Memory
unpaused b = with_reader b (with_pause b.reader false)

abbrev pub sends_next : Memory → Option ℕ → Reaction
sends_next b None = does ready (unpaused b) rests
sends_next b (Some j) = does ready (with_sent b j) (sends j (letter_to b j))
