-- All that a machine has in memory: its reader, its adder's cursor, and its mail. Assumes nothing: these are definitions.
use Rattle.std.specs.Prelude.{ℕ, Bool, false, ◌==◌}
use Rattle.sums.specs.Sums.{pick}
use Rattle.protocol.specs.Reader.{Reader, new_reader}
use Rattle.protocol.specs.Statements.{Statement, nothing, statement}

-- how far an adder is: it has told all of its places of hours below this one, and of this hour those of slots below this one
pub record Cursor : Type 0 where
  pub hour : ℕ
  pub slot : ℕ

abbrev pub no_cursor : Cursor
no_cursor = record { hour = 0; slot = 0 }

-- of each other machine
pub record Mail : Type 0 where
  pub word : ℕ → Statement  -- what its reader said last
  pub passed : ℕ → ℕ  -- the hours that its adder has passed, as it said last
  pub due : ℕ → Bool  -- there is something to say to it
  pub woke : ℕ → Bool  -- and with it, that this machine woke

abbrev pub no_mail : Mail
no_mail = record { word = λ _. nothing; passed = λ _. 0; due = λ _. false; woke = λ _. false }

pub record Memory : Type 0 where
  pub me : ℕ
  pub reader : Reader
  pub cursor : Cursor
  pub mail : Mail

abbrev pub new_memory : (me : ℕ) → Memory
new_memory i = record { me = i; reader = new_reader 0; cursor = no_cursor; mail = no_mail }

abbrev pub with_reader : Memory → Reader → Memory
with_reader b r = record { me = b.me; reader = r; cursor = b.cursor; mail = b.mail }

abbrev pub with_cursor : Memory → Cursor → Memory
with_cursor b c = record { me = b.me; reader = b.reader; cursor = c; mail = b.mail }

abbrev pub with_mail : Memory → Mail → Memory
with_mail b m = record { me = b.me; reader = b.reader; cursor = b.cursor; mail = m }

-- what it knows of reader i, and of adder i: by its mail; of its own, at first hand
abbrev pub heard_of : Memory → ℕ → Statement
heard_of b i = pick (i == b.me) (statement b.reader b.me) (b.mail.word i)

abbrev pub passed_of : Memory → ℕ → ℕ
passed_of b i = pick (i == b.me) b.cursor.hour (b.mail.passed i)
