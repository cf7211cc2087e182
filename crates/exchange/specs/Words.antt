-- What is heard of a machine, by the code's statements: but for its page, which stands in the memory. Assumes nothing: these are definitions.
use Rattle.std.specs.Prelude.{ℕ, ◌+◌, ◌*◌, cond, List, Some, None, Option, ◌==◌, nat_le}
use Rattle.sums.specs.Cells.{slots}
use Rattle.protocol.specs.Bounds as protocol
use Rattle.protocol.specs.Statements as protocol_statement
use Rattle.protocol.specs.Tables.{Page}
use Rattle.gauge.specs.Memory.{at, me_at, sums_at, counts_at, word_sums_at, word_counts_at}
use Rattle.gauge.specs.Views.{page_in}
use Rattle.exchange.specs.declared.adder.Bound.{Bound}
use Rattle.exchange.specs.declared.adder.Bound.TheVariants.{Unknown, From, Never}
use Rattle.exchange.specs.declared.statement.Statement.{Statement}
use Rattle.exchange.specs.declared.statement.Statement.TheVariants.{Begun, Whole, Ended}

abbrev pub as_statement : Statement → Page → protocol_statement.Statement
as_statement (Begun h) p = protocol_statement.has_begun h
as_statement (Whole h n) p = protocol_statement.is_whole h n p
as_statement Ended p = protocol_statement.has_ended

abbrev pub as_word : Option Statement → Page → protocol_statement.Statement
as_word None p = protocol_statement.nothing
as_word (Some s) p = as_statement s p

-- where the page beside it stands: this machine's own is in the tables
abbrev pub sums_heard : List ℕ → ℕ → ℕ
sums_heard m i = cond (i == at m me_at) (sums_at + slots * i) (word_sums_at + slots * i)

abbrev pub counts_heard : List ℕ → ℕ → ℕ
counts_heard m i = cond (i == at m me_at) (counts_at + slots * i) (word_counts_at + slots * i)

abbrev pub page_heard : List ℕ → ℕ → Page
page_heard m i = page_in m (sums_heard m i) (counts_heard m i)

abbrev pub as_bound : Bound → protocol.Bound
as_bound Unknown = protocol.unknown
as_bound (From h) = protocol.from_hour h
as_bound Never = protocol.never

abbrev pub bound_at : (hour from : ℕ) → Bound
bound_at h f = cond (nat_le f h) (From h) Unknown
