-- Kinds of letters, and their numbers. Assumes nothing: these are definitions.
use Rattle.std.specs.Prelude.{ℕ, cond, Some, None, Ok, Err, Result, ◌==◌}
use Rattle.exchange.specs.declared.error.LetterError.{LetterError}
use Rattle.exchange.specs.declared.error.LetterError.TheVariants.{UnknownKind}
use Rattle.exchange.specs.declared.kind.Kind.{Kind}
use Rattle.exchange.specs.declared.kind.Kind.TheVariants as kind
use Rattle.exchange.specs.declared.statement.Statement.{Statement}
use Rattle.exchange.specs.declared.statement.Statement.TheVariants.{Begun, Whole, Ended}

abbrev pub kind_of : Statement → Kind
kind_of (Begun h) = kind.Begun
kind_of (Whole h (Some n)) = kind.Whole
kind_of (Whole h None) = kind.Last
kind_of Ended = kind.Ended

abbrev pub kind_number : Kind → ℕ
kind_number kind.Begun = 1
kind_number kind.Whole = 2
kind_number kind.Last = 3
kind_number kind.Ended = 4

abbrev pub kind_in : (byte : ℕ) → Result Kind LetterError
kind_in b = cond (b == 1) (Ok kind.Begun) (cond (b == 2) (Ok kind.Whole) (cond (b == 3) (Ok kind.Last) (cond (b == 4) (Ok kind.Ended) (Err UnknownKind))))
