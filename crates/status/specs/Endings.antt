-- How a program ends. Assumes nothing: these are definitions.
use Rattle.std.specs.Prelude.{◌≡◌, ◌≢◌, ℕ, Bool, false, List, [], ◌∷◌, ◌++◌, Option, IfSome, codes, string_bytes}
use Rattle.std.specs.Str.{bytes_eq}
use Rattle.std.specs.declared.io.ErrorKind.{ErrorKind}
use Rattle.std.specs.declared.io.ErrorKind.TheVariants.{BrokenPipe}
use Rattle.anyhow.specs.declared.error.Error.{Error}
use Rattle.anyhow.specs.Error.{error_message, HasMessage}
use Rattle.status.specs.declared.Failure.{Failure}
use Rattle.status.specs.declared.Failure.TheVariants.{Refused, Wrong, RefusedWith, WrongWith, Closed}
use Rattle.status.specs.declared.TheConstants.{KIT}

-- the status of a failure
abbrev pub status_of : Failure → ℕ
status_of (Refused e) = 2
status_of (Wrong e) = 1
status_of (RefusedWith t) = 2
status_of (WrongWith t) = 1
status_of Closed = 0

-- what is said of it
abbrev pub said_of : Failure → List ℕ
said_of (Refused e) = error_message e
said_of (Wrong e) = error_message e
said_of (RefusedWith t) = string_bytes t
said_of (WrongWith t) = string_bytes t
said_of Closed = codes "nobody reads the output"

-- what is said is this text, if it is known: whole in a text, and as much of it as an error holds in an error
abbrev pub Says : Option (List ℕ) → Failure → Type 0
Says o (Refused e) = HasMessage o e
Says o (Wrong e) = HasMessage o e
Says o (RefusedWith t) = IfSome o (λ bs. string_bytes t ≡ bs)
Says o (WrongWith t) = IfSome o (λ bs. string_bytes t ≡ bs)
Says o Closed = ⊥

-- refused, for a reason of these
abbrev pub Refuses : (Error → Type 0) → Failure → Type 0
Refuses P f = (e : Error) × P e × (f ≡ Refused e)

abbrev pub IsWrong : (Error → Type 0) → Failure → Type 0
IsWrong P f = (e : Error) × P e × (f ≡ Wrong e)

-- an output that is closed is no fault of the program's, and any other error is
abbrev pub CameOf : ErrorKind → Failure → Type 0
CameOf kind f = (kind ≡ BrokenPipe → f ≡ Closed) × (kind ≢ BrokenPipe → status_of f ≡ 1)

-- the first word is `--version`
abbrev pub asks_version : List (List ℕ) → Bool
asks_version [] = false
asks_version (w ∷ ws) = bytes_eq w (codes "--version")

abbrev pub version_line : List ℕ → List ℕ
version_line program = program ++ (codes " " ++ (KIT.now ++ 10 ∷ []))
