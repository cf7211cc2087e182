-- Lines of a wire: what one says to a machine. Assumes nothing: these are definitions.
use Rattle.std.specs.Prelude.{◌≡◌, ℕ, cond, List, [], ◌∷◌, length, Some, None, Ok, Err, codes, Option, Result, nat_le, nat_lt}
use Rattle.std.specs.Str.{bytes_eq}
use Rattle.text.specs.Text.{Bytes, decimal}
use Rattle.text.specs.Hex.{unhex}
use Rattle.text.specs.declared.base16.HexError.{HexError}
use Rattle.machine.specs.Run as run
use Rattle.machine.specs.Run.{next, letter}
use Rattle.hut.specs.declared.hut.Pending.{Pending}
use Rattle.hut.specs.declared.text.Text.{Text}
use Rattle.hut.specs.Played.{as_event, as_text}
use Rattle.wire.specs.declared.error.WireError.{WireError}
use Rattle.wire.specs.declared.error.WireError.TheVariants.{Refused, Memory}
use Rattle.wire.specs.declared.error.Reason.{Reason}
use Rattle.wire.specs.declared.error.Reason.TheVariants.{UnknownWord, MissingNumber, NotANumber, NoSuchMachine, Hex, TooLong, TrailingWord}

-- the bytes of a letter, where they are not too many
abbrev pub text_from : Result Bytes HexError → Result Bytes Reason
text_from (Ok bs) = cond (nat_le (length bs) 4096) (Ok bs) (Err TooLong)
text_from (Err e) = Err (Hex e)

-- at most one word, which writes bytes; no word writes none
abbrev pub text_of : List Bytes → Result Bytes Reason
text_of [] = Ok []
text_of (h ∷ []) = text_from (unhex h)
text_of (h ∷ w ∷ ws) = Err TrailingWord

abbrev pub from_machine : ℕ → Result Bytes Reason → Result run.Event Reason
from_machine i (Ok bs) = Ok (letter i bs)
from_machine i (Err e) = Err e

abbrev pub sender_of : Option ℕ → List Bytes → Result run.Event Reason
sender_of None ws = Err NotANumber
sender_of (Some i) ws = cond (nat_lt i 8) (from_machine i (text_of ws)) (Err NoSuchMachine)

abbrev pub letter_of : List Bytes → Result run.Event Reason
letter_of [] = Err MissingNumber
letter_of (n ∷ ws) = sender_of (decimal n) ws

abbrev pub poke_of : List Bytes → Result run.Event Reason
poke_of [] = Ok next
poke_of (w ∷ ws) = Err TrailingWord

-- what the words of a line say
abbrev pub event_of : Bytes → List Bytes → Result run.Event Reason
event_of w ws = cond (bytes_eq w (codes "poke")) (poke_of ws) (cond (bytes_eq w (codes "from")) (letter_of ws) (Err UnknownWord))

-- an answer says just this; nothing is said where memory is wanting
abbrev pub Says : Result run.Event Reason → Result Pending WireError → Type 0
Says said (Ok p) = said ≡ Ok (as_event p)
Says said (Err (Refused e)) = said ≡ Err e
Says said (Err Memory) = Unit {0}

abbrev pub TextSays : Result Bytes Reason → Result Text WireError → Type 0
TextSays said (Ok t) = said ≡ Ok (as_text t)
TextSays said (Err (Refused e)) = said ≡ Err e
TextSays said (Err Memory) = Unit {0}

-- a line without words says nothing
abbrev pub Hears : List Bytes → Result (Option Pending) WireError → Type 0
Hears [] r = r ≡ Ok None
Hears (w ∷ ws) (Ok None) = ⊥
Hears (w ∷ ws) (Ok (Some p)) = event_of w ws ≡ Ok (as_event p)
Hears (w ∷ ws) (Err (Refused e)) = event_of w ws ≡ Err e
Hears (w ∷ ws) (Err Memory) = Unit {0}
