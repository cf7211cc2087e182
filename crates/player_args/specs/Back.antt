-- Words that ask for a command.
use Rattle.std.specs.Prelude.{◌≡◌, ◌<◌, true, false, List, [], ◌∷◌, Ok, codes, decimal}
use Rattle.text.specs.Text.{Bytes}
use Rattle.player_args.specs.declared.Strokes.TheVariants.{One, Two}
use Rattle.player_args.specs.Asked.{Asked, help, play, random, strike, sums, asked}

abbrev pub words_for : Asked → List Bytes
words_for help = codes "--help" ∷ []
words_for (play file false) = codes "play" ∷ file ∷ []
words_for (play file true) = codes "play" ∷ file ∷ codes "--stats" ∷ []
words_for (random seed rivers) = codes "random" ∷ decimal seed ∷ decimal rivers ∷ []
words_for (strike file One) = codes "strike" ∷ file ∷ codes "1" ∷ []
words_for (strike file Two) = codes "strike" ∷ file ∷ codes "2" ∷ []
words_for (sums file) = codes "sums" ∷ file ∷ []

abbrev pub InRange : Asked → Type 0
InRange help = Unit {0}
InRange (play file stats) = Unit {0}
InRange (random seed rivers) = (seed < 18446744073709551616) × (rivers < 18446744073709551616)
InRange (strike file strokes) = Unit {0}
InRange (sums file) = Unit {0}

-- every command can be asked for
unfoldable pub CommandsBack : Type 0
CommandsBack = (a : Asked) → InRange a → asked (words_for a) ≡ Ok a
