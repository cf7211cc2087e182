-- What the words of the player's command line ask for. Assumes nothing: these are definitions.
use Rattle.std.specs.Prelude.{◌≡◌, ℕ, ◌+◌, Bool, true, false, cond, ◌||◌, List, [], ◌∷◌, Some, None, Ok, Err, codes, Option, Result, eqb, string_bytes}
use Rattle.std.specs.List.{starts_with}
use Rattle.std.specs.Str.{bytes_eq}
use Rattle.text.specs.Text.{Bytes, decimal}
use Rattle.player_args.specs.declared.ArgsError.{ArgsError}
use Rattle.player_args.specs.declared.ArgsError.TheVariants.{NoFile, NoSeed, NoRivers, SeedNoNumber, RiversNoNumber, UnknownOption, NotOneOrTwo, TooManyWords, Memory}
use Rattle.player_args.specs.declared.Command.{Command}
use Rattle.player_args.specs.declared.Command.TheVariants as command
use Rattle.player_args.specs.declared.Strokes.{Strokes}
use Rattle.player_args.specs.declared.Strokes.TheVariants.{One, Two}

-- a command, with a file's name as bytes
pub data Asked : Type 0 where
  help : Asked
  play : Bytes → Bool → Asked
  random : ℕ → ℕ → Asked
  strike : Bytes → Strokes → Asked
  sums : Bytes → Asked

-- which word is refused, counted from 0
abbrev pub word_of : ArgsError → Option ℕ
word_of NoFile = None
word_of NoSeed = None
word_of NoRivers = None
word_of SeedNoNumber = Some 1
word_of RiversNoNumber = Some 2
word_of (UnknownOption at) = Some at
word_of NotOneOrTwo = Some 2
word_of (TooManyWords at) = Some at
word_of Memory = None

-- a file, the word with this number, and whether figures are asked for
abbrev pub play_of : ℕ → List Bytes → Result Asked ArgsError
play_of at [] = Err NoFile
play_of at (file ∷ []) = Ok (play file false)
play_of at (file ∷ option ∷ []) = cond (bytes_eq option (codes "--stats")) (Ok (play file true)) (Err (UnknownOption (at + 1)))
play_of at (file ∷ option ∷ more ∷ rest) = Err (TooManyWords (at + 2))

abbrev pub random_from : Option ℕ → Option ℕ → Result Asked ArgsError
random_from None rivers = Err SeedNoNumber
random_from (Some seed) None = Err RiversNoNumber
random_from (Some seed) (Some rivers) = Ok (random seed rivers)

-- two numbers below 2^64: the first river's seed, and how many rivers
abbrev pub random_of : List Bytes → Result Asked ArgsError
random_of [] = Err NoSeed
random_of (seed ∷ []) = Err NoRivers
random_of (seed ∷ rivers ∷ []) = random_from (decimal seed) (decimal rivers)
random_of (seed ∷ rivers ∷ more ∷ rest) = Err (TooManyWords 3)

abbrev pub strokes_of : Bytes → Result Strokes ArgsError
strokes_of w = cond (bytes_eq w (codes "1")) (Ok One) (cond (bytes_eq w (codes "2")) (Ok Two) (Err NotOneOrTwo))

abbrev pub struck : Bytes → Result Strokes ArgsError → Result Asked ArgsError
struck file (Ok strokes) = Ok (strike file strokes)
struck file (Err e) = Err e

-- a file, and how often a machine is struck in a row: once where nothing is said
abbrev pub strike_of : List Bytes → Result Asked ArgsError
strike_of [] = Err NoFile
strike_of (file ∷ []) = Ok (strike file One)
strike_of (file ∷ count ∷ []) = struck file (strokes_of count)
strike_of (file ∷ count ∷ more ∷ rest) = Err (TooManyWords 3)

abbrev pub sums_of : List Bytes → Result Asked ArgsError
sums_of [] = Err NoFile
sums_of (file ∷ []) = Ok (sums file)
sums_of (file ∷ more ∷ rest) = Err (TooManyWords 2)

-- a first word that is no command is a file to be played, unless it is written as an option
abbrev pub named : Bytes → List Bytes → Result Asked ArgsError
named w ws =
    cond (bytes_eq w (codes "play")) (play_of 1 ws)
    (cond (bytes_eq w (codes "random")) (random_of ws)
    (cond (bytes_eq w (codes "strike")) (strike_of ws)
    (cond (bytes_eq w (codes "sums")) (sums_of ws)
    (cond (bytes_eq w (codes "--help") || (bytes_eq w (codes "-h") || bytes_eq w (codes "help"))) (Ok help)
    (cond (starts_with eqb w (codes "--")) (Err (UnknownOption 0)) (play_of 0 (w ∷ ws)))))))

-- without a word, what comes in is played
abbrev pub asked : List Bytes → Result Asked ArgsError
asked [] = Ok (play (codes "-") false)
asked (w ∷ ws) = named w ws

abbrev pub as_asked : Command → Asked
as_asked command.Help = help
as_asked (command.Play file stats) = play (string_bytes file) stats
as_asked (command.Random seed rivers) = random seed rivers
as_asked (command.Strike file strokes) = strike (string_bytes file) strokes
as_asked (command.Sums file) = sums (string_bytes file)

-- a file's name is to be copied
abbrev pub Copies : Result Asked ArgsError → Type 0
Copies (Ok help) = ⊥
Copies (Ok (play file stats)) = Unit {0}
Copies (Ok (random seed rivers)) = ⊥
Copies (Ok (strike file strokes)) = Unit {0}
Copies (Ok (sums file)) = Unit {0}
Copies (Err e) = ⊥

-- an answer is just what is asked; memory can be wanting only for a file's name
abbrev pub Answers : Result Asked ArgsError → Result Command ArgsError → Type 0
Answers a (Ok c) = a ≡ Ok (as_asked c)
Answers a (Err Memory) = Copies a
Answers a (Err e) = a ≡ Err e
