-- Command lines worked out by hand.
use Rattle.std.specs.Prelude.{◌≡◌, true, false, [], ◌∷◌, Ok, Err, codes}
use Rattle.player_args.specs.declared.ArgsError.TheVariants.{NoRivers, SeedNoNumber, UnknownOption, NotOneOrTwo, TooManyWords}
use Rattle.player_args.specs.declared.Strokes.TheVariants.{One, Two}
use Rattle.player_args.specs.Asked.{help, play, random, strike, sums, asked}

-- a word alone is played as it is behind `play`; a river is struck once where nothing is said; a sign is no digit
unfoldable pub WorkedCommands : Type 0
WorkedCommands =
    (asked [] ≡ Ok (play (codes "-") false))
    × (asked (codes "a" ∷ []) ≡ asked (codes "play" ∷ codes "a" ∷ []))
    × (asked (codes "a" ∷ codes "--stats" ∷ []) ≡ Ok (play (codes "a") true))
    × (asked (codes "a" ∷ codes "b" ∷ []) ≡ Err (UnknownOption 1))
    × (asked (codes "--stats" ∷ []) ≡ Err (UnknownOption 0))
    × (asked (codes "random" ∷ codes "7" ∷ codes "30" ∷ []) ≡ Ok (random 7 30))
    × (asked (codes "random" ∷ codes "+7" ∷ codes "30" ∷ []) ≡ Err SeedNoNumber)
    × (asked (codes "random" ∷ codes "7" ∷ []) ≡ Err NoRivers)
    × (asked (codes "strike" ∷ codes "a" ∷ []) ≡ Ok (strike (codes "a") One))
    × (asked (codes "strike" ∷ codes "a" ∷ codes "2" ∷ []) ≡ Ok (strike (codes "a") Two))
    × (asked (codes "strike" ∷ codes "a" ∷ codes "3" ∷ []) ≡ Err NotOneOrTwo)
    × (asked (codes "sums" ∷ codes "a" ∷ []) ≡ Ok (sums (codes "a")))
    × (asked (codes "sums" ∷ codes "a" ∷ codes "b" ∷ []) ≡ Err (TooManyWords 2))
    × (asked (codes "--help" ∷ []) ≡ Ok help)
