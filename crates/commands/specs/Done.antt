-- What is printed where all goes well, by what is asked. Assumes nothing: these are definitions.
use Rattle.std.specs.Prelude.{◌≡◌, true, false, Ok, Err, Option, Result}
use Rattle.std.specs.Io.KnownBytes.{Appends}
use Rattle.text.specs.Text.{Bytes}
use Rattle.text.specs.Written.{lined}
use Rattle.play.specs.declared.trials.Score.{Score}
use Rattle.player_args.specs.Asked.{Asked, help, play, random, strike, sums}
use Rattle.player_args.specs.declared.ArgsError.{ArgsError}
use Rattle.player_args.specs.declared.TheConstants.{USAGE}
use Rattle.report.specs.Printed.{ListsOne}
use Rattle.playback.specs.Printed.{PlaysOne}
use Rattle.trials.specs.Printed.{ShowsScore, rivers_line, walls_line}

-- of a river that is played with figures, and of which rivers are played at random, nothing is said
abbrev pub Does : Result Asked ArgsError → (input old new : Option Bytes) → Type 0
Does (Ok help) input old new = Appends old new (lined USAGE.now)
Does (Ok (play file false)) input old new = PlaysOne file input old new
Does (Ok (play file true)) input old new = Unit {0}
Does (Ok (random seed rivers)) input old new = (s : Score) × (s.worlds ≡ rivers) × ShowsScore rivers_line s old new
Does (Ok (strike file strokes)) input old new = (s : Score) × ShowsScore walls_line s old new
Does (Ok (sums file)) input old new = ListsOne file input old new
Does (Err e) input old new = ⊥
