use Rattle.std.proofs.Common.{◌≡◌, true, false, Ok, refl}
use Rattle.text.proofs.Written.{written_read}
use Rattle.player_args.specs.declared.Strokes.TheVariants.{One, Two}
use Rattle.player_args.specs.Asked.{Asked, help, play, random, strike, sums, asked}
use Rattle.player_args.specs.Back.{CommandsBack, InRange, words_for}
use Rattle.player_args.proofs.commands_back.Goals as goal

back : (a : Asked) → InRange a → asked (words_for a) ≡ Ok a
back help h = refl
back (play file false) h = refl
back (play file true) h = refl
back (random seed rivers) h = rw (written_read seed h.0, written_read rivers h.1) refl
back (strike file One) h = refl
back (strike file Two) h = refl
back (sums file) h = refl

pub returns : goal.returns
unfolding CommandsBack
returns c = back
