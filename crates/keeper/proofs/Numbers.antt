-- A number on a line by itself, read back. Assumes nothing.
use Rattle.std.proofs.Common.{◌≡◌, ℕ, ◌<◌, true, ◌∷◌, [], ◌++◌, Some, refl, ap, ◌∙◌, arith}
use Rattle.std.specs.Fmt as written
use Rattle.std.proofs.lemmas.Grind.{common_steps}
use Rattle.text.specs.Text.{Bytes, lines, all_digits}
use Rattle.text.proofs.Numbers.{digits_read}
use Rattle.text.proofs.Written.{words_only, written_solid, written_some, written_read}
use Rattle.keeper.specs.Stations.{lone_number, lone_line}

-- digits hold no end of a line
one_line : (w : Bytes) → all_digits w ≡ true → lines (w ++ 10 ∷ []) ≡ w ∷ []
unfolding all_digits lines
one_line [] h = refl
one_line (b ∷ w) h = grind (arith, common_steps, one_line w)

pub number_back : (n : ℕ) → n < 18446744073709551616 → lone_line (lines (written.decimal n ++ 10 ∷ [])) ≡ Some n
number_back n h =
    ap lone_line (one_line (written.decimal n) (digits_read (written.decimal n) n (written_read n h)))
    ∙ ap lone_number (words_only (written.decimal n) (written_solid n h) (written_some n h))
    ∙ written_read n h
