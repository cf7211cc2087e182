-- Scores added up: nothing is wrong in the sum only where nothing is wrong in either.
use Rattle.std.proofs.Common.{◌≡◌, ℕ, true, Option, ◌==◌, sym, ap, ◌∙◌, arith}
use Rattle.std.proofs.KnownBytes.{Keeps-trans}
use Rattle.std.specs.Io.KnownBytes.{Keeps}
use Rattle.std.proofs.lemmas.Bool.{and_parts, and_from}
use Rattle.std.proofs.lemmas.Bool.Decides.{nat_tests}
use Rattle.text.specs.Text.{Bytes}
use Rattle.play.specs.Trials.{plus, both, all_right}
use Rattle.play.specs.declared.trials.Score.{Score}
use Rattle.trials.specs.Printed.{QuietIfRight}

plus_zero : (a b : ℕ) → (plus a b == 0) ≡ true → ((a == 0) ≡ true) × ((b == 0) ≡ true)
plus_zero a b h = (grind (arith, nat_tests), grind (arith, nat_tests))

both_right : (s t : Score) → all_right (both s t) ≡ true → (all_right s ≡ true) × (all_right t ≡ true)
both_right s t h =
    let p = and_parts _ _ h in
    let q = and_parts _ _ p.1 in
    let r = and_parts _ _ q.1 in
    let often = plus_zero s.too_often t.too_often p.0 in
    let wrong = plus_zero s.wrong t.wrong q.0 in
    let untold = plus_zero s.untold t.untold r.0 in
    let faults = plus_zero s.faults t.faults r.1 in
    (and_from _ _ often.0 (and_from _ _ wrong.0 (and_from _ _ untold.0 faults.0)), and_from _ _ often.1 (and_from _ _ wrong.1 (and_from _ _ untold.1 faults.1)))

-- one score more
pub quiet_more : (a b c : Option Bytes) (s t u : Score) → u ≡ both s t → QuietIfRight s a b → QuietIfRight t b c → QuietIfRight u a c
quiet_more a b c s t u e p q h = let r = both_right s t (ap all_right (sym e) ∙ h) in Keeps-trans a b c (p r.0) (q r.1)

-- nothing more is printed
pub quiet_kept : (a b c : Option Bytes) (s : Score) → QuietIfRight s a b → Keeps b c → QuietIfRight s a c
quiet_kept a b c s p k h = Keeps-trans a b c (p h) k
