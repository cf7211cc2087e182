use Rattle.std.proofs.Common.{◌≡◌, true, false, rules}
use Rattle.hut.specs.Played.{as_machine}
use Rattle.hut.proofs.Acting.{from_good, did_from, wrong_from}
use Rattle.hut.proofs.hut.Hut.read_from.Goals as goal

pub returns-then-p-self : goal.returns-then-p-self
returns-then-p-self c =
    let bad : from_good (as_machine c.args.self.now) c.args.p ≡ false = search rules in
    λ rs i. wrong_from rs i _ _ _ bad

pub returns : goal.returns
returns c =
    let good : from_good (as_machine c.args.self.now) c.args.p ≡ true = search rules in
    λ rs i. did_from rs i (as_machine c.args.self.now) _ _ _ good c.turn.ensures
