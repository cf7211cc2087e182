use Rattle.std.proofs.Common.{◌≡◌, true, false, rules}
use Rattle.hut.specs.Played.{as_machine}
use Rattle.hut.proofs.Acting.{release_good, did_let_go, wrong_let_go}
use Rattle.hut.proofs.hut.Hut.release.Goals as goal

pub returns-then-p-self : goal.returns-then-p-self
returns-then-p-self c =
    let bad : release_good (as_machine c.args.self.now) c.args.p ≡ false = search rules in
    λ rs i. wrong_let_go rs i _ _ _ bad

pub returns : goal.returns
returns c =
    let good : release_good (as_machine c.args.self.now) c.args.p ≡ true = search rules in
    λ rs i. did_let_go rs i (as_machine c.args.self.now) _ _ _ good c.turn.ensures
