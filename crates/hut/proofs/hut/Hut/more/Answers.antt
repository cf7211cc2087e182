use Rattle.hut.specs.Played.{as_machine}
use Rattle.hut.proofs.Acting.{did_more}
use Rattle.hut.proofs.hut.Hut.more.Goals as goal

pub returns : goal.returns
returns c = λ i. did_more _ i (as_machine c.args.self.now) _ _ _ c.turn.ensures (c.next_reading-next.ensures i _)
