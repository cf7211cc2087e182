use Rattle.std.proofs.Common.{◌++◌, ap, ◌∙◌}
use Rattle.world.specs.Rounds.{a_round}
use Rattle.play.specs.Plays.{unrolled}
use Rattle.play.proofs.course.round.Goals as goal

pub returns : goal.returns
unfolding unrolled
returns c = c.in_ok-add_round.ensures.same ∙ ap (λ its. unrolled its ++ a_round c.args.acts) c.new-items.ensures.items
