use Rattle.std.proofs.Common.{sym, ◌∙◌}
use Rattle.machine.proofs.Stepped.{start_length, start_zeros}
use Rattle.hut.proofs.steps.memory.Goals as goal

pub returns : goal.returns
returns c = c.in_ok-cells.ensures.items_if_clones_equal (λ y e. e) ∙ start_zeros _ (sym start_length)
