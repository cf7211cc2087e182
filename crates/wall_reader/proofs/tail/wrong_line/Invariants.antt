use Rattle.std.proofs.Common.{◌≡◌, ◌+◌}
use Rattle.std.specs.Iterator.Adapters.{enumerate_source, enumerate_count}
use Rattle.text.specs.Text.{lines, lines_left}
use Rattle.wall_reader.specs.Tails.{wrong_line}
use Rattle.wall_reader.proofs.tail.wrong_line.Given as goal

-- what is found in the lines that are left is what is found in all
abbrev pub invariant-loop-index : goal.invariant-loop-index
invariant-loop-index l =
    wrong_line (enumerate_count l.index-iterator + 1) (lines_left (enumerate_source l.index-iterator)) ≡ wrong_line 1 (lines l.text)
