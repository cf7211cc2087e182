use Rattle.std.proofs.Common.{◌≡◌, drop}
use Rattle.std.specs.Iterator.Adapters.{enumerate_source, enumerate_count}
use Rattle.text.specs.Text.{whole_lines, lines_left}
use Rattle.wall_reader.proofs.Reading.{SoFar}
use Rattle.wall_reader.proofs.reader.read.Given as goal

abbrev pub invariant-loop-index : goal.invariant-loop-index
invariant-loop-index l =
    (drop (enumerate_count l.index-iterator) (whole_lines l.text) ≡ lines_left (enumerate_source l.index-iterator))
    × SoFar (whole_lines l.text) (enumerate_count l.index-iterator) l.sums
