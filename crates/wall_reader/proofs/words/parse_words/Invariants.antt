use Rattle.std.proofs.Common.{◌≡◌, drop, string_bytes}
use Rattle.sums.specs.Sums.{each}
use Rattle.wall_reader.specs.Requests.{asked_from, asked_by}
use Rattle.wall_reader.proofs.words.parse_words.Given as goal

abbrev pub invariant-loop-at : goal.invariant-loop-at
invariant-loop-at l = asked_from (each string_bytes (drop l.at-counter l.words)) l.at-counter l.draft ≡ asked_by (each string_bytes l.words)
