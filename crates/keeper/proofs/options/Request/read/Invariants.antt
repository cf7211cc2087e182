use Rattle.std.proofs.Common.{◌≡◌, None, map, string_bytes}
use Rattle.std.specs.Vec.Iter.{into_iter_items, into_iter_len}
use Rattle.keeper.specs.Words.{as_given, asked, asked_from}
use Rattle.keeper.proofs.options.Request.read.Given as goal

abbrev pub decreases-loop-word : goal.decreases-loop-word
decreases-loop-word l = into_iter_len l.words

-- the words that are left ask for the same, behind what was said
abbrev pub invariant-loop-word : goal.invariant-loop-word
invariant-loop-word l = asked_from (map string_bytes (into_iter_items l.words)) None (as_given l.said) ≡ asked (map string_bytes l.fn.words.items)
