use Rattle.std.proofs.Common.{arith, rules}
use Rattle.std.proofs.lemmas.Grind.{common_steps}
use Rattle.std.proofs.lemmas.List.{nil_from_length}
use Rattle.text.specs.Text.{words, blank}
use Rattle.text.proofs.Cuts.{solid, words_solid, words_cut, first_solid}
use Rattle.text.proofs.read.first_word.Goals as goal

pub returns-then-is_empty : goal.returns-then-is_empty
unfolding words
returns-then-is_empty c =
    let cut = c.cut.ensures solid (λ b r h. search rules) in
    grind (arith, common_steps, words_solid c.args.bytes.now, nil_from_length c.cut.result.1.now)

pub returns : goal.returns
returns c =
    let start = c.cut.ensures solid (λ b r h. search rules) in
    let word = c.cut-2.ensures blank (λ b r h. search rules) in
    grind (arith, common_steps, words_solid c.args.bytes.now, words_cut c.cut.result.1.now, first_solid c.args.bytes.now)
