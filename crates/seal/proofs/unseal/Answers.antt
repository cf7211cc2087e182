use Rattle.std.proofs.Common.{sym, ap, ◌∙◌, arith}
use Rattle.std.proofs.lemmas.Grind.{common_steps}
use Rattle.std.specs.Str.{bytes_eq}
use Rattle.seal.specs.Seals.{checksum_line}
use Rattle.seal.proofs.Back.{alike, fits, has, other, unlike}
use Rattle.seal.proofs.unseal.Goals as goal

pub returns-then-ne : goal.returns-then-ne
returns-then-ne c =
    let line = c.in-Some.line.now in
    let cut = c.in-Some.ensures.cases in
    let is = sym (c.as_slice.ensures ∙ c.checksum_line.ensures) in
    other c.args.file.now line c.in-Some.bytes.now (cut.1, cut.2) (has c.args.file.now line cut.1 cut.0 (let e = c.if-line-ne10.false in grind (arith, common_steps, e)))
    (ap (bytes_eq line) is ∙ unlike (bytes_eq line c.as_slice.result.now) (sym c.if-ne.true ∙ c.ne.ensures))

pub returns : goal.returns
returns c =
    let line = c.in-Some.line.now in
    let cut = c.in-Some.ensures.cases in
    let is = sym (c.as_slice.ensures ∙ c.checksum_line.ensures) in
    fits c.args.file.now line c.in-Some.bytes.now (cut.1, cut.2) (has c.args.file.now line cut.1 cut.0 (let e = c.if-line-ne10.false in grind (arith, common_steps, e)))
    (ap (bytes_eq line) is ∙ alike (bytes_eq line c.as_slice.result.now) (sym c.if-ne.false ∙ c.ne.ensures))
