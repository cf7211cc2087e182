use Rattle.std.proofs.Common.{◌≡◌, ◌++◌, Ok, length, sym, ap, ◌∙◌, rules}
use Rattle.seal.specs.Seals.{checksum_line, sealed, unsealed}
use Rattle.seal.proofs.Back.{back}
use Rattle.seal.proofs.seal.Goals as goal

pub returns-clause-back : goal.returns-clause-back
returns-clause-back c =
    let bytes = c.args.bytes.now in
    let line = c.checksum_line-line in
    let is : c.extend_from_slice.new.self.items ≡ sealed bytes =
    c.in_ok-extend_from_slice.ensures.items ∙ ap (λ l. l ++ bytes) (c.in_ok-file.ensures.items ∙ line.ensures) in
    let n : length line.result ≡ 65 = search rules in
    ap unsealed is ∙ back bytes (ap length (sym line.ensures) ∙ n)
