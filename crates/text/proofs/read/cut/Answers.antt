use Rattle.std.proofs.Common.{rules}
use Rattle.std.proofs.lemmas.Iterator.{YieldsList-from_slice}
use Rattle.std.proofs.lemmas.Iterator.Search.{position_from_yields_List}
use Rattle.text.proofs.Cuts.{cut_found}
use Rattle.text.proofs.read.cut.Goals as goal

pub returns : goal.returns
returns g c p says =
    let bs = c.args.bytes.now in
    let at = position_from_yields_List p _ _ c.position-end.result c.position-end.ensures.ran (YieldsList-from_slice bs c.iter.ensures.rest) (λ x b q k. (search rules, says x.now b (search rules))) in
    cut_found p bs _ _ _ _ at c.unwrap_or.ensures c.split_at.ensures.front c.split_at.ensures.back
