use Rattle.std.proofs.Common.{sym, ◌∙◌}
use Rattle.gauge.proofs.Cells.{part_is}
use Rattle.gauge.proofs.Pagewise.{page_kept}
use Rattle.gauge.proofs.keep.keep_page.Goals as goal

pub returns : goal.returns
returns c =
    let m = c.args.memory.now in
    let p = c.args.page in
    page_kept m p c.args.drawer _ _ c.args.out.now _ c.told-memory c.requires (part_is m _ _) (part_is m _ _)
    (sym c.encode_page.ensures.told ∙ c.unwrap.ensures) c.encode_page.ensures.out
