use Rattle.std.proofs.Common.{◌≡◌, ◌<◌, sym, subst}
use Rattle.protocol.specs.Limits.{crew}
use Rattle.exchange.proofs.Letter.{me_stays}
use Rattle.machine.proofs.handlers.absorb_letter.Goals as goal

pub choose-requires : goal.choose-requires
choose-requires c = subst (λ n. n < crew) (sym (me_stays c.args.memory.now c.hear.new.memory c.args.from c.args.bytes.now _ c.told-memory c.in-Ok.ensures)) c.requires
