use Rattle.std.proofs.Common.{◌≡◌, take}
use Rattle.std.proofs.lemmas.Result.{IfOk-weaker}
use Rattle.hut.specs.Played.{as_text}
use Rattle.hut.proofs.hut.Hut.act.Goals as goal

pub returns-in-More-clause-done : goal.returns-in-More-clause-done
returns-in-More-clause-done c = rw c.in-More.is (c.more.ensures c.args.i)

pub returns-in-From-clause-done : goal.returns-in-From-clause-done
returns-in-From-clause-done c = rw c.in-From.is (c.read_from.ensures _ c.args.i)

pub returns-in-LetGo-clause-done : goal.returns-in-LetGo-clause-done
returns-in-LetGo-clause-done c = rw c.in-LetGo.is (c.release.ensures _ c.args.i)

pub returns-in_ok-text-in-Sends-clause-done : goal.returns-in_ok-text-in-Sends-clause-done
returns-in_ok-text-in-Sends-clause-done c =
    let text : as_text c.in_ok-text-in-Sends.text ≡ take c.from.result c.args.desk.now.out.items = c.in_ok-text-in-Sends.ensures in
    rw (c.in-Sends.is, ← c.from.ensures, ← c.from-in-Sends.ensures, ← text) (c.send.ensures _)

pub returns-in_ok-text-in-Keep-clause-done : goal.returns-in_ok-text-in-Keep-clause-done
returns-in_ok-text-in-Keep-clause-done c =
    let text : as_text c.in_ok-text-in-Keep.text ≡ take c.from-in-Keep.result c.args.desk.now.out.items = c.in_ok-text-in-Keep.ensures in
    rw (c.in-Keep.is, ← c.from-in-Keep.ensures, ← c.from-in-Keep-2.ensures, ← text) (c.keep.ensures _ c.args.i)

pub returns-in-Recall-clause-done : goal.returns-in-Recall-clause-done
returns-in-Recall-clause-done c = rw c.in-Recall.is (IfOk-weaker c.recall.result _ _ (λ f h. h _ c.args.i) c.recall.ensures.done)

pub returns-in-Tells-clause-done : goal.returns-in-Tells-clause-done
returns-in-Tells-clause-done c = rw c.in-Tells.is (c.tell.ensures _ c.args.i)

pub returns-in-Rests-clause-done : goal.returns-in-Rests-clause-done
returns-in-Rests-clause-done c = rw c.in-Rests.is (c.rest.ensures _ c.args.i)
