use Rattle.std.proofs.Common.{◌≡◌, rules, ◌∙◌, arith}
use Rattle.std.proofs.lemmas.List.{with_items_is}
use Rattle.hut.proofs.Stepping.{stepped, step_done}
use Rattle.hut.proofs.hut.Hut.step.Goals as goal

pub unwrap-act-requires : goal.unwrap-act-requires
unwrap-act-requires c =
    let copy = c.as_mut_slice.ensures.value ∙ c.copy_from_slice.ensures.items ∙ c.as_slice.ensures.value in
    let done = stepped c.args.self.now c.args.desk.now c.in-Some.pending _ _ _ _ _ _ c.from-event.ensures copy c.as_mut_slice-2.ensures.value c.step.ensures in
    rw done.1 (search rules)

pub returns : goal.returns
returns c =
    let copy = c.as_mut_slice.ensures.value ∙ c.copy_from_slice.ensures.items ∙ c.as_slice.ensures.value in
    let done = stepped c.args.self.now c.args.desk.now c.in-Some.pending _ _ _ _ _ _ c.from-event.ensures copy c.as_mut_slice-2.ensures.value c.step.ensures in
    let act : c.unwrap-act.result ≡ done.0 = cc in
    let memory = with_items_is c.copy_from_slice.new.self c.step.new.memory (omega (arith, c.as_mut_slice.ensures.len)) in
    let out = with_items_is c.args.desk.now.out c.step.new.out (omega (arith, c.as_mut_slice-2.ensures.len)) in
    step_done c.args.self.now c.in-Some.pending _ _ _ _ _ c.in-Some.is act memory out (done.2, done.3)
