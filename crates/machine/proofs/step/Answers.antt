use Rattle.std.proofs.Common.{◌<◌, length, refl}
use Rattle.std.proofs.lemmas.Bool.{eq-eqb, le-leb, lt-leb}
use Rattle.std.proofs.lemmas.Result.{err_from_is_err_and}
use Rattle.gauge.specs.Memory.{cells}
use Rattle.gauge.proofs.Longer.{did_longer}
use Rattle.machine.specs.Answers.{as_event}
use Rattle.machine.specs.Machine.{reacts}
use Rattle.machine.proofs.Stepped.{stepped}
use Rattle.machine.proofs.step.Goals as goal

pub returns-in_err-check_length : goal.returns-in_err-check_length
returns-in_err-check_length c =
    let whole = c.in-Some.ensures.cases in
    let many = c.in_err-check_length.ensures in
    let exit = err_from_is_err_and c.from_residual.result c.from_residual.ensures.1 in
    simp (← c.bytes.ensures, eq-eqb (length c.args.memory.now) cells whole.long, lt-leb (length c.bytes.result.now) 4096 many.1) (cc (exit.1, exit.2, many.0), whole.same, refl)

pub returns-in_default-first_chunk_mut : goal.returns-in_default-first_chunk_mut
returns-in_default-first_chunk_mut c =
    let whole = c.in-Some.ensures.cases in
    let short : length c.args.out.now < 4096 = c.in_default-first_chunk_mut.ensures.cases in
    simp (← c.bytes.ensures, eq-eqb (length c.args.memory.now) cells whole.long, le-leb (length c.bytes.result.now) 4096 c.in_ok-check_length.ensures, lt-leb 4096 (length c.args.out.now) short)
    (refl, whole.same, refl)

pub returns : goal.returns
returns c =
    let m = c.args.memory.now in
    let out = c.args.out.now in
    let ev = as_event c.args.event in
    let whole = c.in-Some.ensures.cases in
    let first = c.in-Some-first_chunk_mut.ensures.cases in
    let did = did_longer (reacts m ev) c.react.result _ out _ _ 4096 first.same (simp whole.same at c.react.ensures) in
    let done = stepped m ev c.react.result _ out _ whole.long did in
    simp (← c.bytes.ensures, eq-eqb (length m) cells whole.long, le-leb (length c.bytes.result.now) 4096 c.in_ok-check_length.ensures, le-leb 4096 (length out) first.enough)
    (c.react.result, refl, done.0, done.1)
