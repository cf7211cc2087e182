use Rattle.std.proofs.Common.{map, Some, None, codes, string_bytes, sym, ap, ◌∙◌}
use Rattle.std.specs.Vec.Iter.{into_iter_items}
use Rattle.std.proofs.lemmas.Str.Pattern.{starts_text}
use Rattle.keeper.specs.Words.{as_given, asked_from, on}
use Rattle.keeper.proofs.Asking.{said_help, said_option, said_number, so_many_left, none_left, no_value, some_value, answered}
use Rattle.keeper.proofs.options.Request.read.Goals.{then-starts_with+in_ok-name+in_ok-value+in_ok-set, else-starts_with+in_ok-set_machine}
use Rattle.keeper.proofs.options.Request.read.Goals as goal

pub returns-then-is_help : goal.returns-then-is_help
returns-then-is_help c =
    let hs = into_iter_items c.loop-word.words in
    let rest = into_iter_items c.next.new.self in
    sym c.loop-word.invariant ∙ said_help hs c.in-Some.word rest c.as_str-word.result.now (as_given c.loop-word.said) c.in-Some.ensures.items c.as_str-word.ensures.value (sym c.if-is_help.true ∙ c.is_help.ensures)

pub returns-in_err-name : goal.returns-in_err-name
returns-in_err-name c =
    let hs = into_iter_items c.loop-word.words in
    let rest = into_iter_items c.next.new.self in
    let g = as_given c.loop-word.said in
    let dash = sym (starts_text c.starts_with.result (codes "-") c.as_str-word.result.now c.starts_with.ensures.cases) ∙ c.if-starts_with.true in
    answered _ c.from_residual.result c.in_err-name.field-0.0 c.from_residual.ensures.1
    (sym c.loop-word.invariant ∙ said_option hs c.in-Some.word rest c.as_str-word.result.now g c.in-Some.ensures.items c.as_str-word.ensures.value (sym c.if-is_help.false ∙ c.is_help.ensures) dash
    c.len.result (c.len.ensures ∙ so_many_left c.next.new.self)
    ∙ ap (λ n. on n (λ n. asked_from (map string_bytes rest) (Some n) g)) (sym c.in_err-name.ensures))

pub returns-in_err-value : goal.returns-in_err-value
returns-in_err-value c =
    let hs = into_iter_items c.loop-word.words in
    let rest = into_iter_items c.next.new.self in
    let g = as_given c.loop-word.said in
    let dash = sym (starts_text c.starts_with.result (codes "-") c.as_str-word.result.now c.starts_with.ensures.cases) ∙ c.if-starts_with.true in
    let option =
    sym c.loop-word.invariant ∙ said_option hs c.in-Some.word rest c.as_str-word.result.now g c.in-Some.ensures.items c.as_str-word.ensures.value (sym c.if-is_help.false ∙ c.is_help.ensures) dash
    c.len.result (c.len.ensures ∙ so_many_left c.next.new.self)
    ∙ ap (λ n. on n (λ n. asked_from (map string_bytes rest) (Some n) g)) (sym c.in_ok-name.ensures) in
    answered _ c.from_residual-in_err-value.result c.in_err-value.field-0.0 c.from_residual-in_err-value.ensures.1
    (option ∙ no_value c.next.new.self c.next-then-starts_with.new.self c.next-then-starts_with.result c.in_ok-name.name g c.in_err-value.field-0.0
    c.next-then-starts_with.ensures.cases c.in_err-value.ensures.variant c.in_err-value.ensures.value)

pub returns-in_err-set : goal.returns-in_err-set
returns-in_err-set c =
    let hs = into_iter_items c.loop-word.words in
    let rest = into_iter_items c.next.new.self in
    let g = as_given c.loop-word.said in
    let dash = sym (starts_text c.starts_with.result (codes "-") c.as_str-word.result.now c.starts_with.ensures.cases) ∙ c.if-starts_with.true in
    let option =
    sym c.loop-word.invariant ∙ said_option hs c.in-Some.word rest c.as_str-word.result.now g c.in-Some.ensures.items c.as_str-word.ensures.value (sym c.if-is_help.false ∙ c.is_help.ensures) dash
    c.len.result (c.len.ensures ∙ so_many_left c.next.new.self)
    ∙ ap (λ n. on n (λ n. asked_from (map string_bytes rest) (Some n) g)) (sym c.in_ok-name.ensures) in
    answered _ c.from_residual-in_err-set.result c.in_err-set.field-0.0 c.from_residual-in_err-set.ensures.1
    (option
    ∙ some_value c.next.new.self c.next-then-starts_with.new.self c.next-then-starts_with.result c.in_ok-value.value c.in_ok-name.name g c.next-then-starts_with.ensures.cases c.in_ok-value.ensures.ok_part
    ∙ ap (λ x. on x (asked_from (map string_bytes (into_iter_items c.next-then-starts_with.new.self)) None)) c.in_err-set.ensures)

pub returns-in_err-set_machine : goal.returns-in_err-set_machine
returns-in_err-set_machine c =
    let hs = into_iter_items c.loop-word.words in
    let rest = into_iter_items c.next.new.self in
    let g = as_given c.loop-word.said in
    let dash = sym (starts_text c.starts_with.result (codes "-") c.as_str-word.result.now c.starts_with.ensures.cases) ∙ c.if-starts_with.false in
    answered _ c.from_residual-in_err-set_machine.result c.in_err-set_machine.field-0.0 c.from_residual-in_err-set_machine.ensures.1
    (sym c.loop-word.invariant ∙ said_number hs c.in-Some.word rest c.as_str-word.result.now g c.in-Some.ensures.items c.as_str-word.ensures.value (sym c.if-is_help.false ∙ c.is_help.ensures) dash
    ∙ ap (λ x. on x (asked_from (map string_bytes rest) None)) c.in_err-set_machine.ensures)

pub returns-in_err-finished : goal.returns-in_err-finished
unfolding asked_from
returns-in_err-finished c =
    let g = as_given c.loop-word.said in
    let none = none_left c.loop-word.words c.in_default.ensures.cases.0 in
    answered _ c.from_residual-in_err-finished.result c.in_err-finished.field-0.0 c.from_residual-in_err-finished.ensures.1
    (sym c.loop-word.invariant ∙ ap (λ l. asked_from (map string_bytes l) None g) none ∙ c.in_err-finished.ensures)

pub returns : goal.returns
unfolding asked_from
returns c =
    let g = as_given c.loop-word.said in
    let none = none_left c.loop-word.words c.in_default.ensures.cases.0 in
    sym c.loop-word.invariant ∙ ap (λ l. asked_from (map string_bytes l) None g) none ∙ c.in_ok-finished.ensures

pub loop-word-preserved : goal.loop-word-preserved
loop-word-preserved c =
    let hs = into_iter_items c.loop-word.words in
    let rest = into_iter_items c.next.new.self in
    let g = as_given c.loop-word.said in
    elim c.if-starts_with.branch [
      | then-starts_with+in_ok-name+in_ok-value+in_ok-set w ↦
          let dash = sym (starts_text c.starts_with.result (codes "-") c.as_str-word.result.now c.starts_with.ensures.cases) ∙ w.if-starts_with.true in
          let left = w.next-then-starts_with.new.self in
          let option =
          said_option hs c.in-Some.word rest c.as_str-word.result.now g c.in-Some.ensures.items c.as_str-word.ensures.value (sym c.if-is_help.false ∙ c.is_help.ensures) dash
          w.len.result (w.len.ensures ∙ so_many_left c.next.new.self)
          ∙ ap (λ n. on n (λ n. asked_from (map string_bytes rest) (Some n) g)) (sym w.in_ok-name.ensures)
          ∙ some_value c.next.new.self left w.next-then-starts_with.result w.in_ok-value.value w.in_ok-name.name g w.next-then-starts_with.ensures.cases w.in_ok-value.ensures.ok_part
          ∙ ap (λ x. on x (asked_from (map string_bytes (into_iter_items left)) None)) w.in_ok-set.ensures in
          rw (w.said-is, w.words-is, sym option, c.loop-word.invariant)
      | else-starts_with+in_ok-set_machine w ↦
          let dash = sym (starts_text c.starts_with.result (codes "-") c.as_str-word.result.now c.starts_with.ensures.cases) ∙ w.if-starts_with.false in
          let number =
          said_number hs c.in-Some.word rest c.as_str-word.result.now g c.in-Some.ensures.items c.as_str-word.ensures.value (sym c.if-is_help.false ∙ c.is_help.ensures) dash
          ∙ ap (λ x. on x (asked_from (map string_bytes rest) None)) w.in_ok-set_machine.ensures in
          rw (w.said-is, w.words-is, sym number, c.loop-word.invariant)
    ]
