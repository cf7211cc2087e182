use Rattle.std.proofs.Common.{◌-◌, ◌≤◌, length, drop, take, ◌∙◌, refl, ◌+◌, ◌++◌, ap, sym, arith}
use Rattle.sums.specs.Pages.{page_length, page_bytes}
use Rattle.exchange.specs.Letters.{head_bytes}
use Rattle.exchange.proofs.Writing.{next_part, room_left, head_within, letter_alone, letter_whole, page_fits, page_over, length_whole}
use Rattle.exchange.proofs.write.write_letter.Goals as goal

pub unwrap-requires : goal.unwrap-requires
unwrap-requires c =
    let n = c.write_head-len.result in
    let out = take (length c.write_head-len.new.out - n) (drop n c.write_head-len.new.out) in
    let room : page_length ≤ length out = room_left c.write_head-len.new.out n (omega (arith, head_within c.args.head)) in
    rw (c.encode_page.ensures.told ∙ page_fits c.args.sums.now c.args.counts.now c.requires.sums c.requires.counts out room) refl

pub returns-in-Whole-clause-length : goal.returns-in-Whole-clause-length
returns-in-Whole-clause-length c =
    omega (arith, length_whole c.args.sums.now c.args.counts.now c.requires.sums c.requires.counts c.args.head _ _ c.in-Whole.is)

pub returns-in-Whole-clause-within : goal.returns-in-Whole-clause-within
returns-in-Whole-clause-within c = omega (arith, head_within c.args.head)

pub returns-in-Whole-clause-bytes : goal.returns-in-Whole-clause-bytes
returns-in-Whole-clause-bytes c =
    let ss = c.args.sums.now in
    let cs = c.args.counts.now in
    let n = c.write_head-len.result in
    let out = take (length c.write_head-len.new.out - n) (drop n c.write_head-len.new.out) in
    let room : page_length ≤ length out = room_left c.write_head-len.new.out n (omega (arith, head_within c.args.head)) in
    next_part (head_bytes c.args.head) (page_bytes ss cs) c.args.out.now c.write_head-len.new.out c.encode_page.new.out n page_length c.write_head-len.ensures.length
    c.write_head-len.ensures.bytes (c.encode_page.ensures.out ∙ page_over ss cs c.requires.sums c.requires.counts out room)
    ∙ ap (λ bs. bs ++ drop (n + page_length) c.args.out.now) (sym (letter_whole ss cs c.args.head _ _ c.in-Whole.is))

pub returns : goal.returns
returns c =
    let same = letter_alone c.args.sums.now c.args.counts.now c.args.head c.in_default.not-Whole in
    record { length = rw same c.write_head-len.ensures.length; bytes = rw same c.write_head-len.ensures.bytes; within = omega (arith, head_within c.args.head) }
