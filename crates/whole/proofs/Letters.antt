-- A letter that is one is taken in by the cells as by the protocol.
use Rattle.std.proofs.Common.{◌≡◌, ℕ, ◌<◌, Bool, true, false, cond, List, length, Some, None, Ok, Err, Result, refl, sym, ap, ◌∙◌, subst, arith}
use Rattle.std.proofs.lemmas.Bool.{lt-ltb}
use Rattle.sums.specs.Pages.{page_sums, page_counts}
use Rattle.protocol.specs.Limits.{crew}
use Rattle.protocol.specs.Mail as protocol
use Rattle.protocol.specs.Statements.{Letter}
use Rattle.protocol_world.specs.Sizes.{WordSized}
use Rattle.exchange.specs.Letters.{head_of}
use Rattle.exchange.specs.Mail.{with_word, with_head, numbers_beside_fit, with_letter_read, with_letter}
use Rattle.exchange.specs.Words.{as_statement}
use Rattle.exchange.specs.declared.error.LetterError.{LetterError}
use Rattle.exchange.specs.declared.statement.Head.{Head}
use Rattle.gauge.specs.Memory.{at, cells, phase_at, me_at}
use Rattle.gauge.specs.Views.{memory_of}
use Rattle.whole.specs.Seen.{page_of_rows, letter_of_head, letter_seen, filled_as_said}
use Rattle.whole.proofs.Hearing.{word_comes, heard_memory, heard_named, heard_said, heard_long}
use Rattle.whole.proofs.Taking.{Taken}

-- what a head and its page say
abbrev pub said_by : Head × List ℕ → Letter
said_by p = record { woke = p.0.woke; passed = p.0.passed; says = as_statement p.0.statement (page_of_rows (page_sums p.1) (page_counts p.1)) }

-- bytes that are a letter
record IsLetter (h : Result (Head × List ℕ) LetterError) (l : Letter) : Type 0 where
  head : Head × List ℕ
  is : h ≡ Ok head
  fits : numbers_beside_fit head.0.statement head.1 ≡ true
  says : said_by head ≡ l

is_letter : (h : Result (Head × List ℕ) LetterError) (l : Letter) → letter_of_head h ≡ Some l → IsLetter h l
is_letter (Ok p) l e = on (numbers_beside_fit p.0.statement p.1) refl e
  where
    on : (c : Bool) → numbers_beside_fit p.0.statement p.1 ≡ c → cond c (Some (said_by p)) None ≡ Some l → IsLetter (Ok p) l
    on true f e = record { head = p; is = refl; fits = f; says = ap (λ o. elim o as (λ _. Letter) [ Some x ↦ x | None ↦ l ]) e }
    on false f e = cc
is_letter (Err x) l e = cc

module _ (m : List ℕ) (len : length m ≡ cells) (me : at m me_at < crew) (ph : at m phase_at ≡ 6) (said : filled_as_said m ≡ true) (j : ℕ) (lj : j < crew) where
  head_taken : (p : Head × List ℕ) → WordSized (said_by p).says → Taken (protocol.with_letter (memory_of m) j (said_by p)) (Some (with_head m j p.0 p.1))
  head_taken p z =
      let w = with_word m j p.0.statement p.1 in
      let comes = word_comes m len j lj p.0.statement p.1 z in
      record {
        memory = with_head m j p.0 p.1;
        is = refl;
        long = heard_long m w j lj len me (said_by p).says p.0.passed comes p.0.woke;
        me = subst (λ v. v < crew) (sym (heard_named m w j lj len me (said_by p).says p.0.passed comes p.0.woke me_at (omega arith))) me;
        ready = heard_named m w j lj len me (said_by p).says p.0.passed comes p.0.woke phase_at (omega arith) ∙ ph;
        said = heard_said m w j lj len me (said_by p).says p.0.passed comes p.0.woke said;
        same = heard_memory m w j lj len me (said_by p).says p.0.passed comes p.0.woke;
      }

  pub letter_taken : (l : Letter) (bs : List ℕ) → WordSized l.says → letter_seen bs ≡ Some l → Taken (protocol.with_letter (memory_of m) j l) (with_letter m j bs)
  letter_taken l bs z seen =
      let k = is_letter (head_of bs) l seen in
      let taken : Taken (protocol.with_letter (memory_of m) j (said_by k.head)) (Some (with_head m j k.head.0 k.head.1)) =
      head_taken k.head (subst (λ (x : Letter). WordSized x.says) (sym k.says) z) in
      let read : with_letter m j bs ≡ Some (with_head m j k.head.0 k.head.1) =
      ap (λ c. cond c (with_letter_read m j (head_of bs)) None) (lt-ltb j crew lj) ∙ ap (with_letter_read m j) k.is
      ∙ ap (λ c. cond c (Some (with_head m j k.head.0 k.head.1)) None) k.fits in
      subst (λ x. Taken (protocol.with_letter (memory_of m) j x) (with_letter m j bs)) k.says
      (subst (Taken (protocol.with_letter (memory_of m) j (said_by k.head))) (sym read) taken)
