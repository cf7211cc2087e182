-- A letter that comes is taken in: it is what its sender said last.
use Rattle.std.proofs.Common.{◌≡◌, ◌≢◌, ◌⊎◌, inl, inr, ℕ, ◌+◌, ◌*◌, ◌<◌, ◌≤◌, Bool, true, false, cond, not, eqb, List, [], length, get_or, set, Some, None, Option, refl, sym, ap, ap₂, ◌∙◌, subst, ⊎_elim, arith}
use Rattle.std.proofs.lemmas.Bool.{eqb-true, eq-eqb, ne_eqb, both_ways, cases_Bool, cases_lt}
use Rattle.std.proofs.lemmas.List.{length-set, get_or-set_other}
use Rattle.sums.specs.Cells.{slots}
use Rattle.sums.specs.Pages.{page_sums, page_counts}
use Rattle.sums.specs.Sums.{pick, or}
use Rattle.sums.specs.Written.{written}
use Rattle.sums.proofs.Columns.{length_sums, length_counts}
use Rattle.sums.proofs.Overwrites.{length_written}
use Rattle.protocol.specs.Limits.{crew}
use Rattle.protocol.specs.Mail as protocol
use Rattle.protocol.specs.Memory.{Memory}
use Rattle.protocol.specs.Searches.{put}
use Rattle.protocol.specs.Statements as said
use Rattle.protocol.specs.Tables.{Page}
use Rattle.protocol_world.specs.Sizes.{NextSized, WordSized}
use Rattle.protocol_bridge.specs.Same.{SamePage, SameWord, same_begun, same_whole, same_ended, SameMail, SameMemory}
use Rattle.protocol_bridge.proofs.Same.{word_trans}
use Rattle.exchange.specs.Mail.{next_number, with_word}
use Rattle.exchange.specs.Words.{as_statement}
use Rattle.exchange.specs.declared.statement.Statement.{Statement}
use Rattle.exchange.specs.declared.statement.Statement.TheVariants as code
use Rattle.gauge.specs.Memory.{at, cells, no_next, me_at, hour_at, filled_at, word_at, word_hour_at, word_next_at, passed_at, due_at, woke_at, sums_at, word_sums_at, word_counts_at}
use Rattle.gauge.specs.Views.{phase_in, next_of, flag_in, page_in, word_of, word_in, mail_in, memory_of}
use Rattle.whole.specs.Seen.{page_of_rows, filled_as_said}
use Rattle.whole.proofs.Cells.{found, here, written_before, written_in, written_behind}
use Rattle.whole.proofs.Parts.{Kept, word_kept, word_same}
use Rattle.whole.proofs.Heads.{phase_by, memory_by, open_kept, said_kept}

next_back : (nx : Option ℕ) → ((n : ℕ) → nx ≡ Some n → n < no_next) → next_of (next_number nx) ≡ nx
next_back None f = refl
next_back (Some n) f = ap (λ b. cond b None (Some n)) (ne_eqb n no_next (λ e. omega (arith, e, f n refl)))

-- A word of machine j comes to m, and n is what it leaves: of the word's cells and pages only those of machine j have changed.
pub record Comes (m n : List ℕ) (j : ℕ) (w : said.Statement) : Type 0 where
  pub long : length n ≡ length m
  pub word : SameWord w (word_in n j)
  pub named : (c : ℕ) → c < word_at → at n c ≡ at m c
  pub others : (i : ℕ) → i < crew → i ≢ j → SameWord (word_in m i) (word_in n i)
  pub mail : (c : ℕ) → passed_at ≤ c → c < word_sums_at → at n c ≡ at m c

-- the words of others are read from other cells
kept_word : (m n : List ℕ) (i : ℕ) → i < crew → at n (word_at + i) ≡ at m (word_at + i) → at n (word_hour_at + i) ≡ at m (word_hour_at + i) →
    at n (word_next_at + i) ≡ at m (word_next_at + i) →
    ((s : ℕ) → s < slots → at n (word_sums_at + slots * i + s) ≡ at m (word_sums_at + slots * i + s)) →
    ((s : ℕ) → s < slots → at n (word_counts_at + slots * i + s) ≡ at m (word_counts_at + slots * i + s)) → SameWord (word_in m i) (word_in n i)
kept_word m n i li t h x ks kc =
    let page : SamePage (page_in m (word_sums_at + slots * i) (word_counts_at + slots * i)) (page_in n (word_sums_at + slots * i) (word_counts_at + slots * i)) =
    record { entries = λ s ls. ap₂ (λ a b. record { sum = a; count = b }) (sym (ks s ls)) (sym (kc s ls)) } in
    let same = word_same (at m (word_at + i)) (at m (word_hour_at + i)) (at m (word_next_at + i)) _ _ page in
    subst (λ v. SameWord (word_in m i) (word_of v (at n (word_hour_at + i)) (at n (word_next_at + i)) (page_in n (word_sums_at + slots * i) (word_counts_at + slots * i)))) (sym t)
    (subst (λ v. SameWord (word_in m i) (word_of (at m (word_at + i)) v (at n (word_next_at + i)) (page_in n (word_sums_at + slots * i) (word_counts_at + slots * i)))) (sym h)
    (subst (λ v. SameWord (word_in m i) (word_of (at m (word_at + i)) (at m (word_hour_at + i)) v (page_in n (word_sums_at + slots * i) (word_counts_at + slots * i)))) (sym x) same))

module _ (m : List ℕ) (len : length m ≡ cells) (j : ℕ) (lj : j < crew) where
  -- a cell of machine j in one of the word's rows is set
  set_other : (l : List ℕ) (a x c : ℕ) → c ≢ a + j → at (set l (a + j) x) c ≡ at l c
  set_other l a x c ne = get_or-set_other l (a + j) c x 0 ne

  begun_comes : (h : ℕ) (page : Page) (bs : List ℕ) → Comes m (with_word m j (code.Begun h) bs) j (as_statement (code.Begun h) page)
  begun_comes h page bs =
      let n = set (set m (word_at + j) 1) (word_hour_at + j) h in
      let t : at n (word_at + j) ≡ 1 = set_other (set m (word_at + j) 1) word_hour_at h (word_at + j) (λ q. omega (arith, q)) ∙ here m (word_at + j) 1 (omega (arith, len)) in
      let r : at n (word_hour_at + j) ≡ h = here (set m (word_at + j) 1) (word_hour_at + j) h (omega (arith, len, length-set m (word_at + j) 1)) in
      let away : (c : ℕ) → c ≢ word_at + j → c ≢ word_hour_at + j → at n c ≡ at m c = λ c a b. set_other (set m (word_at + j) 1) word_hour_at h c b ∙ set_other m word_at 1 c a in
      record {
        long = length-set (set m (word_at + j) 1) (word_hour_at + j) h ∙ length-set m (word_at + j) 1;
        word = subst (λ v. SameWord (said.has_begun h) (word_of v (at n (word_hour_at + j)) (at n (word_next_at + j)) (page_in n (word_sums_at + slots * j) (word_counts_at + slots * j)))) (sym t)
            (subst (λ v. SameWord (said.has_begun h) (said.has_begun v)) (sym r) (same_begun h));
        named = λ c lt. away c (λ q. omega (arith, q)) (λ q. omega (arith, q));
        others = λ i li ne. kept_word m n i li (away (word_at + i) (λ q. ne (omega (arith, q))) (λ q. omega (arith, q))) (away (word_hour_at + i) (λ q. omega (arith, q)) (λ q. ne (omega (arith, q))))
            (away (word_next_at + i) (λ q. omega (arith, q)) (λ q. omega (arith, q))) (λ s ls. away (word_sums_at + slots * i + s) (λ q. omega (arith, q)) (λ q. omega (arith, q)))
            (λ s ls. away (word_counts_at + slots * i + s) (λ q. omega (arith, q)) (λ q. omega (arith, q)));
        mail = λ c le lt. away c (λ q. omega (arith, q)) (λ q. omega (arith, q));
      }

  ended_comes : (page : Page) (bs : List ℕ) → Comes m (with_word m j code.Ended bs) j (as_statement code.Ended page)
  ended_comes page bs =
      let n = set m (word_at + j) 3 in
      let t : at n (word_at + j) ≡ 3 = here m (word_at + j) 3 (omega (arith, len)) in
      let away : (c : ℕ) → c ≢ word_at + j → at n c ≡ at m c = λ c a. set_other m word_at 3 c a in
      record {
        long = length-set m (word_at + j) 3;
        word = subst (λ v. SameWord said.has_ended (word_of v (at n (word_hour_at + j)) (at n (word_next_at + j)) (page_in n (word_sums_at + slots * j) (word_counts_at + slots * j)))) (sym t) same_ended;
        named = λ c lt. away c (λ q. omega (arith, q));
        others = λ i li ne. kept_word m n i li (away (word_at + i) (λ q. ne (omega (arith, q)))) (away (word_hour_at + i) (λ q. omega (arith, q)))
            (away (word_next_at + i) (λ q. omega (arith, q))) (λ s ls. away (word_sums_at + slots * i + s) (λ q. omega (arith, q))) (λ s ls. away (word_counts_at + slots * i + s) (λ q. omega (arith, q)));
        mail = λ c le lt. away c (λ q. omega (arith, q));
      }

  module _ (h : ℕ) (nx : Option ℕ) (bs : List ℕ) (small : (n : ℕ) → nx ≡ Some n → n < no_next) where
    abbrev set_word : List ℕ
    set_word = set (set (set m (word_at + j) 2) (word_hour_at + j) h) (word_next_at + j) (next_number nx)

    abbrev first : List ℕ
    first = written set_word (word_sums_at + slots * j) (page_sums bs)

    abbrev heard : List ℕ
    heard = with_word m j (code.Whole h nx) bs

    word_long : length set_word ≡ cells
    word_long =
        length-set (set (set m (word_at + j) 2) (word_hour_at + j) h) (word_next_at + j) (next_number nx) ∙ length-set (set m (word_at + j) 2) (word_hour_at + j) h
        ∙ length-set m (word_at + j) 2 ∙ len

    sums_room : word_sums_at + slots * j + length (page_sums bs) ≤ length set_word
    sums_room = omega (arith, word_long, length_sums bs)

    first_long : length first ≡ cells
    first_long = length_written set_word (word_sums_at + slots * j) (page_sums bs) sums_room ∙ word_long

    counts_room : word_counts_at + slots * j + length (page_counts bs) ≤ length first
    counts_room = omega (arith, first_long, length_counts bs)

    -- before the pages, in them, and of other machines
    front : (c : ℕ) → c < word_sums_at → at heard c ≡ at set_word c
    front c lt = written_before first (page_counts bs) (word_counts_at + slots * j) counts_room c (omega arith)
        ∙ written_before set_word (page_sums bs) (word_sums_at + slots * j) sums_room c (omega arith)

    sums_now : (s : ℕ) → s < slots → at heard (word_sums_at + slots * j + s) ≡ get_or (page_sums bs) s 0
    sums_now s ls = written_before first (page_counts bs) (word_counts_at + slots * j) counts_room (word_sums_at + slots * j + s) (omega arith)
        ∙ written_in set_word (page_sums bs) (word_sums_at + slots * j) sums_room s (omega (arith, length_sums bs))

    counts_now : (s : ℕ) → s < slots → at heard (word_counts_at + slots * j + s) ≡ get_or (page_counts bs) s 0
    counts_now s ls = written_in first (page_counts bs) (word_counts_at + slots * j) counts_room s (omega (arith, length_counts bs))

    apart : (c : ℕ) → (c < word_sums_at + slots * j) ⊎ (word_sums_at + slots * j + slots ≤ c) → (c < word_counts_at + slots * j) ⊎ (word_counts_at + slots * j + slots ≤ c) →
        at heard c ≡ at set_word c
    apart c a b =
        ⊎_elim (λ l. written_before first (page_counts bs) (word_counts_at + slots * j) counts_room c l)
        (λ g. written_behind first (page_counts bs) (word_counts_at + slots * j) counts_room c (omega (arith, length_counts bs, g))) b
        ∙ ⊎_elim (λ l. written_before set_word (page_sums bs) (word_sums_at + slots * j) sums_room c l)
        (λ g. written_behind set_word (page_sums bs) (word_sums_at + slots * j) sums_room c (omega (arith, length_sums bs, g))) a

    unset : (c : ℕ) → c ≢ word_at + j → c ≢ word_hour_at + j → c ≢ word_next_at + j → at set_word c ≡ at m c
    unset c a b d = set_other (set (set m (word_at + j) 2) (word_hour_at + j) h) word_next_at (next_number nx) c d
        ∙ set_other (set m (word_at + j) 2) word_hour_at h c b ∙ set_other m word_at 2 c a

    tag_now : at heard (word_at + j) ≡ 2
    tag_now = front (word_at + j) (omega arith)
        ∙ set_other (set (set m (word_at + j) 2) (word_hour_at + j) h) word_next_at (next_number nx) (word_at + j) (λ q. omega (arith, q))
        ∙ set_other (set m (word_at + j) 2) word_hour_at h (word_at + j) (λ q. omega (arith, q)) ∙ here m (word_at + j) 2 (omega (arith, len))

    hour_now : at heard (word_hour_at + j) ≡ h
    hour_now = front (word_hour_at + j) (omega arith)
        ∙ set_other (set (set m (word_at + j) 2) (word_hour_at + j) h) word_next_at (next_number nx) (word_hour_at + j) (λ q. omega (arith, q))
        ∙ here (set m (word_at + j) 2) (word_hour_at + j) h (omega (arith, len, length-set m (word_at + j) 2))

    next_now : at heard (word_next_at + j) ≡ next_number nx
    next_now = front (word_next_at + j) (omega arith)
        ∙ here (set (set m (word_at + j) 2) (word_hour_at + j) h) (word_next_at + j) (next_number nx)
        (omega (arith, len, length-set m (word_at + j) 2, length-set (set m (word_at + j) 2) (word_hour_at + j) h))

    page_now : SamePage (page_of_rows (page_sums bs) (page_counts bs)) (page_in heard (word_sums_at + slots * j) (word_counts_at + slots * j))
    page_now = record { entries = λ s ls. ap₂ (λ a b. record { sum = a; count = b }) (sym (sums_now s ls)) (sym (counts_now s ls)) }

    abbrev beside_it : Page
    beside_it = page_in heard (word_sums_at + slots * j) (word_counts_at + slots * j)

    whole_comes : Comes m heard j (as_statement (code.Whole h nx) (page_of_rows (page_sums bs) (page_counts bs)))
    whole_comes = record {
      long = length_written first (word_counts_at + slots * j) (page_counts bs) counts_room ∙ first_long ∙ sym len;
      word = subst (λ v. SameWord (said.is_whole h nx (page_of_rows (page_sums bs) (page_counts bs))) (word_of v (at heard (word_hour_at + j)) (at heard (word_next_at + j)) beside_it)) (sym tag_now)
          (subst (λ v. SameWord (said.is_whole h nx (page_of_rows (page_sums bs) (page_counts bs))) (said.is_whole v (next_of (at heard (word_next_at + j))) beside_it)) (sym hour_now)
          (subst (λ v. SameWord (said.is_whole h nx (page_of_rows (page_sums bs) (page_counts bs))) (said.is_whole h (next_of v) beside_it)) (sym next_now)
          (subst (λ v. SameWord (said.is_whole h nx (page_of_rows (page_sums bs) (page_counts bs))) (said.is_whole h v beside_it)) (sym (next_back nx small))
          (same_whole h nx _ _ page_now))));
      named = λ c lt. front c (omega arith) ∙ unset c (λ q. omega (arith, q)) (λ q. omega (arith, q)) (λ q. omega (arith, q));
      others = λ i li ne. kept_word m heard i li
          (front (word_at + i) (omega arith) ∙ unset (word_at + i) (λ q. ne (omega (arith, q))) (λ q. omega (arith, q)) (λ q. omega (arith, q)))
          (front (word_hour_at + i) (omega arith) ∙ unset (word_hour_at + i) (λ q. omega (arith, q)) (λ q. ne (omega (arith, q))) (λ q. omega (arith, q)))
          (front (word_next_at + i) (omega arith) ∙ unset (word_next_at + i) (λ q. omega (arith, q)) (λ q. omega (arith, q)) (λ q. ne (omega (arith, q))))
          (λ s ls. apart (word_sums_at + slots * i + s) (side word_sums_at i s ls ne) (inl (omega arith))
          ∙ unset (word_sums_at + slots * i + s) (λ q. omega (arith, q)) (λ q. omega (arith, q)) (λ q. omega (arith, q)))
          (λ s ls. apart (word_counts_at + slots * i + s) (inr (omega arith)) (side word_counts_at i s ls ne)
          ∙ unset (word_counts_at + slots * i + s) (λ q. omega (arith, q)) (λ q. omega (arith, q)) (λ q. omega (arith, q)));
      mail = λ c le lt. front c (omega arith) ∙ unset c (λ q. omega (arith, q)) (λ q. omega (arith, q)) (λ q. omega (arith, q));
    }
      where
        -- another machine's page lies on one side
        side : (a i s : ℕ) → s < slots → i ≢ j → (a + slots * i + s < a + slots * j) ⊎ (a + slots * j + slots ≤ a + slots * i + s)
        side a i s ls ne = ⊎_elim (λ (l : i < j). inl (omega (arith, l, ls))) (λ (g : j ≤ i). inr (omega (arith, g, ne))) (cases_lt i j)

-- WHAT IS LEFT of a letter from machine j: what the records' mail is then
put_same : {A : Type 0} (P : A → A → Type 0) (f g : ℕ → A) (j : ℕ) (x : A) → P x (g j) → ((i : ℕ) → i < crew → i ≢ j → P (f i) (g i)) → (i : ℕ) → i < crew →
    P (put f j x i) (g i)
put_same P f g j x here others i li =
    ⊎_elim
    (λ (e : eqb i j ≡ true). subst (λ b. P (pick b x (f i)) (g i)) (sym e) (subst (λ k. P x (g k)) (sym (eqb-true i j e)) here))
    (λ (e : eqb i j ≡ false). subst (λ b. P (pick b x (f i)) (g i)) (sym e) (others i li (λ q. both_ways _ e (eq-eqb i j q))))
    (cases_Bool (eqb i j))

module _ (m w : List ℕ) (j : ℕ) (lj : j < crew) (len : length m ≡ cells) (me : at m me_at < crew) (says : said.Statement) (passed : ℕ) (comes : Comes m w j says) where
  abbrev after : Bool → List ℕ
  after woke = cond woke (set (set w (passed_at + j) passed) (due_at + j) 1) (set w (passed_at + j) passed)

  other : (woke : Bool) (c : ℕ) → c ≢ passed_at + j → c ≢ due_at + j → at (after woke) c ≡ at w c
  other true c a b = get_or-set_other (set w (passed_at + j) passed) (due_at + j) c 1 0 b ∙ get_or-set_other w (passed_at + j) c passed 0 a
  other false c a b = get_or-set_other w (passed_at + j) c passed 0 a

  passed_now : (woke : Bool) → at (after woke) (passed_at + j) ≡ passed
  passed_now true = get_or-set_other (set w (passed_at + j) passed) (due_at + j) (passed_at + j) 1 0 (λ q. omega (arith, q)) ∙ here w (passed_at + j) passed (omega (arith, len, comes.long))
  passed_now false = here w (passed_at + j) passed (omega (arith, len, comes.long))

  due_now : (woke : Bool) → or woke (flag_in m (due_at + j)) ≡ flag_in (after woke) (due_at + j)
  due_now true = ap (λ v. not (eqb v 0)) (sym (here (set w (passed_at + j) passed) (due_at + j) 1 (omega (arith, len, comes.long, length-set w (passed_at + j) passed))))
  due_now false = ap (λ v. not (eqb v 0))
      (sym (get_or-set_other w (passed_at + j) (due_at + j) passed 0 (λ q. omega (arith, q)) ∙ comes.mail (due_at + j) (omega arith) (omega arith)))

  -- a word is not touched by what follows it
  word_after : (woke : Bool) (i : ℕ) → i < crew → SameWord (word_in w i) (word_in (after woke) i)
  word_after woke i li = word_kept w (after woke) i li (λ c le l. other woke c (λ q. omega (arith, q)) (λ q. omega (arith, q)))
      (λ c le l. other woke c (λ q. omega (arith, q)) (λ q. omega (arith, q)))

  abbrev taken : Bool → Memory
  taken woke = protocol.with_letter (memory_of m) j (record { woke = woke; passed = passed; says = says })

  mail : (woke : Bool) → SameMail (taken woke).mail (mail_in (after woke))
  mail woke = record {
    word = put_same SameWord (word_in m) (word_in (after woke)) j says (word_trans _ _ _ comes.word (word_after woke j lj))
        (λ i li ne. word_trans _ _ _ (comes.others i li ne) (word_after woke i li));
    passed = put_same (λ a b. a ≡ b) (λ i. at m (passed_at + i)) (λ i. at (after woke) (passed_at + i)) j passed (sym (passed_now woke))
        (λ i li ne. sym (other woke (passed_at + i) (λ q. ne (omega (arith, q))) (λ q. omega (arith, q)) ∙ comes.mail (passed_at + i) (omega arith) (omega arith)));
    due = put_same (λ a b. a ≡ b) (λ i. flag_in m (due_at + i)) (λ i. flag_in (after woke) (due_at + i)) j (or woke (flag_in m (due_at + j))) (due_now woke)
        (λ i li ne. ap (λ v. not (eqb v 0))
        (sym (other woke (due_at + i) (λ q. omega (arith, q)) (λ q. ne (omega (arith, q))) ∙ comes.mail (due_at + i) (omega arith) (omega arith))));
    woke = λ i li. ap (λ v. not (eqb v 0))
        (sym (other woke (woke_at + i) (λ q. omega (arith, q)) (λ q. omega (arith, q)) ∙ comes.mail (woke_at + i) (omega arith) (omega arith)));
  }

  named : (woke : Bool) (c : ℕ) → c < word_at → at (after woke) c ≡ found [] c (at m c)
  unfolding found
  named woke c lt = other woke c (λ q. omega (arith, q)) (λ q. omega (arith, q)) ∙ comes.named c lt

  tables : (woke : Bool) → Kept sums_at word_sums_at m (after woke)
  tables woke c le lt = other woke c (λ q. omega (arith, q)) (λ q. omega (arith, q)) ∙ comes.mail c (omega arith) lt

  pub heard_memory : (woke : Bool) → SameMemory (taken woke) (memory_of (after woke))
  unfolding found
  heard_memory woke = memory_by [] m (after woke) (named woke) (taken woke) me refl refl refl refl refl refl refl
      (open_kept m (after woke) (named woke hour_at (omega arith)) (tables woke) (taken woke) refl) (mail woke)

  pub heard_phase : (woke : Bool) → phase_in (after woke) ≡ phase_in m
  unfolding found
  heard_phase woke = phase_by [] m (after woke) (named woke)

  pub heard_named : (woke : Bool) (c : ℕ) → c < word_at → at (after woke) c ≡ at m c
  unfolding found
  heard_named woke c lt = named woke c lt

  pub heard_said : (woke : Bool) → filled_as_said m ≡ true → filled_as_said (after woke) ≡ true
  unfolding found
  heard_said woke h = said_kept m (after woke) (named woke filled_at (omega arith)) (tables woke) h

  pub heard_long : (woke : Bool) → length (after woke) ≡ cells
  heard_long true = length-set (set w (passed_at + j) passed) (due_at + j) 1 ∙ length-set w (passed_at + j) passed ∙ comes.long ∙ len
  heard_long false = length-set w (passed_at + j) passed ∙ comes.long ∙ len

-- a word comes, whatever it is
pub word_comes : (m : List ℕ) → length m ≡ cells → (j : ℕ) → j < crew → (s : Statement) (bs : List ℕ) →
    WordSized (as_statement s (page_of_rows (page_sums bs) (page_counts bs))) → Comes m (with_word m j s bs) j (as_statement s (page_of_rows (page_sums bs) (page_counts bs)))
word_comes m len j lj (code.Begun h) bs z = begun_comes m len j lj h (page_of_rows (page_sums bs) (page_counts bs)) bs
word_comes m len j lj (code.Whole h nx) bs z = whole_comes m len j lj h nx bs (λ n e. below n (subst NextSized e z.1))
  where
    below : (n : ℕ) → n < 4611686018427387904 → n < no_next
    below n lt = omega arith
word_comes m len j lj code.Ended bs z = ended_comes m len j lj (page_of_rows (page_sums bs) (page_counts bs)) bs
