-- A letter is sent: it is read back as what the protocol says, and nothing is due any more to whom it goes.
use Rattle.std.proofs.Common.{◌≡◌, ◌≢◌, ℕ, ◌+◌, ◌<◌, Bool, true, false, cond, not, eqb, List, [], ◌++◌, length, set, replicate, Some, None, Option, refl, sym, ap, ◌∙◌, subst, ⊎_elim, arith}
use Rattle.std.proofs.lemmas.Bool.{eqb-true, eq-eqb, le-leb, and_from, both_ways, cases_Bool}
use Rattle.std.proofs.lemmas.List.{length-set, get_or-set_other}
use Rattle.sums.specs.Digits.{fits}
use Rattle.sums.specs.Pages.{page_bytes, page_sums, page_counts, sum_width, count_width}
use Rattle.sums.specs.Sums.{pick, every}
use Rattle.sums.proofs.Columns.{length_page, sums_back, counts_back}
use Rattle.protocol.specs.Limits.{crew}
use Rattle.protocol.specs.Mail.{letter_to, with_sent}
use Rattle.protocol.specs.Phases as phase
use Rattle.protocol.specs.Phases.{ready}
use Rattle.protocol.specs.Reader.{begun, whole, ended}
use Rattle.protocol.specs.Statements.{said_of}
use Rattle.protocol.specs.Searches.{put}
use Rattle.protocol.specs.Tables.{Page, Tables, blank, page_for}
use Rattle.protocol_world.specs.Sizes.{NextSized, StageSized, OpenSized, PageSized, MemorySized}
use Rattle.protocol_bridge.specs.Same.{SamePage, SameMail, same_begun, same_whole, same_ended, same_letter}
use Rattle.protocol_bridge.specs.Views.{LetterSeen}
use Rattle.machine.specs.Run.{bytes}
use Rattle.exchange.specs.Laws.{NextFits, StatementFits, HeadFits, RowsFit, LetterRoundTrip}
use Rattle.exchange.specs.Letters.{top, head_bytes, letter_bytes}
use Rattle.exchange.specs.Mail as mail_cells
use Rattle.exchange.specs.Mail.{letter_sent, numbers_beside_fit}
use Rattle.exchange.specs.Words.{as_statement}
use Rattle.exchange.specs.declared.statement.Head.{Head}
use Rattle.exchange.specs.declared.statement.Statement.{Statement}
use Rattle.exchange.specs.declared.statement.Statement.TheVariants as code
use Rattle.exchange.proofs.Laws.{letter_round_trip}
use Rattle.exchange.proofs.Reading.{head_back}
use Rattle.gauge.specs.Memory.{at, cells, phase_at, me_at, stage_at, hour_at, next_at, filled_at, cursor_hour_at, word_at, passed_at, due_at, woke_at, page_sums_in, page_counts_in}
use Rattle.gauge.specs.Views.{next_of, flag_in, table_in, tables_in, mail_in, memory_of}
use Rattle.whole.specs.Seen.{page_of_rows, letter_of_head, letter_seen, filled_as_said, own_views}
use Rattle.whole.proofs.Cells.{found, here}
use Rattle.whole.proofs.Parts.{word_kept}
use Rattle.whole.proofs.Heads.{phase_by, memory_by, open_kept, said_kept}
use Rattle.whole.proofs.Bytes.{fit_sums, fit_counts, table_page, long_sums, long_counts}
use Rattle.whole.proofs.Choosing.{Does, phase_ready}

-- WHAT IS SAID, as it is read
abbrev head : Bool → ℕ → Statement → Head
head w p s = record { woke = w; passed = p; statement = s }

-- rows of a page that is beside what is said, if it is
abbrev Beside : Statement → Page → (sums counts : List ℕ) → Type 0
Beside (code.Begun h) p ss cs = Unit {0}
Beside (code.Whole h n) p ss cs = RowsFit ss cs × (page_sums (page_bytes ss cs) ≡ ss) × (page_counts (page_bytes ss cs) ≡ cs) × SamePage p (page_of_rows ss cs)
Beside code.Ended p ss cs = Unit {0}

seen : (w : Bool) (p : ℕ) (s : Statement) (page : List ℕ) → HeadFits (head w p s) → length page ≡ Rattle.exchange.specs.Letters.page_size s →
    numbers_beside_fit s page ≡ true →
    letter_seen (head_bytes (head w p s) ++ page) ≡ Some (record { woke = w; passed = p; says = as_statement s (page_of_rows (page_sums page) (page_counts page)) })
seen w p s page f e fit =
    ap letter_of_head (head_back (head w p s) page f e)
    ∙ ap (λ b. cond b (Some (record { woke = w; passed = p; says = as_statement s (page_of_rows (page_sums page) (page_counts page)) })) None) fit

letter_back : (w : Bool) (p : ℕ) (s : Statement) (page : Page) (ss cs : List ℕ) → HeadFits (head w p s) → Beside s page ss cs →
    LetterSeen own_views (letter_bytes (head w p s) ss cs) (record { woke = w; passed = p; says = as_statement s page })
unfolding letter_bytes
letter_back w p (code.Begun h) page ss cs f k = (_, seen w p (code.Begun h) [] f refl refl, same_letter w p _ _ (same_begun h))
letter_back w p (code.Whole h n) page ss cs f (fit, es, ec, same) = (
  _,
  seen w p (code.Whole h n) (page_bytes ss cs) f (length_page ss cs fit.sums_length fit.counts_length)
      (and_from _ _ (ap (every (fits sum_width)) es ∙ fit.sums) (ap (every (fits count_width)) ec ∙ fit.counts)),
  same_letter w p _ _ (same_whole h n page _ (subst (λ a. SamePage page (page_of_rows a (page_counts (page_bytes ss cs)))) (sym es) (subst (λ a. SamePage page (page_of_rows ss a)) (sym ec) same))),
)
letter_back w p code.Ended page ss cs f k = (_, seen w p code.Ended [] f refl refl, same_letter w p _ _ same_ended)

-- bytes, and few: beside anything but a whole hour the rows do not matter
abbrev none : List ℕ
none = replicate 128 0

none_fit : RowsFit none none
unfolding every
none_fit = record { sums_length = refl; counts_length = refl; sums = refl; counts = refl }

few : (h : Head) (ss cs : List ℕ) → HeadFits h → RowsFit ss cs → bytes (letter_bytes h ss cs) ≡ true
unfolding LetterRoundTrip
few h ss cs f r = let law = letter_round_trip h ss cs f r in and_from _ _ (le-leb _ _ law.0) law.1

letter_few : (w : Bool) (p : ℕ) (s : Statement) (page : Page) (ss cs : List ℕ) → HeadFits (head w p s) → Beside s page ss cs → bytes (letter_bytes (head w p s) ss cs) ≡ true
unfolding letter_bytes
letter_few w p (code.Begun h) page ss cs f k = few (head w p (code.Begun h)) none none f none_fit
letter_few w p (code.Whole h n) page ss cs f k = few (head w p (code.Whole h n)) ss cs f k.0
letter_few w p code.Ended page ss cs f k = few (head w p code.Ended) none none f none_fit

-- WHAT A READER SAYS, by its cells
says : (a b : Bool) (h : ℕ) (nx : Option ℕ) (t : ℕ → Tables) (j : ℕ) →
    said_of (cond a (begun h) (cond b (whole h nx) ended)) t j ≡ as_statement (cond a (code.Begun h) (cond b (code.Whole h nx) code.Ended)) (page_for (t h) j)
says true b h nx t j = refl
says false true h nx t j = refl
says false false h nx t j = refl

next_fits : (nx : Option ℕ) → NextSized nx → NextFits nx
next_fits None z = tt
next_fits (Some n) z = z

module _ (n : List ℕ) (len : length n ≡ cells) (j : ℕ) (lj : j < crew) where
  abbrev ss : List ℕ
  ss = page_sums_in n j

  abbrev cs : List ℕ
  cs = page_counts_in n j

  abbrev own_page : Page
  own_page = page_for (tables_in n (at n hour_at)) j

  page_own : SamePage own_page (page_of_rows ss cs)
  page_own = subst (λ b. SamePage ((cond b (table_in n) blank).page j) (page_of_rows ss cs)) (sym (eq-eqb (at n hour_at) (at n hour_at) refl)) (table_page n len j lj)

  rows : PageSized own_page → RowsFit ss cs
  rows z = record {
    sums_length = long_sums n len j lj;
    counts_length = long_counts n len j lj;
    sums = fit_sums ss cs own_page (long_sums n len j lj) (long_counts n len j lj) page_own z;
    counts = fit_counts ss cs own_page (long_sums n len j lj) (long_counts n len j lj) page_own z;
  }

  fits_as_said : (a b : Bool) → StageSized (cond a (begun (at n hour_at)) (cond b (whole (at n hour_at) (next_of (at n next_at))) ended)) →
      OpenSized (tables_in n) (cond a (begun (at n hour_at)) (cond b (whole (at n hour_at) (next_of (at n next_at))) ended)) →
      StatementFits (cond a (code.Begun (at n hour_at)) (cond b (code.Whole (at n hour_at) (next_of (at n next_at))) code.Ended))
      × Beside (cond a (code.Begun (at n hour_at)) (cond b (code.Whole (at n hour_at) (next_of (at n next_at))) code.Ended)) own_page ss cs
  fits_as_said true b z o = (z, tt)
  fits_as_said false true z o =
      let r = rows (o.0 (at n hour_at) j (omega arith) lj) in (
        (z.0, next_fits (next_of (at n next_at)) z.1),
        (
          r,
          sums_back ss cs r.sums_length r.sums,
          counts_back ss cs r.sums_length r.counts_length r.counts,
          page_own,
        ),
      )
  fits_as_said false false z o = (tt, tt)

  abbrev after : List ℕ
  after = set (set n (due_at + j) 0) (woke_at + j) 0

  other : (c : ℕ) → c ≢ due_at + j → c ≢ woke_at + j → at after c ≡ at n c
  other c ne₁ ne₂ = get_or-set_other (set n (due_at + j) 0) (woke_at + j) c 0 0 ne₂ ∙ get_or-set_other n (due_at + j) c 0 0 ne₁

  named : (c : ℕ) → c < word_at → at after c ≡ found [] c (at n c)
  unfolding found
  named c lt = other c (λ q. omega (arith, q)) (λ q. omega (arith, q))

  -- a flag of each machine, of which that of machine j is put out
  put_out : (a : ℕ) → ((i : ℕ) → i < crew → i ≢ j → at after (a + i) ≡ at n (a + i)) → at after (a + j) ≡ 0 → (i : ℕ) → i < crew →
      put (λ k. flag_in n (a + k)) j false i ≡ flag_in after (a + i)
  put_out a o z i li =
      ⊎_elim
      (λ (e : eqb i j ≡ true). subst (λ b. pick b false (flag_in n (a + i)) ≡ flag_in after (a + i)) (sym e)
      (subst (λ k. false ≡ flag_in after (a + k)) (sym (eqb-true i j e)) (ap (λ v. not (eqb v 0)) (sym z))))
      (λ (e : eqb i j ≡ false). subst (λ b. pick b false (flag_in n (a + i)) ≡ flag_in after (a + i)) (sym e)
      (ap (λ v. not (eqb v 0)) (sym (o i li (λ q. both_ways _ e (eq-eqb i j q))))))
      (cases_Bool (eqb i j))

  mail : SameMail (with_sent (memory_of n) j).mail (mail_in after)
  mail = record {
    word = λ i li. word_kept n after i li (λ c le l. other c (λ q. omega (arith, q)) (λ q. omega (arith, q))) (λ c le l. other c (λ q. omega (arith, q)) (λ q. omega (arith, q)));
    passed = λ i li. sym (other (passed_at + i) (λ q. omega (arith, q)) (λ q. omega (arith, q)));
    due = put_out due_at (λ i li ne. other (due_at + i) (λ q. ne (omega (arith, q))) (λ q. omega (arith, q)))
        (get_or-set_other (set n (due_at + j) 0) (woke_at + j) (due_at + j) 0 0 (λ q. omega (arith, q)) ∙ here n (due_at + j) 0 (omega (arith, len)));
    woke = put_out woke_at (λ i li ne. other (woke_at + i) (λ q. omega (arith, q)) (λ q. ne (omega (arith, q))))
        (here (set n (due_at + j) 0) (woke_at + j) 0 (omega (arith, len, length-set n (due_at + j) 0)));
  }

  module _ (me : at n me_at < crew) (ph : at n phase_at ≡ 6) (said : filled_as_said n ≡ true) (sized : MemorySized (memory_of n)) where
    pub sends_does : Does (phase.does ready (with_sent (memory_of n) j) (phase.sends j (letter_to (memory_of n) j))) (letter_sent n j)
    unfolding found
    sends_does =
        let b = with_sent (memory_of n) j in
        let a₀ = eqb (at n stage_at) 0 in
        let b₀ = eqb (at n stage_at) 1 in
        let both = fits_as_said a₀ b₀ sized.stage sized.pages in
        let w = flag_in n (woke_at + j) in
        let p = at n cursor_hour_at in
        let s = mail_cells.said_of (at n stage_at) (at n hour_at) (at n next_at) in
        let fits : HeadFits (head w p s) = record { passed = sized.hour; statement = both.0 } in
        let e = says a₀ b₀ (at n hour_at) (next_of (at n next_at)) (tables_in n) j in
        record {
          phase = phase_by [] n after named ∙ phase_ready n len me ph said;
          memory = memory_by [] n after named b me refl refl refl refl refl refl refl
              (open_kept n after (named hour_at (omega arith)) (λ c le l. other c (λ q. omega (arith, q)) (λ q. omega (arith, q))) b refl) mail;
          said = said_kept n after (named filled_at (omega arith)) (λ c le l. other c (λ q. omega (arith, q)) (λ q. omega (arith, q))) said;
          act = (
            letter_bytes (head w p s) ss cs,
            refl,
            subst (λ x. LetterSeen own_views (letter_bytes (head w p s) ss cs) (record { woke = w; passed = p; says = x })) (sym e) (letter_back w p s own_page ss cs fits both.1),
            letter_few w p s own_page ss cs fits both.1,
          );
        }
