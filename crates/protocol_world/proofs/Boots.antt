-- Boot: what each of its acts leaves of a good world.
use Rattle.std.proofs.Common.{◌≡◌, ℕ, suc, ◌+◌, ◌-◌, ◌*◌, ◌/◌, ◌%◌, ◌<◌, ◌≤◌, ◌&&◌, leb, ltb, Some, sym, refl, ap, ◌∙◌, subst, subst₂, ⊎_elim, arith}
use Rattle.std.proofs.lemmas.Bool.{and_from, cases_eq, le-leb, ltb-true, ltb-false}
use Rattle.sums.specs.Sums.{Gauges}
use Rattle.sums.proofs.Picks.{pick_both, pick_true}
use Rattle.protocol.specs.Boot.{rooted, paged, asks_next}
use Rattle.protocol.specs.Limits.{crew, kept_pages}
use Rattle.protocol.specs.Memory.{Memory, with_reader, no_cursor}
use Rattle.protocol.specs.OpenHours.{page_at, with_page_at}
use Rattle.protocol.specs.Phases.{asks_page, asks_cursor, placed, page_is, cursor_is, go, from, recall_page, does}
use Rattle.protocol.specs.Reader.{first_open, reader_at, begun, is_reading, PageSet, no_set, first_set, second_set}
use Rattle.protocol.specs.Tables.{Tables, blank_page, Page}
use Rattle.protocol.proofs.Puts.{page_each}
use Rattle.protocol_world.specs.Worlds.{Node, World, after, reading_from, acted, done}
use Rattle.protocol_world.proofs.Invariant.{ReaderIs, RootIs, MemoryIs, row, Awaits, is_asking_page, is_asking_cursor, is_placed, Own, hours, Knows, Good, Began, root_tables}
use Rattle.protocol_world.proofs.Roots.{root_recalled}
use Rattle.protocol_world.proofs.Changes.{like, no_letter, set_good, own_as, same_drawers}

module _ (gs : Gauges) where
  module _ (w : World) (i : ℕ) (lt : i < crew) (g : Good gs w) where
    abbrev x : Node
    x = w.node i

    abbrev H : ℕ → ℕ
    H = hours gs w

    abbrev o : Own gs w.told i x
    o = g.own i lt

    -- readings are to come from the root's place on
    pub places : (b : Memory) → Knows gs H i b → MemoryIs (row gs i) i x.root x.cursor b → b.reader.pos ≡ x.root.pos →
        Good gs (acted gs w i placed b (from b.reader.pos))
    places b k is e =
        pick_true (leb x.gone b.reader.pos && leb b.reader.pos (x.gone + 4096)) _ _ (Good gs)
        (and_from (leb x.gone b.reader.pos) (leb b.reader.pos (x.gone + 4096)) (le-leb _ _ (omega (arith, o.low))) (le-leb _ _ (omega (arith, o.high))))
        (set_good gs w i lt g (reading_from x placed b b.reader.pos) (same_drawers gs w i lt g _ refl (omega arith) k) no_letter
        (own_as gs w i lt g w.told placed b (Some go) b.reader.pos o.cursor (is_placed is e e)))

    -- a root record comes back, and its pages
    asks_first : Knows gs H i x.memory → x.memory.me ≡ i → x.memory.cursor ≡ no_cursor → (s : PageSet) → (s ≡ no_set → ⊥) → x.root.set ≡ s →
        Good gs (done gs w i (does (asks_page 0) (with_reader x.memory (reader_at x.root)) (recall_page s 0)))
    asks_first k me no_c s some e =
        set_good gs w i lt g (after x (asks_page 0) (with_reader x.memory (reader_at x.root)) (Some (page_is (x.pages s 0))))
        (same_drawers gs w i lt g _ refl (omega arith) (record { words = k.words; passed = k.passed; behind = λ j lj. g.cross.before i j lt lj }))
        (λ _. refl)
        (own_as gs w i lt g w.told (asks_page 0) (with_reader x.memory (reader_at x.root)) (Some (page_is (x.pages s 0))) x.reads_at o.cursor
        (subst (λ o. Awaits gs w.told i (like x (asks_page 0) (with_reader x.memory (reader_at x.root)) (Some (page_is (x.pages s 0))) x.reads_at) (asks_page 0)
        (Some (page_is o))) (sym (ap (λ t. x.pages t 0) (sym e) ∙ o.root.there set 0 (omega arith)))
        (is_asking_page 0 (o.root.page 0) (o.root.there set 0 (omega arith)) me no_c (omega arith) set refl refl refl refl refl (λ j l. absurd (omega arith))
        (λ h j _ _ _. refl))))
      where
        set : x.root.set ≡ no_set → ⊥
        set q = some (sym e ∙ q)

    pub rooted_good : Knows gs H i x.memory → x.memory.me ≡ i → x.memory.cursor ≡ no_cursor → (s : PageSet) → x.root.set ≡ s →
        Good gs (done gs w i (rooted x.memory x.root s))
    rooted_good k me no_c no_set e =
        set_good gs w i lt g (after x asks_cursor (with_reader x.memory (reader_at x.root)) (Some (cursor_is x.cursor)))
        (same_drawers gs w i lt g _ refl (omega arith) (record { words = k.words; passed = k.passed; behind = λ j lj. g.cross.before i j lt lj }))
        (λ _. refl)
        (own_as gs w i lt g w.told asks_cursor (with_reader x.memory (reader_at x.root)) (Some (cursor_is x.cursor)) x.reads_at o.cursor
        (is_asking_cursor me no_c
        (subst (λ s. Began (row gs i) x.root.hour x.root.pos x.root.hour (root_tables (row gs i) o.root.page s x.root.hour)) e o.root.began)
        refl refl refl refl refl))
    rooted_good k me no_c first_set e = asks_first k me no_c first_set (λ q. cc) e
    rooted_good k me no_c second_set e = asks_first k me no_c second_set (λ q. cc) e

    module _ (k : Knows gs H i x.memory) (q : ℕ) (pg : Page) (there : x.pages x.root.set q ≡ Some pg) (me : x.memory.me ≡ i)
        (no_c : x.memory.cursor ≡ no_cursor) (lq : q < kept_pages)
        (some : x.root.set ≡ no_set → ⊥) (st : x.memory.reader.stage ≡ begun x.root.hour) (at : x.memory.reader.pos ≡ x.root.pos)
        (set : x.memory.reader.set ≡ x.root.set) (kp : x.memory.reader.kept ≡ x.root.pos) (bs : x.memory.reader.base ≡ x.root.hour) (same : (j : ℕ) → j < q →
        x.pages x.root.set j ≡ Some (page_at x.memory.reader.tables x.root.hour j))
        (bare : (h j : ℕ) → x.root.hour ≤ h → j < crew → q ≤ crew * (h - x.root.hour) + j → (x.memory.reader.tables h).page j ≡ blank_page) where
      abbrev b₁ : Memory
      b₁ = paged x.memory q pg

      abbrev t₁ : ℕ → ℕ → Tables
      t₁ f = with_page_at x.memory.reader.tables f q pg

      same_here : (j : ℕ) → j < suc q → x.pages x.root.set j ≡ Some (page_at (t₁ x.root.hour) x.root.hour j)
      same_here j lj = page_each x.memory.reader.tables x.root.hour q pg
          (λ h n pg. h ≡ x.root.hour + j / crew → n ≡ j % crew → x.pages x.root.set j ≡ Some pg)
          (λ e₁ e₂. ap (x.pages x.root.set) (omega arith) ∙ there)
          (λ h n ne e₁ e₂. subst₂ (λ h n. x.pages x.root.set j ≡ Some ((x.memory.reader.tables h).page n)) (sym e₁) (sym e₂)
          (same j (⊎_elim
          (λ (e : j ≡ q). absurd (ne (subst (λ m. h ≡ x.root.hour + m / crew) e e₁) (subst (λ m. n ≡ m % crew) e e₂)))
          (λ ne₁. omega arith)
          (cases_eq j q))))
          (x.root.hour + j / crew) (j % crew) refl refl

      bare_here : (h j : ℕ) → x.root.hour ≤ h → j < crew → suc q ≤ crew * (h - x.root.hour) + j → (t₁ x.root.hour h).page j ≡ blank_page
      bare_here = page_each x.memory.reader.tables x.root.hour q pg
          (λ h j pg. x.root.hour ≤ h → j < crew → suc q ≤ crew * (h - x.root.hour) + j → pg ≡ blank_page)
          (λ le lj hi. absurd (omega arith))
          (λ h j ne le lj hi. bare h j le lj (omega arith))

      first : x.root.hour ≡ first_open x.memory.reader.stage
      first = sym (ap first_open st)

      same_now : (j : ℕ) → j < suc q → x.pages x.root.set j ≡ Some (page_at b₁.reader.tables x.root.hour j)
      same_now = subst (λ f. (j : ℕ) → j < suc q → x.pages x.root.set j ≡ Some (page_at (t₁ f) x.root.hour j)) first same_here

      bare_now : (h j : ℕ) → x.root.hour ≤ h → j < crew → suc q ≤ crew * (h - x.root.hour) + j → (b₁.reader.tables h).page j ≡ blank_page
      bare_now = subst (λ f. (h j : ℕ) → x.root.hour ≤ h → j < crew → suc q ≤ crew * (h - x.root.hour) + j → (t₁ f h).page j ≡ blank_page) first bare_here

      pub paged_good : Good gs (done gs w i (asks_next b₁ q))
      paged_good = pick_both (ltb (suc q) kept_pages) _ _ (λ d. Good gs (done gs w i d))
          (λ t. set_good gs w i lt g (after x (asks_page (suc q)) b₁ (Some (page_is (x.pages b₁.reader.set (suc q)))))
          (same_drawers gs w i lt g _ refl (omega arith) (record { words = k.words; passed = k.passed; behind = k.behind })) (λ _. refl)
          (own_as gs w i lt g w.told (asks_page (suc q)) b₁ (Some (page_is (x.pages b₁.reader.set (suc q)))) x.reads_at o.cursor
          (subst (λ o. Awaits gs w.told i (like x (asks_page (suc q)) b₁ (Some (page_is (x.pages b₁.reader.set (suc q)))) x.reads_at) (asks_page (suc q))
          (Some (page_is o))) (sym (ap (λ s. x.pages s (suc q)) set ∙ o.root.there some (suc q) (ltb-true (suc q) kept_pages t)))
          (is_asking_page (suc q) (o.root.page (suc q)) (o.root.there some (suc q) (ltb-true (suc q) kept_pages t)) me no_c
          (ltb-true (suc q) kept_pages t) some st at set kp bs same_now bare_now))))
          (λ t. set_good gs w i lt g (after x asks_cursor b₁ (Some (cursor_is x.cursor)))
          (same_drawers gs w i lt g _ refl (omega arith) (record {
            words = k.words;
            passed = k.passed;
            behind = k.behind;
          })) (λ _. refl)
          (own_as gs w i lt g w.told asks_cursor b₁ (Some (cursor_is x.cursor)) x.reads_at o.cursor
          (is_asking_cursor me no_c
          (subst₂ (λ n s. ReaderIs (row gs i) x.root.hour n b₁.reader.tables s) (sym at) (sym st)
          (root_recalled (row gs i) x.root.set x.pages x.root.hour x.root.pos b₁.reader.tables some
          (λ j lj. same_now j (omega (arith, ltb-false (suc q) kept_pages t)))
          (λ h j le lj hi. bare_now h j le lj (omega (arith, ltb-false (suc q) kept_pages t))) o.root))
          at set kp bs (ap is_reading st))))
