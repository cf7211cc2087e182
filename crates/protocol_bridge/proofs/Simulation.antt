-- Which given worlds stand for which worlds of records; and one act leaves them so.
use Rattle.std.proofs.Common.{◌≡◌, ℕ, suc, ◌+◌, ◌<◌, ◌≤◌, ◌⊎◌, Bool, true, false, not, ◌&&◌, eqb, leb, ltb, List, [], ◌∷◌, ◌++◌, length, get_or, drop, Some, None, Option, sym, refl, ap, ap₂, ◌∙◌, subst, subst₂, inl, inr, ⊎_elim, arith}
use Rattle.std.proofs.lemmas.Bool.{cases_eq, eqb-true, eqb-false, ne_eqb, and_parts, and_from, and_cases, and_left, and_right, lt-ltb, ltb-true, leb-false}
use Rattle.sums.specs.Parts.{no_reading}
use Rattle.sums.specs.Sums.{Reading, Gauges}
use Rattle.sums.proofs.Picks.{pick_both, pick_true, pick_two}
use Rattle.store.specs.Drawers.{root_drawer, cursor_drawer}
use Rattle.machine.specs.Run.{machine, machine_at, set_nth, nth_row, first_reading, bytes}
use Rattle.machine.specs.Run as given
use Rattle.protocol.specs.Entries.{Entry}
use Rattle.protocol.specs.Limits.{crew, kept_pages}
use Rattle.protocol.specs.Memory.{Cursor, Memory}
use Rattle.protocol.specs.Phases.{Phase, Event, later, at_end, root_is, page_is, cursor_is, go, Act, more, from, let_go, sends, keep_root, keep_page, keep_cursor, recall_root, recall_page, recall_cursor, tells, rests}
use Rattle.protocol.specs.Reader.{PageSet, no_set, same_set, Root}
use Rattle.protocol.specs.Searches.{put}
use Rattle.protocol.specs.Statements.{Letter}
use Rattle.protocol.specs.Tables.{Page}
use Rattle.protocol.proofs.Puts.{put_same, put_other, put₂_each}
use Rattle.protocol_world.specs.Drawers.{page_drawer}
use Rattle.protocol_world.specs.Wall.{sums_told}
use Rattle.protocol_world.specs.Worlds.{Node, World, with_node, faulty, after, reading_from, letting_go, with_root, with_kept_page, with_drawer, acted}
use Rattle.protocol_world.proofs.Wall.{sums_last}
use Rattle.promise.specs.Promise.{texts_between}
use Rattle.promise.proofs.Machines.{at_set_same, at_set_other, length_set_nth}
use Rattle.promise.proofs.Rows.{reading_at}
use Rattle.protocol_bridge.specs.Engines.{Code, DrawerIs, EventIs, ActIs}
use Rattle.protocol_bridge.proofs.Wires.{letter_of, texts_sent, texts_sent_other}
use Rattle.protocol_bridge.proofs.Drawers.{page_past, page_within, pages_apart, row_other, row_same, set_is}

-- the pages that are kept and recalled are those of a set
abbrev pub Handled : Act → Type 0
Handled more = Unit {0}
Handled (from at) = Unit {0}
Handled (let_go g) = Unit {0}
Handled (sends j l) = Unit {0}
Handled (keep_root r) = Unit {0}
Handled (keep_page s q pg) = (s ≡ no_set → ⊥) × (q < kept_pages)
Handled (keep_cursor k) = Unit {0}
Handled recall_root = Unit {0}
Handled (recall_page s q) = (s ≡ no_set → ⊥) × (q < kept_pages)
Handled recall_cursor = Unit {0}
Handled (tells h k s) = Unit {0}
Handled rests = Unit {0}

module _ (c : Code) where
  -- WHAT STANDS FOR WHAT
  abbrev pub PendingIs : Option Event → List given.Event → Type 0
  PendingIs None evs = evs ≡ []
  PendingIs (Some h) evs = (ev : given.Event) × (evs ≡ ev ∷ []) × EventIs c h ev

  pub record NodeIs (x : given.Machine) (y : Node) : Type 0 where
    pub memory : c.memory x.memory y.phase y.memory
    pub pending : PendingIs y.pending x.pending
    pub reads_at : x.reads_at ≡ y.reads_at
    pub gone : x.gone ≡ y.gone
    pub size : length x.slots ≡ 256
    pub root : c.root (nth_row x.slots root_drawer) y.root
    pub pages : (s : PageSet) (q : ℕ) → (s ≡ no_set → ⊥) → q < kept_pages → DrawerIs c (nth_row x.slots (page_drawer s q)) (y.pages s q)
    pub cursor : c.cursor (nth_row x.slots cursor_drawer) y.cursor

  unfoldable pub TextsAre : List (List ℕ) → List Letter → Type 0
  TextsAre [] [] = Unit {0}
  TextsAre [] (l ∷ ls) = ⊥
  TextsAre (t ∷ ts) [] = ⊥
  TextsAre (t ∷ ts) (l ∷ ls) = c.letter t l × TextsAre ts ls

  texts_last : (ts : List (List ℕ)) (ls : List Letter) (t : List ℕ) (l : Letter) → TextsAre ts ls → c.letter t l → TextsAre (ts ++ t ∷ []) (ls ++ l ∷ [])
  unfolding TextsAre
  texts_last [] [] t l h k = (k, tt)
  texts_last [] (x ∷ ls) t l h k = absurd h
  texts_last (x ∷ ts) [] t l h k = absurd h
  texts_last (x ∷ ts) (y ∷ ls) t l h k = (h.0, texts_last ts ls t l h.1 k)

  pub texts_nil : TextsAre [] []
  unfolding TextsAre
  texts_nil = tt

  pub texts_empty : (ls : List Letter) → TextsAre [] ls → ls ≡ []
  unfolding TextsAre
  texts_empty [] h = refl
  texts_empty (l ∷ ls) h = absurd h

  abbrev pub Outside : (a b : ℕ) → Type 0
  Outside a b = (crew ≤ a) ⊎ (crew ≤ b)

  pub record WorldIs (w : given.World) (v : World) : Type 0 where
    pub eight : length w.machines ≡ crew
    pub nodes : (i : ℕ) → i < crew → NodeIs (machine_at w.machines i) (v.node i)
    pub wires : (a b : ℕ) → TextsAre (texts_between a b w.wires) (v.wire a b)
    pub inside : (a b : ℕ) → Outside a b → v.wire a b ≡ []
    pub told : w.told ≡ sums_told v.told
    pub fault : w.fault ≡ v.fault

  pub not_out : (a b : ℕ) → a < crew → b < crew → Outside a b → ⊥
  not_out a b la lb (inl o) = omega arith
  not_out a b la lb (inr o) = omega arith

  pub flip : (a b i j : ℕ) → eqb a i && eqb b j ≡ false → eqb i a && eqb j b ≡ false
  flip a b i j e = ⊎_elim
      (λ q. and_left (eqb i a) (eqb j b) (ne_eqb i a (λ t. eqb-false a i q (sym t))))
      (λ q. and_right (eqb i a) (eqb j b) (ne_eqb j b (λ t. eqb-false b j q (sym t))))
      (and_cases (eqb a i) (eqb b j) e)

  faults : (w : given.World) (v : World) → WorldIs w v → WorldIs (given.faulty w) (faulty v)
  faults w v r = record { eight = r.eight; nodes = r.nodes; wires = r.wires; inside = r.inside; told = r.told; fault = refl }

  and_so : (t u : Bool) → u ≡ true → t && u ≡ t
  and_so true u e = e
  and_so false u e = refl

  -- ONE IS SET
  module _ (w : given.World) (v : World) (r : WorldIs w v) (i : ℕ) (lt : i < crew) where
    abbrev x : given.Machine
    x = machine_at w.machines i

    abbrev y : Node
    y = v.node i

    n : NodeIs x y
    n = r.nodes i lt

    pub set_nodes : (x₁ : given.Machine) (y₁ : Node) → NodeIs x₁ y₁ → (j : ℕ) → j < crew → NodeIs (machine_at (set_nth w.machines i x₁) j) (put v.node i y₁ j)
    set_nodes x₁ y₁ k j lj = ⊎_elim
        (λ (e : i ≡ j). subst (λ m. NodeIs (machine_at (set_nth w.machines i x₁) m) (put v.node i y₁ m)) e
        (subst₂ NodeIs (sym (at_set_same w.machines i x₁ (omega (arith, r.eight)))) (sym (put_same v.node i y₁)) k))
        (λ ne. subst₂ NodeIs (sym (at_set_other w.machines i j x₁ ne)) (sym (put_other v.node i y₁ j (λ q. ne (sym q)))) (r.nodes j lj))
        (cases_eq i j)

    pub set_world : (x₁ : given.Machine) (y₁ : Node) → NodeIs x₁ y₁ → WorldIs (given.with_machine w i x₁) (with_node v i y₁)
    set_world x₁ y₁ k = record {
      eight = length_set_nth w.machines i x₁ ∙ r.eight;
      nodes = set_nodes x₁ y₁ k;
      wires = r.wires;
      inside = r.inside;
      told = r.told;
      fault = r.fault;
    }

    -- the drawers and the gauge's place as they were
    pub node_as : (m : List ℕ) (p : Phase) (b : Memory) → c.memory m p b → (o : Option Event) (evs : List given.Event) → PendingIs o evs →
        NodeIs (machine m evs x.reads_at x.gone x.slots) (after y p b o)
    node_as m p b k o evs q = record {
      memory = k;
      pending = q;
      reads_at = n.reads_at;
      gone = n.gone;
      size = n.size;
      root = n.root;
      pages = n.pages;
      cursor = n.cursor;
    }

    pub goes_next : PendingIs (Some go) (given.next ∷ [])
    goes_next = (given.next, refl, refl)

    module _ (gs : Gauges) (m : List ℕ) (p : Phase) (b : Memory) (k : c.memory m p b) where
      abbrev Acted : Act → given.Act → Type 0
      Acted d a = WorldIs (given.acted gs w i m a) (acted gs v i p b d)

      act_more : Acted more given.more
      unfolding given.acted
      act_more = pick_two (leb (length (nth_row gs i)) x.reads_at) (leb (length (nth_row gs i)) y.reads_at)
          (ap (leb (length (nth_row gs i))) n.reads_at) _ _ _ _ WorldIs
          (λ _. set_world _ _ (node_as m p b k (Some at_end) (given.ends ∷ []) (given.ends, refl, refl)))
          (λ there. let lt_row : y.reads_at < length (nth_row gs i) = leb-false (length (nth_row gs i)) y.reads_at there in
          pick_two (ltb x.reads_at (x.gone + 4096)) (ltb y.reads_at (y.gone + 4096)) (ap₂ (λ a g. ltb a (g + 4096)) n.reads_at n.gone) _ _ _ _ WorldIs
          (λ _. set_world _ _ (record {
            memory = k;
            pending = (
              first_reading (drop x.reads_at (nth_row gs i)),
              refl,
              let rd : Reading = get_or (nth_row gs i) y.reads_at no_reading in
                  subst (λ a. first_reading (drop a (nth_row gs i)) ≡ given.comes rd.time rd.key rd.value) (sym n.reads_at)
                  (reading_at (nth_row gs i) y.reads_at (λ e. e ≡ given.comes rd.time rd.key rd.value) lt_row refl),
            );
            reads_at = ap suc n.reads_at;
            gone = n.gone;
            size = n.size;
            root = n.root;
            pages = n.pages;
            cursor = n.cursor;
          }))
          (λ _. set_world _ _ (node_as m p b k (Some later) (given.later ∷ []) (given.later, refl, refl))))

      act_from : (at : ℕ) → Acted (from at) (given.from at)
      unfolding given.acted
      act_from at = pick_two (leb x.gone at && leb at (x.gone + 4096)) (leb y.gone at && leb at (y.gone + 4096))
          (ap (λ g. leb g at && leb at (g + 4096)) n.gone) _ _ _ _ WorldIs
          (λ _. set_world (machine m (given.next ∷ []) at x.gone x.slots) (reading_from y p b at) (record {
            memory = k;
            pending = goes_next;
            reads_at = refl;
            gone = n.gone;
            size = n.size;
            root = n.root;
            pages = n.pages;
            cursor = n.cursor;
          }))
          (λ _. faults w v r)

      act_let_go : (g : ℕ) → Acted (let_go g) (given.let_go g)
      unfolding given.acted
      act_let_go g = pick_two (leb x.gone g && leb g x.reads_at) (leb y.gone g && leb g y.reads_at)
          (ap₂ (λ a b. leb a g && leb g b) n.gone n.reads_at) _ _ _ _ WorldIs
          (λ _. set_world (machine m (given.next ∷ []) x.reads_at g x.slots) (letting_go y p b g) (record {
            memory = k;
            pending = goes_next;
            reads_at = n.reads_at;
            gone = refl;
            size = n.size;
            root = n.root;
            pages = n.pages;
            cursor = n.cursor;
          }))
          (λ _. faults w v r)

      act_sends : (j : ℕ) (l : Letter) (bs : List ℕ) → c.letter bs l → bytes bs ≡ true → Acted (sends j l) (given.sends j bs)
      unfolding given.acted
      act_sends j l bs is ok = pick_two ((ltb j 8 && not (eqb i j)) && bytes bs) (ltb j crew && not (eqb i j))
          (and_so (ltb j crew && not (eqb i j)) (bytes bs) ok) _ _ _ _ WorldIs
          (λ t. let lj : j < crew = ltb-true j crew (and_parts (ltb j crew) (not (eqb i j)) t).0 in record {
            eight = length_set_nth w.machines i _ ∙ r.eight;
            nodes = set_nodes _ _ (node_as m p b k (Some go) (given.next ∷ []) goes_next);
            wires = put₂_each v.wire i j (v.wire i j ++ l ∷ []) (λ a b ls. TextsAre (texts_between a b (w.wires ++ letter_of i j bs ∷ [])) ls)
                (subst (λ ts. TextsAre ts (v.wire i j ++ l ∷ [])) (sym (texts_sent i j bs w.wires))
                (texts_last (texts_between i j w.wires) (v.wire i j) bs l (r.wires i j) is))
                (λ a b ne. subst (λ ts. TextsAre ts (v.wire a b)) (sym (texts_sent_other i j bs a b (flip a b i j ne) w.wires)) (r.wires a b));
            inside = put₂_each v.wire i j (v.wire i j ++ l ∷ []) (λ a b ls. Outside a b → ls ≡ []) (λ out. absurd (not_out i j lt lj out))
                (λ a b _. r.inside a b);
            told = r.told;
            fault = r.fault;
          })
          (λ _. faults w v r)

      act_root : (q : Root) (bs : List ℕ) → c.root bs q → bytes bs ≡ true → Acted (keep_root q) (given.keep root_drawer bs)
      unfolding given.acted
      act_root q bs is ok = pick_true (bytes bs) _ _ (λ u. WorldIs u (acted gs v i p b (keep_root q))) ok
          (set_world (machine m (given.next ∷ []) x.reads_at x.gone (set_nth x.slots root_drawer bs)) (with_root y p b q) (record {
            memory = k;
            pending = goes_next;
            reads_at = n.reads_at;
            gone = n.gone;
            size = length_set_nth x.slots root_drawer bs ∙ n.size;
            root = subst (λ t. c.root t q) (sym (row_same x.slots root_drawer bs (omega (arith, n.size)))) is;
            pages = λ s k some lk. subst (λ t. DrawerIs c t (y.pages s k))
                (sym (row_other x.slots root_drawer (page_drawer s k) bs (λ e. page_past s k lk (omega arith)))) (n.pages s k some lk);
            cursor = subst (λ t. c.cursor t y.cursor) (sym (row_other x.slots root_drawer cursor_drawer bs (λ e. absurd (omega (arith, e))))) n.cursor;
          }))

      act_cursor : (q : Cursor) (bs : List ℕ) → c.cursor bs q → bytes bs ≡ true → Acted (keep_cursor q) (given.keep cursor_drawer bs)
      unfolding given.acted
      act_cursor q bs is ok = pick_true (bytes bs) _ _ (λ u. WorldIs u (acted gs v i p b (keep_cursor q))) ok
          (set_world (machine m (given.next ∷ []) x.reads_at x.gone (set_nth x.slots cursor_drawer bs)) (with_drawer y p b q) (record {
            memory = k;
            pending = goes_next;
            reads_at = n.reads_at;
            gone = n.gone;
            size = length_set_nth x.slots cursor_drawer bs ∙ n.size;
            root = subst (λ t. c.root t y.root) (sym (row_other x.slots cursor_drawer root_drawer bs (λ e. absurd (omega (arith, e))))) n.root;
            pages = λ s k some lk. subst (λ t. DrawerIs c t (y.pages s k))
                (sym (row_other x.slots cursor_drawer (page_drawer s k) bs (λ e. page_past s k lk (omega arith)))) (n.pages s k some lk);
            cursor = subst (λ t. c.cursor t q) (sym (row_same x.slots cursor_drawer bs (omega (arith, n.size)))) is;
          }))

      act_page : (s : PageSet) (q : ℕ) (pg : Page) (bs : List ℕ) → (s ≡ no_set → ⊥) → q < kept_pages → c.page bs pg → bytes bs ≡ true →
          Acted (keep_page s q pg) (given.keep (page_drawer s q) bs)
      unfolding given.acted
      act_page s q pg bs some lq is ok = pick_true (ltb (page_drawer s q) 256 && bytes bs) _ _ (λ u. WorldIs u (acted gs v i p b (keep_page s q pg)))
          (and_from (ltb (page_drawer s q) 256) (bytes bs) (lt-ltb (page_drawer s q) 256 (page_within s q lq)) ok)
          (set_world (machine m (given.next ∷ []) x.reads_at x.gone (set_nth x.slots (page_drawer s q) bs)) (with_kept_page y p b s q pg) (record {
            memory = k;
            pending = goes_next;
            reads_at = n.reads_at;
            gone = n.gone;
            size = length_set_nth x.slots (page_drawer s q) bs ∙ n.size;
            root = subst (λ t. c.root t y.root) (sym (row_other x.slots (page_drawer s q) root_drawer bs (λ e. page_past s q lq (omega arith)))) n.root;
            pages = λ t j some₁ lj. pick_both (same_set t s && eqb j q) (Some pg) (y.pages t j)
                (λ u. DrawerIs c (nth_row (set_nth x.slots (page_drawer s q) bs) (page_drawer t j)) u)
                (λ e. let both = and_parts (same_set t s) (eqb j q) e in
                subst (λ d. c.page (nth_row (set_nth x.slots (page_drawer s q) bs) d) pg) (sym (ap₂ page_drawer (set_is t s both.0) (eqb-true j q both.1)))
                (subst (λ u. c.page u pg) (sym (row_same x.slots (page_drawer s q) bs (omega (arith, page_within s q lq, n.size)))) is))
                (λ e. subst (λ u. DrawerIs c u (y.pages t j)) (sym (row_other x.slots (page_drawer s q) (page_drawer t j) bs
                (pages_apart t s j q some₁ some lj lq e))) (n.pages t j some₁ lj));
            cursor = subst (λ t. c.cursor t y.cursor) (sym (row_other x.slots (page_drawer s q) cursor_drawer bs
                (λ e. page_past s q lq (omega arith)))) n.cursor;
          }))

      act_tells : (h q : ℕ) (s : Entry) → Acted (tells h q s) (given.tells h q s.sum)
      unfolding given.acted
      act_tells h q s = record {
        eight = length_set_nth w.machines i _ ∙ r.eight;
        nodes = set_nodes _ _ (node_as m p b k (Some go) (given.next ∷ []) goes_next);
        wires = r.wires;
        inside = r.inside;
        told = ap (λ ts. ts ++ record { hour = h; place = q; sum = s.sum } ∷ []) r.told
            ∙ sym (sums_last v.told (record { hour = h; place = q; entry = s }));
        fault = r.fault;
      }

      pub acts_so : (d : Act) (a : given.Act) → Handled d → ActIs c d a → Acted d a
      unfolding given.acted
      acts_so more a ok e = subst (Acted more) (sym e) act_more
      acts_so (from at) a ok e = subst (Acted (from at)) (sym e) (act_from at)
      acts_so (let_go g) a ok e = subst (Acted (let_go g)) (sym e) (act_let_go g)
      acts_so (sends j l) a ok e = subst (Acted (sends j l)) (sym e.1) (act_sends j l e.0 e.2 e.3)
      acts_so (keep_root q) a ok e = subst (Acted (keep_root q)) (sym e.1) (act_root q e.0 e.2 e.3)
      acts_so (keep_page s q pg) a ok e = subst (Acted (keep_page s q pg)) (sym e.1) (act_page s q pg e.0 ok.0 ok.1 e.2 e.3)
      acts_so (keep_cursor q) a ok e = subst (Acted (keep_cursor q)) (sym e.1) (act_cursor q e.0 e.2 e.3)
      acts_so recall_root a ok e = subst (Acted recall_root) (sym e)
          (set_world _ _ (node_as m p b k (Some (root_is y.root)) _ (
            given.slot (nth_row x.slots root_drawer),
            refl,
            (nth_row x.slots root_drawer, refl, n.root),
          )))
      acts_so (recall_page s q) a ok e = subst (Acted (recall_page s q)) (sym e)
          (pick_true (ltb (page_drawer s q) 256) _ _ (λ u. WorldIs u (acted gs v i p b (recall_page s q))) (lt-ltb (page_drawer s q) 256 (page_within s q ok.1))
          (set_world _ _ (node_as m p b k (Some (page_is (y.pages s q))) _ (
            given.slot (nth_row x.slots (page_drawer s q)),
            refl,
            (nth_row x.slots (page_drawer s q), refl, n.pages s q ok.0 ok.1),
          ))))
      acts_so recall_cursor a ok e = subst (Acted recall_cursor) (sym e)
          (set_world _ _ (node_as m p b k (Some (cursor_is y.cursor)) _ (
            given.slot (nth_row x.slots cursor_drawer),
            refl,
            (nth_row x.slots cursor_drawer, refl, n.cursor),
          )))
      acts_so (tells h q s) a ok e = subst (Acted (tells h q s)) (sym e) (act_tells h q s)
      acts_so rests a ok e = subst (Acted rests) (sym e) (set_world _ _ (node_as m p b k None [] refl))
