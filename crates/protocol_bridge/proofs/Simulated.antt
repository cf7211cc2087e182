-- With an engine that implements the machine of records, whatever happens to the given world happens to the world of records.
use Rattle.std.proofs.Common.{◌≡◌, ℕ, zero, suc, ◌<◌, ◌≤◌, ◌⊎◌, not, ◌&&◌, eqb, ltb, List, [], ◌∷◌, ◌++◌, length, Some, None, Option, sym, refl, ap, ap₂, ◌∙◌, subst, subst₂, inl, inr, ⊎_elim, arith}
use Rattle.std.proofs.lemmas.Bool.{cases_eq, eqb-false, ne_eqb, and_parts, ltb-true, ltb-false, and_cases}
use Rattle.sums.specs.Sums.{pick, or, those, none_of, Gauges}
use Rattle.sums.proofs.Picks.{pick_both, pick_two}
use Rattle.store.specs.Drawers.{root_drawer, cursor_drawer}
use Rattle.machine.specs.Run.{Engine, machine, machine_at, set_nth, nth_row, first_between, without_first, touches, up_to}
use Rattle.machine.specs.Run as given
use Rattle.protocol.specs.Limits.{crew}
use Rattle.protocol.specs.Phases.{Event, letter, go, Reaction}
use Rattle.protocol.specs.Reader.{blank_root}
use Rattle.protocol.specs.Statements.{Letter}
use Rattle.protocol.specs.Step.{reacts}
use Rattle.protocol.proofs.Puts.{put₂_each}
use Rattle.protocol_world.specs.Drawers.{page_drawer}
use Rattle.protocol_world.specs.Runs.{with_bringing, waking, goes, poked, poked_by, delivered, brought, fallen, happened, all_happened, by_each, round, calm}
use Rattle.protocol_world.specs.Sizes.{Sized}
use Rattle.protocol_world.specs.Worlds.{Node, World, done, told_next, one_step, new_world}
use Rattle.protocol_world.proofs.Induction.{Keeps, goes_good, happened_good}
use Rattle.protocol_world.proofs.Wall.{sums_none}
use Rattle.promise.specs.Promise.{InOrder, texts_between}
use Rattle.promise.proofs.Laws.{in_order}
use Rattle.promise.proofs.Machines.{length_set_nth, machine_past, set_past}
use Rattle.promise.proofs.Start.{numbered_at, length_numbered, length_so_many}
use Rattle.protocol_bridge.specs.Engines.{Code, Implements}
use Rattle.protocol_bridge.proofs.Simulation.{Handled, PendingIs, NodeIs, TextsAre, WorldIs, Outside, not_out, set_world, set_nodes, node_as, goes_next, acts_so, texts_empty, texts_nil}
use Rattle.protocol_bridge.proofs.Wires.{first_says, FirstSays, texts_fallen, texts_gone, texts_none, or_none}

-- one of a list
data Among : ℕ → List ℕ → Type 0 where
  here : {i : ℕ} {is : List ℕ} → Among i (i ∷ is)
  further : {i j : ℕ} {is : List ℕ} → Among i is → Among i (j ∷ is)

among_split : (i n : ℕ) (is : List ℕ) → Among i (is ++ n ∷ []) → Among i is ⊎ (i ≡ n)
among_split i n [] here = inr refl
among_split i n [] (further a) = elim a [ ]
among_split i n (j ∷ is) here = inl here
among_split i n (j ∷ is) (further a) = ⊎_elim (λ q. inl (further q)) (λ q. inr q) (among_split i n is a)

among_below : (n i : ℕ) → Among i (up_to n) → i < n
unfolding up_to
among_below zero i a = elim a [ ]
among_below (suc n) i a = ⊎_elim (λ q. let l : i < n = among_below n i q in omega arith) (λ q. omega arith) (among_split i n (up_to n) a)

up_to_below : (i : ℕ) → Among i (up_to crew) → i < crew
up_to_below i a = among_below crew i a

blank_row : (n s : ℕ) → nth_row (given.so_many_of {A = List ℕ} n []) s ≡ []
unfolding nth_row given.so_many_of
blank_row zero s = refl
blank_row (suc n) zero = refl
blank_row (suc n) (suc s) = blank_row n s

module _ (c : Code) (e : Engine) (imp : Implements c e) (gs : Gauges) (Inv : World → Type 0) (keeps : Keeps gs Inv)
    (fits : (v : World) → Inv v → (i : ℕ) → i < crew → (h : Event) → (v.node i).pending ≡ Some h → Sized (v.node i).phase (v.node i).memory h)
    (handled : (v : World) → Inv v → (i : ℕ) → i < crew → (h : Event) → (v.node i).pending ≡ Some h →
    Handled (reacts (v.node i).phase (v.node i).memory h).act) where
  abbrev Is : given.World → World → Type 0
  Is w v = WorldIs c w v

  module _ (w : given.World) (v : World) (r : Is w v) where
    -- A STEP
    module _ (i : ℕ) (lt : i < crew) where
      abbrev x : given.Machine
      x = machine_at w.machines i

      abbrev y : Node
      y = v.node i

      abbrev n : NodeIs c x y
      n = r.nodes i lt

      step_on : Inv v → (o : Option Event) → y.pending ≡ o → (evs : List given.Event) → PendingIs c o evs →
          Is (given.one_step e gs w i evs) (told_next gs v i y.phase o)
      unfolding given.one_step
      step_on h None q evs p = subst (λ l. Is (given.one_step e gs w i l) v) (sym p) r
      step_on h (Some k) q evs p =
          let ev : given.Event = p.0 in
          let d : Reaction = reacts y.phase y.memory k in
          let ok : Sized y.phase y.memory k = fits v h i lt k q in
          subst (λ l. Is (given.one_step e gs w i l) (done gs v i d)) (sym p.1)
          (acts_so c w v r i lt gs (e.step x.memory ev).memory d.phase d.memory (imp.memory x.memory y.phase y.memory k ev n.memory p.2 ok)
          d.act (e.step x.memory ev).act (handled v h i lt k q) (imp.act x.memory y.phase y.memory k ev n.memory p.2 ok))

      pub step_is : Inv v → Is (given.one_step e gs w i x.pending) (one_step gs v i)
      step_is h = step_on h y.pending refl x.pending n.pending

      -- A POKE
      poke_on : (o : Option Event) → (evs : List given.Event) → PendingIs c o evs →
          Is (pick (none_of evs) (given.with_machine w i (machine x.memory (given.next ∷ []) x.reads_at x.gone x.slots)) w) (poked_by v i o)
      unfolding none_of
      poke_on None evs p = subst (λ l. Is (pick (none_of l) (given.with_machine w i (machine x.memory (given.next ∷ []) x.reads_at x.gone x.slots)) w)
          (poked_by v i None)) (sym p)
          (set_world c w v r i lt _ _ (node_as c w v r i lt x.memory y.phase y.memory n.memory (Some go) _ (goes_next c w v r i lt)))
      poke_on (Some h) evs p = subst (λ l. Is (pick (none_of l) (given.with_machine w i (machine x.memory (given.next ∷ []) x.reads_at x.gone x.slots)) w) v)
          (sym p.1) r

      pub poke_is : Is (given.poked w i) (poked v i)
      poke_is = poke_on y.pending x.pending n.pending

      -- A LETTER
      module _ (a : ℕ) (la : a < crew) where
        bring_one : (k : given.Letter) (ks : List given.Letter) (l : Letter) (ls : List Letter) → c.letter k.text l →
            TextsAre c (texts_between a i (without_first a i w.wires)) ls →
            Is (given.given w a i (k ∷ ks)) (with_bringing v a i l ls)
        unfolding given.given InOrder
        bring_one k ks l ls is rest = record {
          eight = length_set_nth w.machines i _ ∙ r.eight;
          nodes = set_nodes c w v r i lt _ _ (node_as c w v r i lt x.memory y.phase y.memory n.memory (Some (letter a l)) _ (
            given.letter a k.text,
            refl,
            (k.text, refl, is),
          ));
          wires = put₂_each v.wire a i ls (λ b d ms. TextsAre c (texts_between b d (without_first a i w.wires)) ms) rest
              (λ b d ne. subst (λ ts. TextsAre c ts (v.wire b d)) (sym ((in_order a i b d w.wires).1 ne)) (r.wires b d));
          inside = put₂_each v.wire a i ls (λ b d ms. Outside c b d → ms ≡ []) (λ out. absurd (not_out c a i la lt out)) (λ b d _. r.inside b d);
          told = r.told;
          fault = r.fault;
        }

        bring_texts : (k : given.Letter) (ks : List given.Letter) (ls : List Letter) → TextsAre c (k.text ∷ texts_between a i (without_first a i w.wires)) ls →
            Is (given.given w a i (k ∷ ks)) (brought v a i None ls)
        unfolding TextsAre
        bring_texts k ks [] t = absurd t
        bring_texts k ks (l ∷ ls) t = bring_one k ks l ls t.0 t.1

        bring_first : (fb : List given.Letter) → FirstSays a i w.wires fb → (ls : List Letter) → TextsAre c (texts_between a i w.wires) ls →
            Is (given.given w a i fb) (brought v a i None ls)
        unfolding given.given
        bring_first [] f ls t =
            let none : ls ≡ [] = texts_empty c ls (subst (λ ts. TextsAre c ts ls) f t) in
            subst (λ l. Is w (brought v a i None l)) (sym none) r
        bring_first (k ∷ ks) f ls t = bring_texts k ks ls (subst (λ ts. TextsAre c ts ls) f t)

        deliver_on : (o : Option Event) → (evs : List given.Event) → PendingIs c o evs →
            Is (pick (none_of evs) (given.given w a i (first_between a i w.wires)) w) (brought v a i o (v.wire a i))
        unfolding none_of
        deliver_on None evs p = subst (λ l. Is (pick (none_of l) (given.given w a i (first_between a i w.wires)) w) (brought v a i None (v.wire a i))) (sym p)
            (bring_first (first_between a i w.wires) (first_says a i w.wires) (v.wire a i) (r.wires a i))
        deliver_on (Some h) evs p = subst (λ l. Is (pick (none_of l) (given.given w a i (first_between a i w.wires)) w) v) (sym p.1) r

        pub deliver_is : Is (given.delivered w a i) (delivered v a i)
        deliver_is = deliver_on y.pending x.pending n.pending

    -- NOTHING HAPPENS PAST THE LAST
    no_letters : (a b : ℕ) → Outside c a b → (fb : List given.Letter) → FirstSays a b w.wires fb → Is (given.given w a b fb) v
    unfolding given.given TextsAre
    no_letters a b out [] f = r
    no_letters a b out (k ∷ ks) f = absurd (no_text (subst₂ (TextsAre c) f (r.inside a b out) (r.wires a b)))
      where
        no_text : TextsAre c (k.text ∷ texts_between a b (without_first a b w.wires)) [] → ⊥
        no_text t = t

    pub deliver_past : (a b : ℕ) → Outside c a b → Is (given.delivered w a b) v
    deliver_past a b out = pick_both (none_of (machine_at w.machines b).pending) _ _ (λ u. Is u v)
        (λ _. no_letters a b out (first_between a b w.wires) (first_says a b w.wires)) (λ _. r)

    past : (i : ℕ) → crew ≤ i → (x : given.Machine) → given.with_machine w i x ≡ w
    past i le x = ap (λ ms. record { machines = ms; wires = w.wires; told = w.told; fault = w.fault }) (set_past w.machines i x (omega (arith, r.eight)))

    pub poke_past : (i : ℕ) → crew ≤ i → Is (given.poked w i) v
    poke_past i le = pick_both (none_of (machine_at w.machines i).pending) _ _ (λ u. Is u v) (λ _. subst (λ u. Is u v) (sym (past i le _)) r) (λ _. r)

    -- A FALL
    fall_wires : (i a b : ℕ) → TextsAre c (texts_between a b (those (λ l. not (touches i l)) w.wires)) (pick (or (eqb a i) (eqb b i)) [] (v.wire a b))
    fall_wires i a b = pick_both (or (eqb a i) (eqb b i)) [] (v.wire a b) (TextsAre c (texts_between a b (those (λ l. not (touches i l)) w.wires)))
        (λ t. subst (λ ts. TextsAre c ts []) (sym (texts_gone i a b t w.wires)) (texts_nil c))
        (λ t. let both = or_none (eqb a i) (eqb b i) t in
        subst (λ ts. TextsAre c ts (v.wire a b)) (sym (texts_fallen i a b (eqb-false a i both.0) (eqb-false b i both.1) w.wires)) (r.wires a b))

    pub fall_is : (i : ℕ) → i < crew → Is (given.fallen e w i) (fallen v i)
    fall_is i lt =
        let n = r.nodes i lt in
        record {
          eight = length_set_nth w.machines i _ ∙ r.eight;
          nodes = set_nodes c w v r i lt _ (waking (v.node i) i) (record {
            memory = imp.start;
            pending = (given.wakes i, refl, refl);
            reads_at = n.gone;
            gone = n.gone;
            size = n.size;
            root = n.root;
            pages = n.pages;
            cursor = n.cursor;
          });
          wires = fall_wires i;
          inside = λ a b out. pick_both (or (eqb a i) (eqb b i)) [] (v.wire a b) (λ ls. ls ≡ []) (λ _. refl) (λ _. r.inside a b out);
          told = r.told;
          fault = r.fault;
        }

    pub fall_past : (i : ℕ) → crew ≤ i → Is (given.fallen e w i) v
    fall_past i le =
        let same : set_nth w.machines i (machine e.start (given.wakes i ∷ []) (machine_at w.machines i).gone (machine_at w.machines i).gone
        (machine_at w.machines i).slots) ≡ w.machines =
        set_past w.machines i _ (omega (arith, r.eight)) in
        record {
          eight = ap length same ∙ r.eight;
          nodes = λ j lj. subst (λ ms. NodeIs c (machine_at ms j) (v.node j)) (sym same) (r.nodes j lj);
          wires = λ a b. subst (TextsAre c (texts_between a b (those (λ l. not (touches i l)) w.wires))) (others a b (cases_eq a i) (cases_eq b i))
              (fall_wires i a b);
          inside = r.inside;
          told = r.told;
          fault = r.fault;
        }
      where
        others : (a b : ℕ) → (a ≡ i) ⊎ (a ≡ i → ⊥) → (b ≡ i) ⊎ (b ≡ i → ⊥) → pick (or (eqb a i) (eqb b i)) [] (v.wire a b) ≡ v.wire a b
        others a b (inl q) k = pick_both (or (eqb a i) (eqb b i)) [] (v.wire a b) (λ ls. ls ≡ v.wire a b) (λ _. sym (r.inside a b (inl (omega arith))))
            (λ _. refl)
        others a b (inr na) (inl q) = pick_both (or (eqb a i) (eqb b i)) [] (v.wire a b) (λ ls. ls ≡ v.wire a b) (λ _. sym (r.inside a b (inr (omega arith))))
            (λ _. refl)
        others a b (inr na) (inr nb) = ap₂ (λ s t. pick (or s t) [] (v.wire a b)) (ne_eqb a i na) (ne_eqb b i nb)

  -- RUNS
  goes_is : (n : ℕ) (w : given.World) (v : World) → Is w v → Inv v → (i : ℕ) → i < crew → Is (given.goes n e gs w i) (goes n gs v i)
  unfolding given.goes goes
  goes_is zero w v r h i lt = r
  goes_is (suc n) w v r h i lt = pick_two w.fault v.fault r.fault _ _ _ _ Is (λ _. r) (λ _. goes_is n _ _ (step_is w v r i lt h) (keeps.steps v i lt h) i lt)

  goes_past : (n : ℕ) (w : given.World) (v : World) → Is w v → (i : ℕ) → crew ≤ i → given.goes n e gs w i ≡ w
  unfolding given.goes given.one_step
  goes_past zero w v r i le = refl
  goes_past (suc n) w v r i le = pick_both w.fault w _ (λ u. u ≡ w) (λ _. refl)
      (λ _. let none : (machine_at w.machines i).pending ≡ [] = ap (λ (x : given.Machine). x.pending) (machine_past w.machines i (omega (arith, r.eight))) in
      ap (λ l. given.goes n e gs (given.one_step e gs w i l) i) none ∙ goes_past n w v r i le)

  guarded : (i : ℕ) (u : given.World) (v₁ v : World) → (i < crew → Is u v₁) → (crew ≤ i → Is u v) → Is u (pick (ltb i crew) v₁ v)
  guarded i u v₁ v f g = pick_both (ltb i crew) v₁ v (Is u) (λ t. f (ltb-true i crew t)) (λ t. g (ltb-false i crew t))

  pub happened_is : (w : given.World) (v : World) → Is w v → Inv v → (it : given.Item) → Is (given.happened e gs w it) (happened gs v it)
  unfolding given.happened happened
  happened_is w v r h (given.works i n) = guarded i _ _ _ (λ lt. goes_is n w v r h i lt) (λ le. subst (λ u. Is u v) (sym (goes_past n w v r i le)) r)
  happened_is w v r h (given.poke i) = guarded i _ _ _ (λ lt. poke_is w v r i lt) (λ le. poke_past w v r i le)
  happened_is w v r h (given.brings i j) = pick_both (ltb i crew && ltb j crew) (delivered v i j) v (Is (given.delivered w i j))
      (λ t. let both = and_parts (ltb i crew) (ltb j crew) t in deliver_is w v r j (ltb-true j crew both.1) i (ltb-true i crew both.0))
      (λ t. deliver_past w v r i j (⊎_elim (λ q. inl (ltb-false i crew q)) (λ q. inr (ltb-false j crew q)) (and_cases (ltb i crew) (ltb j crew) t)))
  happened_is w v r h (given.falls i) = guarded i _ _ _ (λ lt. fall_is w v r i lt) (λ le. fall_past w v r i le)

  pub all_is : (is : List given.Item) (w : given.World) (v : World) → Is w v → Inv v → Is (given.all_happened e gs w is) (all_happened gs v is)
  unfolding given.all_happened all_happened
  all_is [] w v r h = r
  all_is (it ∷ is) w v r h = all_is is _ _ (happened_is w v r h it) (happened_good gs Inv keeps v it h)

  -- turn after turn
  record Both (w : given.World) (v : World) : Type 0 where
    is : Is w v
    inv : Inv v

  each_is : (f : given.World → ℕ → given.World) (g : World → ℕ → World) → ((w : given.World) (v : World) (i : ℕ) → i < crew → Both w v → Both (f w i) (g v i)) →
      (is : List ℕ) → ((i : ℕ) → Among i is → i < crew) → (w : given.World) (v : World) → Both w v → Both (given.by_each f w is) (by_each g v is)
  unfolding given.by_each by_each
  each_is f g step [] in_crew w v b = b
  each_is f g step (i ∷ is) in_crew w v b = each_is f g step is (λ j a. in_crew j (further a)) (f w i) (g v i) (step w v i (in_crew i here) b)

  round_is : (n : ℕ) (w : given.World) (v : World) → Both w v → Both (given.round n e gs w) (round n gs v)
  round_is n w v b =
      each_is _ _ (λ w v j lj b. each_is _ _ (λ w v i li b.
      record {
        is = goes_is n _ _ (deliver_is w v b.is j lj i li) (keeps.delivers v i j li lj b.inv) j lj;
        inv = goes_good gs Inv keeps n _ j lj (keeps.delivers v i j li lj b.inv);
      })
      (up_to crew) up_to_below w v b) (up_to crew) up_to_below _ _
      (each_is _ _ (λ w v i li b. record {
        is = goes_is n _ _ (poke_is w v b.is i li) (keeps.pokes v i li b.inv) i li;
        inv = goes_good gs Inv keeps n _ i li (keeps.pokes v i li b.inv);
      })
      (up_to crew) up_to_below w v b)

  calm_both : (k n : ℕ) (w : given.World) (v : World) → Both w v → Both (given.calm k n e gs w) (calm k n gs v)
  unfolding given.calm calm
  calm_both zero n w v b = b
  calm_both (suc k) n w v b = calm_both k n _ _ (round_is n w v b)

  pub calm_is : (k n : ℕ) (w : given.World) (v : World) → Is w v → Inv v → Is (given.calm k n e gs w) (calm k n gs v)
  calm_is k n w v r h = (calm_both k n w v (record { is = r; inv = h })).is

  -- THE START
  pub start_is : Is (given.new_world e) new_world
  start_is = record {
    eight = length_numbered e 8;
    nodes = λ i lt. subst (λ (x : given.Machine). NodeIs c x (new_world.node i)) (sym (numbered_at e 8 i lt)) (record {
      memory = imp.start;
      pending = (given.wakes i, refl, refl);
      reads_at = refl;
      gone = refl;
      size = length_so_many 256 [];
      root = subst (λ bs. c.root bs (blank_root 0)) (sym (blank_row 256 root_drawer)) imp.empty_root;
      pages = λ s q _ _. blank_row 256 (page_drawer s q);
      cursor = subst (λ bs. c.cursor bs (record { hour = 0; slot = 0 })) (sym (blank_row 256 cursor_drawer)) imp.empty_cursor;
    });
    wires = λ a b. subst (λ ts. TextsAre c ts []) (sym (texts_none a b)) (texts_nil c);
    inside = λ a b out. refl;
    told = sym sums_none;
    fault = refl;
  }
