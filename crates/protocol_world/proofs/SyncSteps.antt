-- One machine changes: what it has to keep, as a speaker and as a hearer, for each two to stay in step; a letter taken in, a letter sent.
use Rattle.std.proofs.Common.{arith, ◌≡◌, ℕ, ◌<◌, ◌⊎◌, true, false, List, [], ◌∷◌, ◌++◌, Some, sym, refl, ap, ap₂, ◌∙◌, subst, inl, inr, ⊎_elim, append_assoc}
use Rattle.std.proofs.lemmas.Bool.{both_ways, cases_eq}
use Rattle.sums.specs.Sums.{Gauges, or}
use Rattle.sums.proofs.Anys.{or_left, or_right}
use Rattle.protocol.specs.Limits.{crew}
use Rattle.protocol.specs.Mail.{with_letter, with_sent, letter_to}
use Rattle.protocol.specs.Phases.{ready, letter, go}
use Rattle.protocol.specs.Searches.{put₂}
use Rattle.protocol.specs.Statements.{Letter}
use Rattle.protocol.proofs.Puts.{put_each, put_same, put_other, put₂_same, put₂_other, apart_left, apart_right}
use Rattle.protocol_world.specs.Wall.{Told}
use Rattle.protocol_world.specs.Worlds.{Node, World, with_node, after, with_sending}
use Rattle.protocol_world.proofs.Invariant.{came, queue}
use Rattle.protocol_world.proofs.Letters.{NoLetter}
use Rattle.protocol_world.proofs.Queues.{came_same, came_other}
use Rattle.protocol_world.proofs.Syncs.{Said, Current, is_up, holds, latest, any_woke, latest_last, latest_first, woke_front, woke_last, woke_first, Busy, Lost, Sync, busy, current, lost, Synced, synced_put, SpeaksOn, HearsOn, then}

-- what a change of a node keeps of what it says to each, and of what it hears
pub record Mouth (gs : Gauges) (n : ℕ) (x x₁ : Node) : Type 0 where
  pub speaks : (j : ℕ) → j < crew → (n ≡ j → ⊥) →
      Busy x₁ j ⊎ ((Busy x j → Busy x₁ j) × ((d : Said) → Current gs j d x.memory.reader x.memory.cursor.hour →
      Current gs j d x₁.memory.reader x₁.memory.cursor.hour))

pub record Ears (x x₁ : Node) : Type 0 where
  pub held : (a : ℕ) → holds x₁.memory a ≡ holds x.memory a
  pub lost_on : (a : ℕ) (r : List Letter) → Lost x a r → Lost x₁ a r

module _ (gs : Gauges) (w : World) (n : ℕ) (lt : n < crew) (s : Synced gs w) where
  abbrev x : Node
  x = w.node n

  module _ (x₁ : Node) (ts : List Told) where
    speaks_busy : ((j : ℕ) → j < crew → (n ≡ j → ⊥) → Busy x₁ j) → (wires : ℕ → ℕ → List Letter) → SpeaksOn gs w n lt s x₁ wires ts
    speaks_busy h wires j lj ne old = busy (h j lj ne)

    module _ (none : NoLetter x.pending) (none₁ : NoLetter x₁.pending) where
      same_in : (a : ℕ) → came a x₁.pending ++ w.wire a n ≡ queue w a n
      same_in a = ap (λ q. q ++ w.wire a n) (none₁ a ∙ sym (none a))

      speaks_by : (j : ℕ) → Busy x₁ j ⊎ ((Busy x j → Busy x₁ j) × ((d : Said) → Current gs j d x.memory.reader x.memory.cursor.hour →
          Current gs j d x₁.memory.reader x₁.memory.cursor.hour)) →
          Sync gs n j x (w.node j) (queue w n j) (queue w j n) → Sync gs n j x₁ (w.node j) (queue w n j) (came j x₁.pending ++ w.wire j n)
      speaks_by j (inl b) old = busy b
      speaks_by j (inr m) (busy b) = busy (m.0 b)
      speaks_by j (inr m) (current e) = current (m.1 _ e)
      speaks_by j (inr m) (lost l) = lost (subst (Lost (w.node j) n) (sym (same_in j)) l)

      speaks_same : Mouth gs n x x₁ → SpeaksOn gs w n lt s x₁ w.wire ts
      speaks_same m j lj ne old = speaks_by j (m.speaks j lj ne) old

      hears_same : Ears x x₁ → HearsOn gs w n lt s x₁ w.wire ts
      hears_same m a la ne (busy b) = busy b
      hears_same m a la ne (current e) = current (subst (λ d. Current gs n d (w.node a).memory.reader (w.node a).memory.cursor.hour)
          (sym (ap₂ latest (m.held a) (same_in a))) e)
      hears_same m a la ne (lost l) = lost (m.lost_on a _ l)

      -- the wires stay
      pub says_same : Mouth gs n x x₁ → Ears x x₁ → Synced gs (then gs w n lt s x₁ w.wire ts)
      says_same m e = synced_put gs w n lt s x₁ w.wire ts (speaks_same m) (hears_same e) (λ _ _ _ _. refl)

    -- it is down, or has just come up
    pub says_all : ((j : ℕ) → j < crew → (n ≡ j → ⊥) → Busy x₁ j) → ((a : ℕ) → (a ≡ n → ⊥) → (is_up x₁.phase ≡ false) ⊎ (x₁.memory.mail.woke a ≡ true)) →
        (wires : ℕ → ℕ → List Letter) →
        ((a b : ℕ) → (a ≡ n → ⊥) → (b ≡ n → ⊥) → wires a b ≡ w.wire a b) → Synced gs (then gs w n lt s x₁ wires ts)
    says_all m e wires others = synced_put gs w n lt s x₁ wires ts (speaks_busy m wires)
        (λ a la ne old. lost (⊎_elim (λ q. inl q) (λ q. inr (inl q)) (e a ne))) others

  -- A LETTER IS TAKEN IN
  module _ (up : x.phase ≡ ready) (a : ℕ) (l : Letter) (at : x.pending ≡ Some (letter a l)) where
    abbrev x₁ : Node
    x₁ = after x ready (with_letter x.memory a l) (Some go)

    -- what was to come from a, and from others
    in_a : queue w a n ≡ l ∷ w.wire a n
    in_a = ap (λ o. came a o ++ w.wire a n) at ∙ ap (λ q. q ++ w.wire a n) (came_same a l)

    in_other : (j : ℕ) → (j ≡ a → ⊥) → queue w j n ≡ w.wire j n
    in_other j ne = ap (λ o. came j o ++ w.wire j n) at ∙ ap (λ q. q ++ w.wire j n) (came_other a j l ne)

    due_on : (j : ℕ) → x.memory.mail.due j ≡ true → x₁.memory.mail.due j ≡ true
    due_on = put_each x.memory.mail.due a (or l.woke (x.memory.mail.due a)) (λ j d. x.memory.mail.due j ≡ true → d ≡ true)
        (λ e. or_right l.woke (x.memory.mail.due a) e) (λ j _ e. e)

    busy_letter : (j : ℕ) → Busy x j → Busy x₁ j
    busy_letter j (inl d) = absurd (both_ways _ d (ap is_up up))
    busy_letter j (inr e) = inr (due_on j e)

    woke_now : l.woke ≡ true → Busy x₁ a
    woke_now e = inr (put_same x.memory.mail.due a (or l.woke (x.memory.mail.due a)) ∙ or_left l.woke (x.memory.mail.due a) e)

    speaks_letter : SpeaksOn gs w n lt s x₁ w.wire w.told
    speaks_letter j lj ne (busy b) = busy (busy_letter j b)
    speaks_letter j lj ne (current e) = current e
    speaks_letter j lj ne (lost (inl d)) = lost (inl d)
    speaks_letter j lj ne (lost (inr (inl e))) = lost (inr (inl e))
    speaks_letter j lj ne (lost (inr (inr e))) = ⊎_elim
        (λ (q : j ≡ a). ⊎_elim (λ t. busy (subst (Busy x₁) (sym q) (woke_now t))) (λ t. lost (inr (inr t)))
        (woke_first l (w.wire j n) (subst (λ k. any_woke k ≡ true) (subst (λ k. queue w k n ≡ l ∷ w.wire k n) (sym q) in_a) e)))
        (λ nj. lost (inr (inr (subst (λ k. any_woke k ≡ true) (in_other j nj) e))))
        (cases_eq j a)

    held_same : holds x₁.memory a ≡ record { passed = l.passed; says = l.says }
    held_same = ap₂ (λ p t. record { passed = p; says = t }) (put_same x.memory.mail.passed a l.passed) (put_same x.memory.mail.word a l.says)

    held_other : (j : ℕ) → (j ≡ a → ⊥) → holds x₁.memory j ≡ holds x.memory j
    held_other j ne = ap₂ (λ p t. record { passed = p; says = t }) (put_other x.memory.mail.passed a l.passed j ne) (put_other x.memory.mail.word a l.says j ne)

    latest_on : (j : ℕ) → latest (holds x₁.memory j) (w.wire j n) ≡ latest (holds x.memory j) (queue w j n)
    latest_on j = ⊎_elim
        (λ (q : j ≡ a). subst (λ k. latest (holds x₁.memory k) (w.wire k n) ≡ latest (holds x.memory k) (queue w k n)) (sym q)
        (ap (λ h. latest h (w.wire a n)) held_same ∙ sym (latest_first (holds x.memory a) l (w.wire a n)) ∙ ap (latest (holds x.memory a)) (sym in_a)))
        (λ nj. ap₂ latest (held_other j nj) (sym (in_other j nj)))
        (cases_eq j a)

    hears_letter : HearsOn gs w n lt s x₁ w.wire w.told
    hears_letter j lj ne (busy b) = busy b
    hears_letter j lj ne (current e) = current (subst (λ d. Current gs n d (w.node j).memory.reader (w.node j).memory.cursor.hour) (sym (latest_on j)) e)
    hears_letter j lj ne (lost (inl d)) = absurd (both_ways _ d (ap is_up up))
    hears_letter j lj ne (lost (inr e)) = lost (inr e)

    pub takes_letter : Synced gs (with_node w n x₁)
    takes_letter = synced_put gs w n lt s x₁ w.wire w.told speaks_letter hears_letter (λ _ _ _ _. refl)

  -- A LETTER IS SENT
  module _ (up : x.phase ≡ ready) (at : x.pending ≡ Some go) (j : ℕ) (apart : n ≡ j → ⊥) where
    abbrev x₂ : Node
    x₂ = after x ready (with_sent x.memory j) (Some go)

    abbrev l : Letter
    l = letter_to x.memory j

    abbrev wires : ℕ → ℕ → List Letter
    wires = put₂ w.wire n j (w.wire n j ++ l ∷ [])

    out_j : came n (w.node j).pending ++ wires n j ≡ queue w n j ++ l ∷ []
    out_j = ap (λ q. came n (w.node j).pending ++ q) (put₂_same w.wire n j (w.wire n j ++ l ∷ []))
        ∙ sym (append_assoc (came n (w.node j).pending) (w.wire n j) (l ∷ []))

    out_other : (k : ℕ) → (k ≡ j → ⊥) → came n (w.node k).pending ++ wires n k ≡ queue w n k
    out_other k ne = ap (λ q. came n (w.node k).pending ++ q) (put₂_other w.wire n j (w.wire n j ++ l ∷ []) n k (apart_right n j n k ne))

    in_same : (k : ℕ) → (k ≡ n → ⊥) → came k (Some go) ++ wires k n ≡ queue w k n
    in_same k ne = put₂_other w.wire n j (w.wire n j ++ l ∷ []) k n (apart_left n j k n ne) ∙ sym (ap (λ o. came k o ++ w.wire k n) at)

    busy_sent : (k : ℕ) → (k ≡ j → ⊥) → Busy x k → Busy x₂ k
    busy_sent k ne (inl d) = absurd (both_ways _ d (ap is_up up))
    busy_sent k ne (inr e) = inr (put_other x.memory.mail.due j false k ne ∙ e)

    speaks_sent : SpeaksOn gs w n lt s x₂ wires w.told
    speaks_sent k lk ne old = ⊎_elim
        (λ (q : k ≡ j). subst (λ m. Sync gs n m x₂ (w.node m) (came n (w.node m).pending ++ wires n m) (came m x₂.pending ++ wires m n)) (sym q)
        (current (subst (λ d. Current gs j d x.memory.reader x.memory.cursor.hour) (sym (ap (latest (holds (w.node j).memory n)) out_j
        ∙ latest_last (holds (w.node j).memory n) (queue w n j) l))
        (inr refl, λ p l a b. absurd (omega arith)))))
        (λ nj. on k nj ne old)
        (cases_eq k j)
      where
        on : (k : ℕ) → (k ≡ j → ⊥) → (n ≡ k → ⊥) → Sync gs n k x (w.node k) (queue w n k) (queue w k n) →
            Sync gs n k x₂ (w.node k) (came n (w.node k).pending ++ wires n k) (came k x₂.pending ++ wires k n)
        on k nj ne (busy b) = busy (busy_sent k nj b)
        on k nj ne (current e) = current (subst (λ d. Current gs k d x.memory.reader x.memory.cursor.hour)
            (sym (ap (latest (holds (w.node k).memory n)) (out_other k nj))) e)
        on k nj ne (lost r) = lost (subst (Lost (w.node k) n) (sym (in_same k (λ q. ne (sym q)))) r)

    -- that it woke is said, or is still to be said
    lost_sent : (k : ℕ) → Lost x k (queue w n k) → Lost x₂ k (came n (w.node k).pending ++ wires n k)
    lost_sent k (inl d) = absurd (both_ways _ d (ap is_up up))
    lost_sent k (inr (inl e)) = ⊎_elim
        (λ (q : k ≡ j). subst (λ m. Lost x₂ m (came n (w.node m).pending ++ wires n m)) (sym q)
        (inr (inr (ap any_woke out_j ∙ woke_last (queue w n j) l (subst (λ m. x.memory.mail.woke m ≡ true) q e)))))
        (λ ne. inr (inl (put_other x.memory.mail.woke j false k ne ∙ e)))
        (cases_eq k j)
    lost_sent k (inr (inr e)) = ⊎_elim
        (λ (q : k ≡ j). subst (λ m. Lost x₂ m (came n (w.node m).pending ++ wires n m)) (sym q)
        (inr (inr (ap any_woke out_j ∙ woke_front (queue w n j) l (subst (λ m. any_woke (queue w n m) ≡ true) q e)))))
        (λ ne. inr (inr (ap any_woke (out_other k ne) ∙ e)))
        (cases_eq k j)

    hears_sent : HearsOn gs w n lt s x₂ wires w.told
    hears_sent k lk ne (busy b) = busy b
    hears_sent k lk ne (current e) = current (subst (λ d. Current gs n d (w.node k).memory.reader (w.node k).memory.cursor.hour)
        (sym (ap (latest (holds x.memory k)) (in_same k ne))) e)
    hears_sent k lk ne (lost r) = lost (lost_sent k r)

    pub sends_letter : Synced gs (with_sending w n x₂ j l)
    sends_letter = synced_put gs w n lt s x₂ wires w.told speaks_sent hears_sent
        (λ a b na nb. put₂_other w.wire n j (w.wire n j ++ l ∷ []) a b (apart_left n j a b na))
