-- What an act, a poke and a letter do, as rules: P holds of the world after it if it holds of each outcome. P is a variable, so that antt finds the tests.
use Rattle.std.proofs.Common.{◌≡◌, ℕ, suc, ◌+◌, ◌<◌, ◌≤◌, true, false, List, [], ◌∷◌, ◌++◌, length, drop, refl}
use Rattle.std.proofs.lemmas.Bool.{leb-true, leb-false, ltb-true, ltb-false, le-leb, lt-ltb}
use Rattle.sums.specs.Sums.{Gauges, none_of, ToldSum}
use Rattle.sums.proofs.Picks.{pick_both}
use Rattle.machine.specs.Run.{World, Machine, machine, machine_at, set_nth, nth_row, with_machine, faulty, Letter, bytes, first_reading, acted, poked, delivered, given}
use Rattle.machine.specs.Run.{Act, more, from, let_go, sends, keep, recall, tells, rests, Event, later, ends, letter, slot, next, first_between, without_first}

-- machine i as it is
abbrev pub state : World → ℕ → Machine
state w i = machine_at w.machines i

-- a machine with a new memory, that is told of an event next, and is otherwise as it was
abbrev pub with_event : Machine → List ℕ → Event → Machine
with_event x m ev = machine m (ev ∷ []) x.reads_at x.gone x.slots

-- machine i is set, and a letter is sent
abbrev pub with_letter : World → ℕ → Machine → Letter → World
with_letter w i x l = record { machines = set_nth w.machines i x; wires = w.wires ++ l ∷ []; told = w.told; fault = w.fault }

-- machine i is set, and a sum is told
abbrev pub with_told : World → ℕ → Machine → ToldSum → World
with_told w i x t = record { machines = set_nth w.machines i x; wires = w.wires; told = w.told ++ t ∷ []; fault = w.fault }

-- machine j is set, and the oldest letter from i to j is off the wires
abbrev pub with_brought : World → (i j : ℕ) → Machine → World
with_brought w i j x = record { machines = set_nth w.machines j x; wires = without_first i j w.wires; told = w.told; fault = w.fault }

module _ (gs : Gauges) (w : World) (i : ℕ) (m : List ℕ) (P : World → Type 0) where
  pub on_more :
      (length (nth_row gs i) ≤ (state w i).reads_at → P (with_machine w i (with_event (state w i) m ends))) →
      ((state w i).reads_at < length (nth_row gs i) → (state w i).reads_at < (state w i).gone + 4096 →
      P (with_machine w i (machine m (first_reading (drop (state w i).reads_at (nth_row gs i)) ∷ []) (suc (state w i).reads_at) (state w i).gone (state w i).slots))) →
      ((state w i).reads_at < length (nth_row gs i) → (state w i).gone + 4096 ≤ (state w i).reads_at → P (with_machine w i (with_event (state w i) m later))) →
      P (acted gs w i m more)
  unfolding acted
  on_more a b c =
      pick_both _ _ _ P (λ h. a (leb-true _ _ h)) (λ h. pick_both _ _ _ P (λ k. b (leb-false _ _ h) (ltb-true _ _ k)) (λ k. c (leb-false _ _ h) (ltb-false _ _ k)))

  pub on_from : (p : ℕ) → (state w i).gone ≤ p → p ≤ (state w i).gone + 4096 →
      P (with_machine w i (machine m (next ∷ []) p (state w i).gone (state w i).slots)) → P (acted gs w i m (from p))
  unfolding acted
  on_from p a b h = rw (le-leb _ _ a, le-leb _ _ b) h

  pub on_let_go : (p : ℕ) → (state w i).gone ≤ p → p ≤ (state w i).reads_at →
      P (with_machine w i (machine m (next ∷ []) (state w i).reads_at p (state w i).slots)) → P (acted gs w i m (let_go p))
  unfolding acted
  on_let_go p a b h = rw (le-leb _ _ a, le-leb _ _ b) h

  pub on_keep : (s : ℕ) (bs : List ℕ) → s < 256 → bytes bs ≡ true →
      P (with_machine w i (machine m (next ∷ []) (state w i).reads_at (state w i).gone (set_nth (state w i).slots s bs))) → P (acted gs w i m (keep s bs))
  unfolding acted
  on_keep s bs a b h = rw (lt-ltb _ _ a, b) h

  pub on_recall : (s : ℕ) → s < 256 → P (with_machine w i (with_event (state w i) m (slot (nth_row (state w i).slots s)))) → P (acted gs w i m (recall s))
  unfolding acted
  on_recall s a h = rw (lt-ltb _ _ a) h

  pub on_tells : (h k s : ℕ) → P (with_told w i (with_event (state w i) m next) (record { hour = h; place = k; sum = s })) → P (acted gs w i m (tells h k s))
  unfolding acted
  on_tells h k s p = p

  pub on_rests : P (with_machine w i (machine m [] (state w i).reads_at (state w i).gone (state w i).slots)) → P (acted gs w i m rests)
  unfolding acted
  on_rests p = p

  -- whatever the act
  pub on_any : (a : Act) → ((x : Machine) → P (with_machine w i x)) → ((x : Machine) (l : Letter) → P (with_letter w i x l)) →
      ((x : Machine) (t : ToldSum) → P (with_told w i x t)) → P (faulty w) → P (acted gs w i m a)
  unfolding acted
  on_any more x l t f = on_more (λ _. x _) (λ _ _. x _) (λ _ _. x _)
  on_any (from p) x l t f = pick_both _ _ _ P (λ _. x (machine m (next ∷ []) p (state w i).gone (state w i).slots)) (λ _. f)
  on_any (let_go p) x l t f = pick_both _ _ _ P (λ _. x (machine m (next ∷ []) (state w i).reads_at p (state w i).slots)) (λ _. f)
  on_any (sends j bs) x l t f = pick_both _ _ _ P (λ _. l (with_event (state w i) m next) (record { sender = i; reader = j; text = bs })) (λ _. f)
  on_any (keep s bs) x l t f =
      pick_both _ _ _ P (λ _. x (machine m (next ∷ []) (state w i).reads_at (state w i).gone (set_nth (state w i).slots s bs))) (λ _. f)
  on_any (recall s) x l t f = pick_both _ _ _ P (λ _. x (with_event (state w i) m (slot (nth_row (state w i).slots s)))) (λ _. f)
  on_any (tells h k s) x l t f = t _ _
  on_any rests x l t f = x _

module _ (w : World) (P : World → Type 0) where
  -- it rests, or nothing comes of it
  pub on_poked : (i : ℕ) → (none_of (state w i).pending ≡ true → P (with_machine w i (with_event (state w i) (state w i).memory next))) →
      (none_of (state w i).pending ≡ false → P w) → P (poked w i)
  on_poked i f g = pick_both _ _ _ P f g

  on_given : (i j : ℕ) (ls : List Letter) →
      ((l : Letter) (rest : List Letter) → ls ≡ l ∷ rest →
      P (with_brought w i j (with_event (state w j) (state w j).memory (letter i l.text)))) →
      (ls ≡ [] → P w) → P (given w i j ls)
  unfolding given
  on_given i j [] f g = g refl
  on_given i j (l ∷ ls) f g = f l ls refl

  -- the reader rests and there is a letter; or there is none; or the reader does not rest
  pub on_delivered : (i j : ℕ) →
      (none_of (state w j).pending ≡ true → (l : Letter) (rest : List Letter) → first_between i j w.wires ≡ l ∷ rest →
      P (with_brought w i j (with_event (state w j) (state w j).memory (letter i l.text)))) →
      (first_between i j w.wires ≡ [] → P w) → (none_of (state w j).pending ≡ false → P w) → P (delivered w i j)
  on_delivered i j f g h = pick_both _ _ _ P (λ q. on_given i j _ (f q) g) h
