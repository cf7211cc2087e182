-- Between two nodes, always one of these: the speaker has yet to say something; or the last letter on its way, or without one what the other holds, is what the
-- speaker says now; or the other has forgotten all, and the speaker will be told so.
use Rattle.std.proofs.Common.{◌≡◌, ℕ, ◌<◌, ◌⊎◌, Bool, true, false, List, [], ◌∷◌, ◌++◌, sym, refl, subst, ⊎_elim, true≢false}
use Rattle.sums.specs.Sums.{Gauges, or}
use Rattle.sums.proofs.Anys.{or_left, or_right}
use Rattle.machine.specs.Run.{nth_row}
use Rattle.protocol.specs.Limits.{crew}
use Rattle.protocol.specs.Memory.{Memory}
use Rattle.protocol.specs.Phases.{Phase, asleep, asks_root, asks_page, asks_cursor, placing, placed, ready, noting, saving}
use Rattle.protocol.specs.Reader.{Reader, is_reading}
use Rattle.protocol.specs.Searches.{put}
use Rattle.protocol.specs.Statements.{Statement, statement, Letter}
use Rattle.protocol.proofs.Puts.{put_pairs}
use Rattle.protocol.proofs.Searches.{or_split}
use Rattle.protocol_world.specs.Wall.{Told}
use Rattle.protocol_world.specs.Worlds.{Node, World}
use Rattle.protocol_world.proofs.Facts.{NoneIn}
use Rattle.protocol_world.proofs.Invariant.{came, queue}

abbrev pub is_up : Phase → Bool
is_up asleep = false
is_up asks_root = false
is_up (asks_page q) = false
is_up asks_cursor = false
is_up placing = true
is_up placed = true
is_up ready = true
is_up (noting m s) = true
is_up (saving q) = true

pub record Said : Type 0 where
  pub passed : ℕ
  pub says : Statement

abbrev pub holds : Memory → (i : ℕ) → Said
holds b i = record { passed = b.mail.passed i; says = b.mail.word i }

-- what is held once the letters have come
unfoldable pub latest : Said → List Letter → Said
latest d [] = d
latest d (l ∷ ls) = latest (record { passed = l.passed; says = l.says }) ls

unfoldable pub any_woke : List Letter → Bool
any_woke [] = false
any_woke (l ∷ ls) = or l.woke (any_woke ls)

pub latest_last : (d : Said) (ls : List Letter) (l : Letter) → latest d (ls ++ l ∷ []) ≡ record { passed = l.passed; says = l.says }
unfolding latest
latest_last d [] l = refl
latest_last d (k ∷ ls) l = latest_last _ ls l

pub latest_first : (d : Said) (l : Letter) (ls : List Letter) → latest d (l ∷ ls) ≡ latest (record { passed = l.passed; says = l.says }) ls
unfolding latest
latest_first d l ls = refl

pub latest_none : (d : Said) → latest d [] ≡ d
unfolding latest
latest_none d = refl

pub woke_front : (ls : List Letter) (l : Letter) → any_woke ls ≡ true → any_woke (ls ++ l ∷ []) ≡ true
unfolding any_woke
woke_front [] l e = absurd (true≢false (sym e))
woke_front (k ∷ ls) l e = ⊎_elim (λ q. or_left k.woke (any_woke (ls ++ l ∷ [])) q) (λ q. or_right k.woke (any_woke (ls ++ l ∷ [])) (woke_front ls l q))
    (or_split k.woke (any_woke ls) e)

pub woke_last : (ls : List Letter) (l : Letter) → l.woke ≡ true → any_woke (ls ++ l ∷ []) ≡ true
unfolding any_woke
woke_last [] l e = or_left l.woke false e
woke_last (k ∷ ls) l e = or_right k.woke (any_woke (ls ++ l ∷ [])) (woke_last ls l e)

pub woke_first : (l : Letter) (ls : List Letter) → any_woke (l ∷ ls) ≡ true → (l.woke ≡ true) ⊎ (any_woke ls ≡ true)
unfolding any_woke
woke_first l ls e = or_split l.woke (any_woke ls) e

pub woke_none : any_woke [] ≡ false
unfolding any_woke
woke_none = refl

-- what was said last holds still: it is what the speaker says now, unless it is reading; and from the hour that it gave up to where the speaker is, the
-- hearer's row has no hour
abbrev pub Current : Gauges → (j : ℕ) → Said → Reader → (hour : ℕ) → Type 0
Current gs j d r h = ((is_reading r.stage ≡ true) ⊎ (d.says ≡ statement r j)) × NoneIn (nth_row gs j) d.passed h

-- the speaker has yet to say something; the hearer has forgotten, and is to say so
abbrev pub Busy : Node → (j : ℕ) → Type 0
Busy x j = (is_up x.phase ≡ false) ⊎ (x.memory.mail.due j ≡ true)

abbrev pub Lost : Node → (i : ℕ) → List Letter → Type 0
Lost y i r = (is_up y.phase ≡ false) ⊎ ((y.memory.mail.woke i ≡ true) ⊎ (any_woke r ≡ true))

-- from speaker i, which is x, to j, which is y, with the letters from it and to it
pub data Sync (gs : Gauges) (i j : ℕ) (x y : Node) (q r : List Letter) : Type 0 where
  busy : Busy x j → Sync gs i j x y q r
  current : Current gs j (latest (holds y.memory i) q) x.memory.reader x.memory.cursor.hour → Sync gs i j x y q r
  lost : Lost y i r → Sync gs i j x y q r

abbrev pub Synced : Gauges → World → Type 0
Synced gs w = (i j : ℕ) → i < crew → j < crew → (i ≡ j → ⊥) → Sync gs i j (w.node i) (w.node j) (queue w i j) (queue w j i)

-- ONE NODE CHANGES, and maybe wires
module _ (gs : Gauges) (w : World) (n : ℕ) (lt : n < crew) (s : Synced gs w) (x₁ : Node) (wires : ℕ → ℕ → List Letter) (ts : List Told) where
  abbrev pub then : World
  then = record { node = put w.node n x₁; wire = wires; told = ts; fault = w.fault }

  -- from it, and to it
  abbrev pub SpeaksOn : Type 0
  SpeaksOn = (j : ℕ) → j < crew → (n ≡ j → ⊥) → Sync gs n j (w.node n) (w.node j) (queue w n j) (queue w j n) →
      Sync gs n j x₁ (w.node j) (came n (w.node j).pending ++ wires n j) (came j x₁.pending ++ wires j n)

  abbrev pub HearsOn : Type 0
  HearsOn = (i : ℕ) → i < crew → (i ≡ n → ⊥) → Sync gs i n (w.node i) (w.node n) (queue w i n) (queue w n i) →
      Sync gs i n (w.node i) x₁ (came i x₁.pending ++ wires i n) (came n (w.node i).pending ++ wires n i)

  pub synced_put : SpeaksOn → HearsOn → ((a b : ℕ) → (a ≡ n → ⊥) → (b ≡ n → ⊥) → wires a b ≡ w.wire a b) → Synced gs then
  synced_put speaks hears others i j li lj ne =
      put_pairs w.node n x₁ (λ i j x y. i < crew → j < crew → (i ≡ j → ⊥) → Sync gs i j x y (came i y.pending ++ wires i j) (came j x.pending ++ wires j i))
      (λ li lj ne. absurd (ne refl))
      (λ j nj li lj ne. speaks j lj ne (s n j lt lj ne))
      (λ i ni li lj ne. hears i li ne (s i n li lt ne))
      (λ i j ni nj li lj ne.
      subst (λ q. Sync gs i j (w.node i) (w.node j) (came i (w.node j).pending ++ q) (came j (w.node i).pending ++ wires j i)) (sym (others i j ni nj))
      (subst (λ r. Sync gs i j (w.node i) (w.node j) (queue w i j) (came j (w.node i).pending ++ r)) (sym (others j i nj ni)) (s i j li lj ne)))
      i j li lj ne
