-- What a step of boot leaves and does, beside what a reaction of records has; and named cells that are set once rows are written.
use Rattle.std.proofs.Common.{◌≡◌, true, ℕ, ◌<◌, ◌≤◌, cond, ◌&&◌, eqb, ltb, List, [], ◌∷◌, length, refl, sym, ap, ap₂, ◌∙◌, subst, arith}
use Rattle.protocol.specs.Phases.{Reaction, Phase, asleep, asks_root, asks_page, asks_cursor, placing, placed, ready, noting, saving}
use Rattle.protocol_bridge.specs.Same.{SameMemory}
use Rattle.protocol_bridge.specs.Views.{ActSeen}
use Rattle.gauge.specs.Deeds.{Done}
use Rattle.gauge.specs.Views.{phase_in, memory_of}
use Rattle.machine.specs.Machine.{as_act}
use Rattle.whole.specs.Seen.{own_views, is_up, filled_as_said, recalls_pages, begun_with_set, names_set}
use Rattle.std.proofs.lemmas.Bool.{ltb-true, and_parts, ne_eqb}
use Rattle.sums.specs.Sums.{pick}
use Rattle.protocol.specs.Memory.{Memory}
use Rattle.gauge.specs.Memory.{at, cells, stage_at, set_at, word_at}
use Rattle.whole.proofs.Heads.{cell}
use Rattle.whole.proofs.Cells.{sets, found, all_in}
use Rattle.whole.proofs.Parts.{Kept}
use Rattle.protocol.specs.Phases as protocol

-- what is left and done is what a reaction has; once it is up, the flag of the tables is as it should be
pub record BootDoes (r : Reaction) (d : Done) : Type 0 where
  pub phase : phase_in d.memory ≡ r.phase
  pub memory : SameMemory r.memory (memory_of d.memory)
  pub said : is_up r.phase ≡ true → filled_as_said d.memory ≡ true
  pub begun : recalls_pages r.phase ≡ true → begun_with_set d.memory ≡ true
  pub act : ActSeen own_views r.act (as_act d.deed)

-- the named cells of n are those of m, with these set
abbrev pub Named : (xs : List (ℕ × ℕ)) (m n : List ℕ) → Type 0
Named xs m n = (c : ℕ) → c < word_at → at n c ≡ found xs c (at m c)

-- rows are written, then named cells set
pub named_set : (xs : List (ℕ × ℕ)) (m n : List ℕ) → length n ≡ cells → all_in (λ i. ltb i word_at) xs ≡ true → Kept 0 word_at m n → Named xs m (sets xs n)
named_set xs m n len low kept c lt = cell xs n len low c ∙ ap (found xs c) (kept c (omega arith) lt)

-- what is wanted while pages are recalled
pub begun_named : (xs : List (ℕ × ℕ)) (m n : List ℕ) → Named xs m n →
    eqb (found xs stage_at (at m stage_at)) 0 && names_set (found xs set_at (at m set_at)) ≡ true →
    begun_with_set n ≡ true
begun_named xs m n k h = ap₂ (λ a b. eqb a 0 && names_set b) (k stage_at (omega arith)) (k set_at (omega arith)) ∙ h

-- cells behind those that are set
pub found_behind : (xs : List (ℕ × ℕ)) (a c v : ℕ) → all_in (λ i. ltb i a) xs ≡ true → a ≤ c → v ≡ found xs c v
unfolding found all_in
found_behind [] a c v h le = refl
found_behind (x ∷ xs) a c v h le =
    let p = and_parts (ltb x.0 a) _ h in
    subst (λ b. v ≡ cond b x.1 (found xs c v)) (sym (ne_eqb x.0 c (λ e. omega (arith, ltb-true _ _ p.0, e)))) (found_behind xs a c v p.1 le)

-- page w is asked for, or, behind the last, the cursor
abbrev pub next_asked : Memory → (w : ℕ) → Reaction
next_asked b w = protocol.does (asks_page w) b (protocol.recall_page b.reader.set w)

abbrev pub cursor_asked : Memory → Reaction
cursor_asked b = protocol.does asks_cursor b protocol.recall_cursor

abbrev pub next_page : Memory → (w : ℕ) → Reaction
next_page b w = pick (ltb w 8) (next_asked b w) (cursor_asked b)
