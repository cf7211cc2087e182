-- A memory in which some of the named cells are set: what it stands for then.
use Rattle.std.proofs.Common.{◌≡◌, ℕ, ◌+◌, ◌*◌, ◌/◌, ◌%◌, ◌<◌, ◌≤◌, true, cond, not, eqb, ltb, leb, List, [], ◌∷◌, length, refl, sym, ap, ap₂, ◌∙◌, subst, arith}
use Rattle.std.proofs.lemmas.Bool.{and_parts, and_from, ltb-true, lt-ltb}
use Rattle.sums.specs.Cells.{slots}
use Rattle.sums.specs.Sums.{or}
use Rattle.protocol.specs.Entries.{is_counted}
use Rattle.protocol.specs.Limits.{crew}
use Rattle.protocol.specs.Memory.{Memory}
use Rattle.protocol.specs.Tables.{Tables, filled, comes_at}
use Rattle.protocol.proofs.Searches.{any_alike}
use Rattle.protocol_bridge.specs.Same.{SameTables, SameOpen, SameMail, SameMemory}
use Rattle.gauge.specs.Memory.{at, cells, phase_at, index_at, telling_at, me_at, stage_at, hour_at, next_at, pos_at, set_at, paused_at, kept_at, filled_at, cursor_hour_at, cursor_slot_at, word_at, sums_at, counts_at, word_sums_at}
use Rattle.gauge.specs.Views.{phase_of, phase_in, stage_of, set_of, table_in, tables_in, mail_in, memory_of}
use Rattle.whole.specs.Seen.{filled_as_said}
use Rattle.whole.proofs.Cells.{sets, found, all_in, at_sets, not_set}
use Rattle.whole.proofs.Parts.{Kept, page_kept, mail_kept, tables_kept, open_of, same_by}

-- cells that are within the memory's named ones are within the memory
within : (xs : List (ℕ × ℕ)) (n : ℕ) → word_at ≤ n → all_in (λ i. ltb i word_at) xs ≡ true → all_in (λ i. ltb i n) xs ≡ true
unfolding all_in
within [] n le h = refl
within (x ∷ xs) n le h = let p = and_parts (ltb x.0 word_at) _ h in and_from _ _ (lt-ltb x.0 n (omega (arith, ltb-true _ _ p.0))) (within xs n le p.1)

-- and nothing behind them changes
behind : (xs : List (ℕ × ℕ)) (m : List ℕ) (b : ℕ) → all_in (λ i. ltb i word_at) xs ≡ true → Kept word_at b m (sets xs m)
unfolding all_in
behind xs m b h c le lt = not_set xs m word_at b c (apart xs h) le lt
  where
    apart : (xs : List (ℕ × ℕ)) → all_in (λ i. ltb i word_at) xs ≡ true → all_in (λ i. or (ltb i word_at) (leb b i)) xs ≡ true
    apart [] h = refl
    apart (x ∷ xs) h = let p = and_parts (ltb x.0 word_at) _ h in and_from _ _ (ap (λ t. or t (leb b x.0)) p.0) (apart xs p.1)

pub tables_as : (m n : List ℕ) → Kept sums_at word_sums_at m n → SameTables (table_in m) (table_in n)
tables_as m n k j lj = page_kept m n (sums_at + slots * j) (counts_at + slots * j) (λ c le l. k c (omega arith) (omega arith)) (λ c le l. k c (omega arith) (omega arith))

pub filled_as : (x y : Tables) → SameTables x y → filled x ≡ filled y
unfolding filled comes_at
filled_as x y h = any_alike _ _ 1024 (λ k lk. ap is_counted ((h (k % crew) (omega arith)).entries (k / crew) (omega arith)))

-- the flag is as it was, and so are the tables
pub said_kept : (m n : List ℕ) → at n filled_at ≡ at m filled_at → Kept sums_at word_sums_at m n → filled_as_said m ≡ true → filled_as_said n ≡ true
said_kept m n e k h =
    let f = filled_as (table_in m) (table_in n) (tables_as m n k) in
    subst (λ v. cond v (not (eqb (at n filled_at) 0)) (not (not (eqb (at n filled_at) 0))) ≡ true) f
    (subst (λ v. cond (filled (table_in m)) (not (eqb v 0)) (not (not (eqb v 0))) ≡ true) (sym e) h)

-- n has in its named cells what m has with some of them set
module _ (xs : List (ℕ × ℕ)) (m n : List ℕ) (cell : (c : ℕ) → c < word_at → at n c ≡ found xs c (at m c)) where
  pub phase_by : phase_in n ≡ phase_of (found xs phase_at (at m phase_at)) (found xs index_at (at m index_at)) (found xs telling_at (at m telling_at))
  phase_by =
      ap (λ a. phase_of a (at n index_at) (at n telling_at)) (cell phase_at (omega arith))
      ∙ ap₂ (λ a b. phase_of (found xs phase_at (at m phase_at)) a b) (cell index_at (omega arith)) (cell telling_at (omega arith))

  -- what the records have, part by part
  pub memory_by : (b : Memory) → b.me < crew → b.me ≡ found xs me_at (at m me_at) →
      b.reader.stage ≡ stage_of (found xs stage_at (at m stage_at)) (found xs hour_at (at m hour_at)) (found xs next_at (at m next_at)) →
      b.reader.pos ≡ found xs pos_at (at m pos_at) → b.reader.set ≡ set_of (found xs set_at (at m set_at)) →
      b.reader.paused ≡ not (eqb (found xs paused_at (at m paused_at)) 0) → b.reader.kept ≡ found xs kept_at (at m kept_at) →
      b.cursor ≡ record { hour = found xs cursor_hour_at (at m cursor_hour_at); slot = found xs cursor_slot_at (at m cursor_slot_at) } →
      SameOpen b.reader.stage b.reader.tables (tables_in n) → SameMail b.mail (mail_in n) → SameMemory b (memory_of n)
  memory_by b lt me stage pos set paused kept cursor tables mail =
      same_by b (memory_of n) lt (me ∙ sym (cell me_at (omega arith)))
      (stage
      ∙ sym (ap (λ a. stage_of a (at n hour_at) (at n next_at)) (cell stage_at (omega arith))
      ∙ ap₂ (λ a c. stage_of (found xs stage_at (at m stage_at)) a c) (cell hour_at (omega arith)) (cell next_at (omega arith))))
      (pos ∙ sym (cell pos_at (omega arith))) (set ∙ ap set_of (sym (cell set_at (omega arith))))
      (paused ∙ ap (λ v. not (eqb v 0)) (sym (cell paused_at (omega arith)))) (kept ∙ sym (cell kept_at (omega arith)))
      (cursor ∙ ap₂ (λ a c. record { hour = a; slot = c }) (sym (cell cursor_hour_at (omega arith))) (sym (cell cursor_slot_at (omega arith)))) tables mail

-- the tables are as they were, and so is their hour
pub open_kept : (m n : List ℕ) → at n hour_at ≡ at m hour_at → Kept sums_at word_sums_at m n → (b : Memory) → b.reader.tables ≡ tables_in m →
    SameOpen b.reader.stage b.reader.tables (tables_in n)
open_kept m n e k b t =
    subst (λ u. SameOpen b.reader.stage u (tables_in n)) (sym t) (open_of b.reader.stage (tables_in m) (tables_in n) (tables_kept m n e k))

module _ (xs : List (ℕ × ℕ)) (m : List ℕ) (len : length m ≡ cells) (low : all_in (λ i. ltb i word_at) xs ≡ true) where
  pub cell : (c : ℕ) → at (sets xs m) c ≡ found xs c (at m c)
  cell c = at_sets xs m c (within xs (length m) (omega (arith, len)) low)

  pub unset : (b : ℕ) → Kept word_at b m (sets xs m)
  unset b = behind xs m b low

  pub phase_now : phase_in (sets xs m) ≡ phase_of (found xs phase_at (at m phase_at)) (found xs index_at (at m index_at)) (found xs telling_at (at m telling_at))
  phase_now = phase_by xs m (sets xs m) (λ c _. cell c)

  pub mail_now : SameMail (mail_in m) (mail_in (sets xs m))
  mail_now = mail_kept m (sets xs m) (unset sums_at) (λ c le lt. unset cells c (omega arith) lt)

  pub tables_now : found xs hour_at (at m hour_at) ≡ at m hour_at → (b : Memory) → b.reader.tables ≡ tables_in m → SameOpen b.reader.stage b.reader.tables (tables_in (sets xs m))
  tables_now e b t = open_kept m (sets xs m) (cell hour_at ∙ e) (λ c le lt. unset word_sums_at c (omega arith) lt) b t

  pub said_now : found xs filled_at (at m filled_at) ≡ at m filled_at → filled_as_said m ≡ true → filled_as_said (sets xs m) ≡ true
  said_now e = said_kept m (sets xs m) (cell filled_at ∙ e) (λ c le lt. unset word_sums_at c (omega arith) lt)

  pub memory_now : (b : Memory) → b.me < crew → b.me ≡ found xs me_at (at m me_at) →
      b.reader.stage ≡ stage_of (found xs stage_at (at m stage_at)) (found xs hour_at (at m hour_at)) (found xs next_at (at m next_at)) →
      b.reader.pos ≡ found xs pos_at (at m pos_at) → b.reader.set ≡ set_of (found xs set_at (at m set_at)) →
      b.reader.paused ≡ not (eqb (found xs paused_at (at m paused_at)) 0) → b.reader.kept ≡ found xs kept_at (at m kept_at) →
      b.cursor ≡ record { hour = found xs cursor_hour_at (at m cursor_hour_at); slot = found xs cursor_slot_at (at m cursor_slot_at) } →
      SameOpen b.reader.stage b.reader.tables (tables_in (sets xs m)) → SameMail b.mail (mail_in (sets xs m)) → SameMemory b (memory_of (sets xs m))
  memory_now = memory_by xs m (sets xs m) (λ c _. cell c)
