-- What a machine releases: its drawers account for all of it, and in a settled world it has released its whole row.
use Rattle.std.proofs.Common.{◌≡◌, ◌≢◌, ℕ, ◌+◌, ◌-◌, ◌*◌, ◌/◌, ◌%◌, ◌<◌, ◌≤◌, length, get_or, sym, ap, refl, subst, inl, inr, ⊎_elim, arith}
use Rattle.std.proofs.lemmas.Bool.{both_ways, cases_lt, le-leb}
use Rattle.sums.specs.Cells.{slots}
use Rattle.sums.specs.Parts.{no_reading}
use Rattle.sums.specs.Sums.{pick, Gauges}
use Rattle.protocol.specs.Entries.{is_counted, entry_of}
use Rattle.protocol.specs.Limits.{late, crew}
use Rattle.protocol.specs.Reader.{ended, PageSet, no_set, first_set, second_set}
use Rattle.protocol.specs.Tables.{Page, Tables, blank, blank_page}
use Rattle.protocol.proofs.Entries.{counted_here}
use Rattle.protocol.proofs.Tables.{hour_at}
use Rattle.protocol_world.specs.Enough.{Settled}
use Rattle.protocol_world.specs.Theorems.{RollKept}
use Rattle.protocol_world.specs.Worlds.{Node, World}
use Rattle.protocol_world.proofs.Invariant.{row, kept_tables, root_tables, ReaderIs, Began, AtWork, Own}
use Rattle.protocol_world.proofs.Readers.{RowFine}
use Rattle.protocol_world.proofs.Settled.{all_ended, rested_memory, told_at}
use Rattle.protocol_world.proofs.SyncRuns.{InStep}

module _ (gs : Gauges) (eight : length gs ≡ crew) (fine : (i : ℕ) → i < crew → RowFine (row gs i))
    (keys : (i : ℕ) → i < crew → (p : ℕ) → p < length (row gs i) → (get_or (row gs i) p no_reading).key < crew * slots)
    (w : World) (h : InStep gs eight fine w) (i : ℕ) (lt : i < crew) where
  abbrev x : Node
  x = w.node i

  o : Own gs w.told i x
  o = h.good.own i lt

  kept_entry : (pages : ℕ → Page) (g p : ℕ) → Began (row gs i) g p g (kept_tables (row gs i) pages g) → (h k : ℕ) → g ≤ h → h ≤ g + late →
      (pages (crew * (h - g) + k % crew)).entries (k / crew) ≡ entry_of (row gs i) p h k
  kept_entry pages g p r h k ge le =
      subst (λ (t : Tables). (t.page (k % crew)).entries (k / crew) ≡ entry_of (row gs i) p h k)
      (ap (λ b. pick b (record { page = λ j. pages (crew * (h - g) + j) }) blank) (le-leb h (g + late) le))
      ((r.tables h ge (k % crew) (omega arith)).entries k refl)

  -- the pages of a set, where the root record names one
  pages_of : (s : PageSet) (page : ℕ → Page) (g p : ℕ) → Began (row gs i) g p g (root_tables (row gs i) page s g) → (h k : ℕ) → s ≢ no_set → g ≤ h →
      h ≤ g + late → (page (crew * (h - g) + k % crew)).entries (k / crew) ≡ entry_of (row gs i) p h k
  pages_of no_set page g p r h k some ge le = absurd (some refl)
  pages_of first_set page g p r h k some ge le = kept_entry page g p r h k ge le
  pages_of second_set page g p r h k some ge le = kept_entry page g p r h k ge le

  -- a reading of an open hour: there are pages of it
  of_root : (s : PageSet) (page : ℕ → Page) (g p : ℕ) → Began (row gs i) g p g (root_tables (row gs i) page s g) → (q : ℕ) →
      g ≤ hour_at (row gs i) q → q < p → (s ≢ no_set) × (g ≤ hour_at (row gs i) q) × (hour_at (row gs i) q ≤ g + late)
  unfolding blank_page
  of_root no_set page g p r q ge l =
      let k : ℕ = (get_or (row gs i) q no_reading).key in
      absurd (both_ways _ (sym (ap is_counted ((r.tables (hour_at (row gs i) q) ge (k % crew) (omega arith)).entries k refl)))
      (counted_here (row gs i) p r.within q l))
  of_root first_set page g p r q ge l = (λ e. cc, ge, r.high q l)
  of_root second_set page g p r q ge l = (λ e. cc, ge, r.high q l)

  pub released_kept : RollKept gs w i
  released_kept = (
    o.low,
    o.root.began.within,
    λ p l. ⊎_elim
        (λ (l₁ : hour_at (row gs i) p < x.root.hour). inl (told_at gs eight fine w h keys i lt p (omega (arith, o.root.began.within))
        (λ j lj. h.good.cross.before i j lt lj p (omega (arith, o.root.began.within)) l₁)))
        (λ (ge : x.root.hour ≤ hour_at (row gs i) p). inr (of_root x.root.set o.root.page x.root.hour x.root.pos o.root.began p ge l))
        (cases_lt (hour_at (row gs i) p) x.root.hour),
    λ g k some ge le.
        let q : ℕ = crew * (g - x.root.hour) + k % crew in
        (o.root.page q, o.root.there some q (omega arith), pages_of x.root.set o.root.page x.root.hour x.root.pos o.root.began g k some ge le),
  )

  pub all_released : Settled w → x.gone ≡ length (row gs i)
  all_released done =
      let a : AtWork gs w.told i x = rested_memory gs eight fine w h done i lt in
      let end = all_ended gs eight fine w h done i lt in
      let r : ReaderIs (row gs i) x.memory.reader.base x.memory.reader.pos x.memory.reader.tables ended =
      subst (ReaderIs (row gs i) x.memory.reader.base x.memory.reader.pos x.memory.reader.tables) end a.memory.reader in
      omega (arith, a.clear, a.memory.finished end, r.0)
