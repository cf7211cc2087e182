-- Whatever happens, the tables that a machine's drawers stand for are those of its row.
use Rattle.std.proofs.Common.{◌≡◌, ℕ, ◌+◌, ◌-◌, ◌*◌, ◌/◌, ◌%◌, ◌<◌, ◌≢◌, List, length, refl, sym, ap, ◌∙◌, subst, arith}
use Rattle.sums.specs.Cells.{pages, places}
use Rattle.sums.specs.Sums.{Reading, ToldSum}
use Rattle.sums.specs.Tables.{TablesOf}
use Rattle.store.specs.Drawers.{drawers, root_drawer}
use Rattle.store.specs.Kept.{Kept, kept_of}
use Rattle.store.specs.declared.records.PageSet.{PageSet}
use Rattle.store.specs.declared.records.PageSet.TheVariants.{First, Second}
use Rattle.store.specs.declared.records.PageSet.TheVariants as page_set
use Rattle.machine.specs.Entry.{own}
use Rattle.machine.specs.Run.{Machine, machine_at, nth_row, all_happened, calm, new_world}
use Rattle.protocol.specs.Entries.{entry_of}
use Rattle.protocol.specs.Limits.{crew}
use Rattle.protocol.specs.Reader.{no_set}
use Rattle.protocol_world.specs.Drawers.{page_drawer}
use Rattle.protocol_world.proofs.Rows.{fine_late}
use Rattle.protocol_bridge.proofs.Engines.{then_is}
use Rattle.protocol_bridge.proofs.Mirrored.{code, implements}
use Rattle.protocol_bridge.specs.Promises.{Accounted, PagesKept}
use Rattle.whole.specs.Seen.{set_seen, as_root, root_seen, page_seen, own_views}
use Rattle.whole.specs.Stand.{kept_entry, StandsForRow, KeptAddsUp}
use Rattle.whole.proofs.Stands.{read_as}
use Rattle.whole.proofs.Mirrored.{own_mirrors}
use Rattle.whole.proofs.Promised.{released_kept}

some_seen : (s : PageSet) → (s ≢ page_set.None) → set_seen s ≢ no_set
some_seen page_set.None some = absurd (some refl)
some_seen First some = λ e. cc
some_seen Second some = λ e. cc

-- the page of the root's hour itself is that of the place's adder
same_page : (c h k : ℕ) → c * (h - h) + k ≡ k
same_page c h k = let e : h - h ≡ 0 = omega arith in ap (λ n. c * n + k) e ∙ omega arith

module _ (row : List Reading) (ts : List ToldSum) (x : Machine) where
  abbrev k : Kept
  k = kept_of x.slots

  entry_there : PagesKept own_views row x (as_root k.root) → (k.root.set ≢ page_set.None) → (place : ℕ) → place < places →
      kept_entry k (place % pages) (place / pages) ≡ entry_of row k.root.pos k.root.hour place
  entry_there kept some place lt =
      let at = kept k.root.hour place (some_seen k.root.set some) (omega arith) (omega arith) lt in
      let seen = ap (λ q. page_seen (nth_row x.slots (page_drawer (set_seen k.root.set) q))) (sym (same_page crew k.root.hour (place % crew))) ∙ at.1 in
      sym ((read_as x.slots).page_read (place % pages) at.0 some (omega arith) seen (place / pages) (omega arith)) ∙ at.2

  tables_there : PagesKept own_views row x (as_root k.root) → (k.root.set ≢ page_set.None) → TablesOf row k.root.pos k.root.hour k.sums k.counts
  unfolding entry_of
  tables_there kept some =
      record {
        sums = ((read_as x.slots).lengths.0, λ place lt. ap (λ e. e.sum) (entry_there kept some place lt));
        counts = ((read_as x.slots).lengths.1, λ place lt. ap (λ e. e.count) (entry_there kept some place lt));
      }

  pub stands_for_row : length x.slots ≡ drawers → Accounted own_views row ts x (root_seen (nth_row x.slots root_drawer)) → StandsForRow row x k
  stands_for_row size roll =
      let all = subst (Accounted own_views row ts x) (read_as x.slots).root_read roll in
      (size, all.0, all.1, tables_there all.3)

pub kept_adds_up : KeptAddsUp
unfolding KeptAddsUp
kept_adds_up gs is k n i fine lt =
    let w = calm k n own gs (all_happened own gs (new_world own) is) in
    let alike = then_is (code own_views) own (implements own_views own own_mirrors) gs (record { fine = fine_late gs fine }) is k n in
    stands_for_row (nth_row gs i) w.told (machine_at w.machines i) (alike.nodes i lt).size (released_kept gs is k n i fine lt)
