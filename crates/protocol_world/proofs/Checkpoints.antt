-- A checkpoint: what each of its acts leaves of a good world.
use Rattle.std.proofs.Common.{◌≡◌, ℕ, suc, ◌+◌, ◌-◌, ◌<◌, ◌≤◌, true, false, ◌&&◌, eqb, ltb, length, sym, refl, ap, subst, arith, Some}
use Rattle.std.proofs.lemmas.Bool.{eqb-true, both_ways, and_from, and_parts, eq-eqb, ltb-true, ltb-false}
use Rattle.sums.specs.Sums.{pick, Gauges}
use Rattle.sums.proofs.Picks.{pick_both}
use Rattle.protocol.specs.Checkpoints.{page_kept, saves_next, saved, saved_root}
use Rattle.protocol.specs.Limits.{crew, kept_pages}
use Rattle.protocol.specs.Memory.{Memory}
use Rattle.protocol.specs.Phases.{placing, saving, keep_root, keep_page, does}
use Rattle.protocol.specs.Reader.{first_open, Stage, begun, whole, ended, PageSet, no_set, first_set, second_set, other_set, same_set}
use Rattle.protocol.specs.Tables.{Page}
use Rattle.protocol.proofs.Tables.{hour_at}
use Rattle.protocol_world.specs.Worlds.{Node, World, with_root, with_kept_page, done}
use Rattle.protocol_world.proofs.Invariant.{MaySave, ReaderIs, MemoryIs, row, is_placing, is_saving, Own, hours, Knows, Good}
use Rattle.protocol_world.proofs.Roots.{open_is, root_saved, root_apart}
use Rattle.protocol_world.proofs.Readers.{RowFine, saved_memory}
use Rattle.protocol_world.proofs.Changes.{no_letter, set_good, same_drawers}

module _ (gs : Gauges) (fine : (i : ℕ) → i < crew → RowFine (row gs i)) where
  module _ (w : World) (i : ℕ) (lt : i < crew) (g : Good gs w) where
    abbrev x : Node
    x = w.node i

    abbrev H : ℕ → ℕ
    H = hours gs w

    abbrev o : Own gs w.told i x
    o = g.own i lt

    other_apart : (s : PageSet) → same_set s (other_set s) ≡ false
    other_apart no_set = refl
    other_apart first_set = refl
    other_apart second_set = refl

    set_itself : (s : PageSet) → same_set s s ≡ true
    set_itself no_set = refl
    set_itself first_set = refl
    set_itself second_set = refl

    module _ (b : Memory) (is : MemoryIs (row gs i) i x.root x.cursor b) (k : Knows gs H i b) (clear : x.gone ≡ x.root.pos)
        (room : b.reader.pos ≤ x.gone + 4096) (newer : x.root.pos ≤ b.reader.pos) where
      abbrev other : PageSet
      other = other_set b.reader.set

      -- one page is kept
      pub page_good : (q : ℕ) → q < kept_pages → MaySave x.root.pos b b.reader.stage → ((j : ℕ) → j < q → x.pages other j ≡ Some (page_kept b j)) →
          Good gs (done gs w i (does (saving q) b (keep_page other q (page_kept b q))))
      page_good q lq m same =
          let pg : Page = page_kept b q in
          set_good gs w i lt g (with_kept_page x (saving q) b other q pg) (same_drawers gs w i lt g _ refl (omega arith) k) no_letter
          (record {
            low = o.low;
            high = o.high;
            root = root_apart (row gs i) x.root.set x.pages (λ t j. pick (same_set t other && eqb j q) (Some pg) (x.pages t j)) x.root.hour x.root.pos
                (λ j lj. ap (λ t. pick (t && eqb j q) (Some pg) (x.pages x.root.set j))
                (subst (λ s. same_set s other ≡ false) is.set (other_apart b.reader.set))) o.root;
            cursor = o.cursor;
            hour = o.hour;
            slot = o.slot;
            awaits = is_saving q (record { memory = is; clear = clear; room = room; newer = newer }) lq m
                (λ j l. pick_both (same_set other other && eqb j q) (Some pg) (x.pages other j) (λ p. p ≡ Some (page_kept b j))
                (λ e. ap (λ n. Some (page_kept b n)) (sym (eqb-true j q (and_parts (same_set other other) (eqb j q) e).1)))
                (λ e. same j (omega (arith, not_last j q e))));
          })
        where
          not_last : (j q : ℕ) → same_set other other && eqb j q ≡ false → j ≡ q → ⊥
          not_last j q e r = both_ways _ e (and_from (same_set other other) (eqb j q) (set_itself other) (eq-eqb j q r))

      -- what is behind the open hours is told by all
      behind : (s : Stage) → MaySave x.root.pos b s → ReaderIs (row gs i) b.reader.base b.reader.pos b.reader.tables s → (j : ℕ) → j < crew → (p : ℕ) →
          p < length (row gs i) →
          hour_at (row gs i) p < first_open s → hour_at (row gs i) p < H j
      behind (begun f) m r j lj p lp l = k.behind j lj p lp (r.done p lp l)
      behind (whole c nx) m r j lj p lp l = absurd m
      behind ended m r j lj p lp l = absurd m

      -- all pages are kept: the root record names them
      saved_good : MaySave x.root.pos b b.reader.stage → ((j : ℕ) → j < kept_pages → x.pages other j ≡ Some (page_kept b j)) →
          Good gs (done gs w i (does placing (saved b) (keep_root (saved_root b))))
      saved_good m same =
          set_good gs w i lt g (with_root x placing (saved b) (saved_root b))
          (record { rises = omega arith; before = behind b.reader.stage m is.reader; knows = record { words = k.words; passed = k.passed; behind = k.behind } })
          no_letter
          (record {
            low = omega (arith, o.low);
            high = room;
            root = root_saved (row gs i) b.reader.set x.pages b.reader.pos (first_open b.reader.stage) b.reader.tables same
                (open_is (row gs i) b.reader.base b.reader.pos b.reader.tables x.root.pos b b.reader.stage m is.reader);
            cursor = o.cursor;
            hour = o.hour;
            slot = o.slot;
            awaits = is_placing (saved_memory (row gs i) (fine i lt) i x.root x.cursor b is x.root.pos m) refl;
          })

      pub saves_good : (q : ℕ) → MaySave x.root.pos b b.reader.stage → ((j : ℕ) → j < suc q → x.pages other j ≡ Some (page_kept b j)) →
          Good gs (done gs w i (saves_next b q))
      saves_good q m same = pick_both (ltb (suc q) kept_pages) _ _ (λ d. Good gs (done gs w i d))
          (λ t. page_good (suc q) (ltb-true (suc q) kept_pages t) m same)
          (λ t. saved_good m (λ j lj. same j (omega (arith, ltb-false (suc q) kept_pages t))))
