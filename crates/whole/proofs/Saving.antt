-- A checkpoint, by the cells as by the protocol: a page is kept, and then the root record that names them all.
use Rattle.std.proofs.Common.{◌≡◌, ℕ, suc, ◌+◌, ◌/◌, ◌%◌, ◌<◌, Bool, true, false, cond, ltb, List, [], ◌∷◌, length, refl, sym, ap, ap₂, add-one, ◌∙◌, subst, arith}
use Rattle.std.proofs.lemmas.Bool.{ltb-true, eq-eqb}
use Rattle.sums.specs.Cells.{pages}
use Rattle.sums.specs.Pages.{page_bytes}
use Rattle.sums.specs.Sums.{pick}
use Rattle.store.specs.Records.{root, root_bytes, set_number}
use Rattle.protocol.specs.Checkpoints.{page_kept, saved, saved_root, saves_next}
use Rattle.protocol.specs.Limits.{crew}
use Rattle.protocol.specs.Memory.{Memory}
use Rattle.protocol.specs.Phases as phase
use Rattle.protocol.specs.Phases.{saving, placing}
use Rattle.protocol.specs.Reader.{begun, is_reading, other_set, first_open}
use Rattle.protocol.specs.Tables.{blank}
use Rattle.protocol_world.specs.Sizes.{top, StageSized, PageSized, OpenSized, MemorySized}
use Rattle.protocol_bridge.specs.Same.{SameOpen}
use Rattle.gauge.specs.Gauge.{set_named, shadow_in, page_saved_in, page_saved, root_saved, save_next}
use Rattle.gauge.specs.Memory.{at, cells, phase_at, index_at, me_at, stage_at, hour_at, next_at, pos_at, set_at, paused_at, kept_at, page_sums_in, page_counts_in}
use Rattle.gauge.specs.Views.{stage_of, stage_in, set_of, table_in, tables_in, memory_of}
use Rattle.protocol_bridge.specs.Views.{PageSeen}
use Rattle.protocol_world.specs.Drawers.{page_drawer}
use Rattle.machine.specs.Run as given
use Rattle.whole.specs.Seen.{set_seen, filled_as_said, own_views}
use Rattle.whole.proofs.Bytes.{root_kept, root_fits_bytes, set_by_number, number_of_set, shadow_seen, drawer_of_shadow, table_page_seen, table_page_bytes}
use Rattle.whole.proofs.Cells.{sets, found, all_in}
use Rattle.whole.proofs.Heads.{phase_now, mail_now, tables_now, said_now, memory_now}
use Rattle.whole.proofs.Choosing.{Does}

module _ (m : List ℕ) (len : length m ≡ cells) (me : at m me_at < crew) (said : filled_as_said m ≡ true) (st : at m stage_at ≡ 0) (sized : MemorySized (memory_of m)) where
  abbrev f : ℕ
  f = at m hour_at

  abbrev b : Memory
  b = memory_of m

  stage_is : stage_in m ≡ begun f
  stage_is = ap (λ t. stage_of t f (at m next_at)) st

  hour_low : f < top
  hour_low = subst StageSized stage_is sized.stage

  open_now : OpenSized (tables_in m) (begun f)
  open_now = subst (OpenSized (tables_in m)) stage_is sized.pages

  -- page q of those that are kept is that of the tables
  page_now : (q : ℕ) → q < pages → page_kept b q ≡ (table_in m).page q
  page_now q lt =
      let hour : first_open (stage_in m) + q / crew ≡ f = ap (λ s. first_open s + q / crew) stage_is ∙ omega (arith, lt) in
      let page : q % crew ≡ q = omega (arith, lt) in
      ap₂ (λ h j. (tables_in m h).page j) hour page ∙ ap (λ c. (cond c (table_in m) blank).page q) (eq-eqb f f refl)

  page_small : (q : ℕ) → q < pages → PageSized ((table_in m).page q)
  page_small q lt = subst (λ c. PageSized ((cond c (table_in m) blank).page q)) (eq-eqb f f refl) (open_now.0 f q (omega arith) lt)

  -- the set that is written
  shadow_is : set_seen (shadow_in m) ≡ other_set (set_of (at m set_at))
  shadow_is = shadow_seen (set_named (at m set_at)) ∙ ap other_set (set_by_number (at m set_at))

  pub page_saved_does : (q : ℕ) → q < pages → Does (phase.does (saving q) b (phase.keep_page (other_set b.reader.set) q (page_kept b q))) (page_saved m q)
  unfolding sets found all_in
  page_saved_does q lt =
      let xs : List (ℕ × ℕ) = (index_at, q) ∷ (phase_at, 8) ∷ [] in
      let drawer = drawer_of_shadow (set_named (at m set_at)) q lt in
      subst (λ o. Does (phase.does (saving q) b (phase.keep_page (other_set b.reader.set) q (page_kept b q))) (page_saved_in m q o)) (sym drawer)
      (record {
        phase = phase_now xs m len refl;
        memory = memory_now xs m len refl b me refl refl refl refl refl refl refl (tables_now xs m len refl refl b refl) (mail_now xs m len refl);
        said = said_now xs m len refl refl said;
        act = (
          page_bytes (page_sums_in m q) (page_counts_in m q),
          ap (λ s. given.keep (page_drawer (other_set s) q) (page_bytes (page_sums_in m q) (page_counts_in m q))) (set_by_number (at m set_at)),
          subst (λ p. PageSeen own_views (page_bytes (page_sums_in m q) (page_counts_in m q)) p) (sym (page_now q lt)) (table_page_seen m len q lt (page_small q lt)),
          table_page_bytes m len q lt,
        );
      })

  pub root_saved_does : Does (phase.does placing (saved b) (phase.keep_root (saved_root b))) (root_saved m)
  unfolding sets found all_in
  root_saved_does =
      let xs : List (ℕ × ℕ) = (phase_at, 4) ∷ (kept_at, at m pos_at) ∷ (paused_at, 1) ∷ (set_at, set_number (shadow_in m)) ∷ [] in
      let bs = root_bytes (root (shadow_in m) f (at m pos_at)) in
      record {
        phase = phase_now xs m len refl;
        memory = memory_now xs m len refl (saved b) me refl
            (ap (λ s. begun (first_open s)) stage_is ∙ sym stage_is) refl
            (sym (number_of_set (shadow_in m) ∙ shadow_is))
            (ap is_reading stage_is) refl refl
            (subst (λ s. SameOpen (begun (first_open s)) (tables_in m) (tables_in (sets xs m))) (sym stage_is)
            (subst (λ s. SameOpen s (tables_in m) (tables_in (sets xs m))) stage_is (tables_now xs m len refl refl b refl))) (mail_now xs m len refl);
        said = said_now xs m len refl refl said;
        act = (
          bs,
          refl,
          root_kept (root (shadow_in m) f (at m pos_at)) (record { hour = omega (arith, hour_low); pos = omega (arith, sized.pos) })
              ∙ ap₂ (λ s h. record { set = s; hour = h; pos = at m pos_at }) shadow_is (sym (ap first_open stage_is)),
          root_fits_bytes (root (shadow_in m) f (at m pos_at)),
        );
      }

  -- after page q: the next, or the root record
  pub save_next_does : (q : ℕ) → q < pages → at m index_at ≡ q → Does (saves_next b q) (save_next m)
  save_next_does q lt i =
      subst (λ k. Does (saves_next b q) (cond (ltb (k + 1) pages) (page_saved m (k + 1)) (root_saved m))) (sym i)
      (subst (λ k. Does (saves_next b q) (cond (ltb k pages) (page_saved m k) (root_saved m))) (sym (add-one q)) (on (ltb (suc q) pages) refl))
    where
      on : (c : Bool) → ltb (suc q) pages ≡ c →
          Does (pick c (phase.does (saving (suc q)) b (phase.keep_page (other_set b.reader.set) (suc q) (page_kept b (suc q)))) (phase.does placing (saved b) (phase.keep_root (saved_root b))))
          (cond c (page_saved m (suc q)) (root_saved m))
      on true e = page_saved_does (suc q) (ltb-true (suc q) pages e)
      on false e = root_saved_does
