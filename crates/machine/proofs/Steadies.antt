-- A step keeps the memory's length, and its numbers below 2^64.
use Rattle.std.proofs.Common.{◌≡◌, ℕ, zero, suc, ◌+◌, ◌-◌, ◌*◌, ◌/◌, ◌^◌, ◌<◌, ◌≤◌, Bool, true, false, cond, ◌&&◌, eqb, ltb, leb, max, List, [], ◌∷◌, ◌++◌, length, get_or, take, drop, set, replicate, Some, None, Ok, Err, Option, Result, refl, ◌∙◌, arith, lit<, length-append, length-take}
use Rattle.std.proofs.lemmas.List.{length-set, length-replicate}
use Rattle.std.proofs.lemmas.Bool.{and_from, and_parts, lt-ltb, ltb-true, eqb-true, cond_both}
use Rattle.sums.specs.Cells.{places, pages, slots}
use Rattle.sums.specs.Digits.{fits}
use Rattle.sums.specs.Pages.{page_sums, page_counts, page_length, sum_width, count_width}
use Rattle.sums.specs.Sums.{every, or}
use Rattle.sums.specs.Tables.{entry_with}
use Rattle.sums.specs.Written.{written}
use Rattle.sums.specs.declared.tables.Entry.{Entry}
use Rattle.sums.specs.declared.tables.TableError.{TableError}
use Rattle.sums.proofs.Columns.{length_sums, length_counts}
use Rattle.sums.proofs.Everys.{every_append, every_set, every_weaker}
use Rattle.sums.proofs.Overwrites.{length_written}
use Rattle.store.specs.Drawers.{page_drawer}
use Rattle.store.specs.Records.{root_of, cursor_of, set_number}
use Rattle.store.specs.declared.records.Root.{Root}
use Rattle.store.proofs.RoundTrips.{set_fits}
use Rattle.protocol.specs.Adder.{next_slot}
use Rattle.protocol.specs.Bounds.{ready_hour}
use Rattle.protocol.specs.GoingOn.{may_go_on}
use Rattle.protocol.specs.Limits.{crew, half_roll}
use Rattle.protocol.specs.Mail.{next_due, waits_for}
use Rattle.gauge.specs.Memory as memory
use Rattle.gauge.specs.Memory.{at, cells, limit, no_next, phase_at, index_at, telling_at, me_at, stage_at, hour_at, next_at, pos_at, set_at, paused_at, kept_at, filled_at, cursor_hour_at, cursor_slot_at, due_at, woke_at, sums_at, counts_at, placing, placed, ready, noting, saving, asks_root, asks_page, asks_cursor}
use Rattle.gauge.specs.Views.{memory_of, stage_in}
use Rattle.gauge.specs.Deeds.{Done}
use Rattle.gauge.specs.Gauge.{due_to_all, with_news, sums_in, counts_in, taken_by, takes, read, row_ended, page_saved_in, page_saved, shadow_in, set_named, root_saved, save_next, tables_cleared, gone_on}
use Rattle.gauge.proofs.Entries.{entry_either}
use Rattle.exchange.specs.Adder.{slot_told, sum_heard, with_cursor, cursor_noted, due_where, due_to_waiting, hour_passed}
use Rattle.exchange.specs.Mail.{letter_sent, with_letter}
use Rattle.exchange.proofs.Found.{Below, slot_below}
use Rattle.exchange.proofs.Letter.{OnSome, letter_keeps}
use Rattle.machine.specs.Boot.{woken, root_read, page_asked_in, root_recalled, page_read, page_fits, page_recalled, with_filled, has_reading, woke_to_all, booted, cursor_recalled, recalled}
use Rattle.machine.specs.Choose.{told_next, sent_next, chosen, chooses}
use Rattle.machine.specs.Machine.{absorbed, paused, finished, went_on, while_ready, hears, wakes_up, reacts, as_step, machine_step}
use Rattle.machine.specs.Run.{Event, wakes, comes, later, ends, letter, slot, next, rests, Steady, all_small}
use Rattle.machine.specs.Entry.{own}
use Rattle.machine.proofs.Ready.{number_small, ready_small}

module _ {A : Type 0} (f : A → Bool) where
  every_take : (n : ℕ) (l : List A) → every f l ≡ true → every f (take n l) ≡ true
  unfolding every
  every_take zero l a = refl
  every_take (suc n) [] a = refl
  every_take (suc n) (x ∷ l) a = let p = and_parts (f x) _ a in and_from _ _ p.0 (every_take n l p.1)

  every_drop : (n : ℕ) (l : List A) → every f l ≡ true → every f (drop n l) ≡ true
  unfolding every
  every_drop zero l a = a
  every_drop (suc n) [] a = refl
  every_drop (suc n) (x ∷ l) a = every_drop n l (and_parts (f x) _ a).1

  every_replicate : (n : ℕ) (x : A) → f x ≡ true → every f (replicate n x) ≡ true
  unfolding every
  every_replicate zero x h = refl
  every_replicate (suc n) x h = and_from _ _ h (every_replicate n x h)

-- an entry of the tables, where there is one, has small numbers
SmallEntry : Result Entry TableError → Type 0
SmallEntry (Ok e) = (e.sum < limit) × (e.count < limit)
SmallEntry (Err x) = Unit {0}

small_entry : (ss cs : List ℕ) (k v : ℕ) → SmallEntry (entry_with ss cs k v)
unfolding SmallEntry
small_entry ss cs k v = entry_either ss cs k v SmallEntry (λ _ sum count. (sum, omega arith)) (λ _. tt)

max_small : (a b : ℕ) → a < limit → b < limit → max a b < limit
max_small a b lt lt' = omega arith

-- KEPT: a memory of the same length, small where the first is
Kept : (m m₁ : List ℕ) → Type 0
Kept m m₁ = (length m₁ ≡ length m) × (all_small m ≡ true → all_small m₁ ≡ true)

same : (m : List ℕ) → Kept m m
unfolding Kept
same m = (refl, λ a. a)

either : (m : List ℕ) (b : Bool) (s t : Done) → (b ≡ true → Kept m s.memory) → (b ≡ false → Kept m t.memory) → Kept m (cond b s t).memory
either m true s t p q = p refl
either m false s t p q = q refl

module _ (m : List ℕ) where
  -- one write more
  wrote : (m₁ : List ℕ) (i x : ℕ) → Kept m m₁ → (all_small m ≡ true → x < limit) → Kept m (set m₁ i x)
  unfolding Kept all_small
  wrote m₁ i x k h = (length-set m₁ i x ∙ k.0, λ a. every_set _ m₁ i x (k.1 a) (lt-ltb _ _ (h a)))

  -- a row of numbers over a part
  wrote_row : (m₁ : List ℕ) (i : ℕ) (ys : List ℕ) → Kept m m₁ → i + length ys ≤ length m → all_small ys ≡ true → Kept m (written m₁ i ys)
  unfolding Kept all_small
  wrote_row m₁ i ys k le h = (
    length_written m₁ i ys (omega (arith, k.0)) ∙ k.0,
    λ a. every_append _ (take i m₁) (ys ++ drop (i + length ys) m₁) (every_take _ i m₁ (k.1 a))
        (every_append _ ys (drop (i + length ys) m₁) h (every_drop _ (i + length ys) m₁ (k.1 a))),
  )

  number : (m₁ : List ℕ) (i : ℕ) → Kept m m₁ → all_small m ≡ true → at m₁ i < limit
  unfolding Kept
  number m₁ i k a = number_small m₁ i (k.1 a)

  woken_kept : (i : ℕ) → Kept m (woken m i).memory
  unfolding Kept all_small
  woken_kept i =
      either m (ltb i crew) _ _
      (λ e. let lt = ltb-true _ _ e in
      wrote _ phase_at asks_root (wrote _ me_at i (length-replicate (length m) 0, λ a. every_replicate _ (length m) 0 refl) (λ _. omega arith)) (λ _. lit< tt)) (λ e. same m)

  -- of a memory of the machine's own length
  module _ (len : length m ≡ cells) where
    filled_row : (x : List ℕ) (i n v : ℕ) → Kept m x → i + n ≤ cells → v < limit → Kept m (written x i (replicate n v))
    unfolding all_small
    filled_row x i n v k le lt =
        wrote_row x i (replicate n v) k (omega (arith, length-replicate {A = ℕ} n v)) (every_replicate _ n v (lt-ltb _ _ lt))

    -- THE GAUGE
    due_kept : (x : List ℕ) → Kept m x → Kept m (due_to_all x)
    due_kept x k = wrote _ (due_at + at x me_at) 0 (filled_row x due_at crew 1 k (omega arith) (lit< tt)) (λ _. lit< tt)

    news_kept : (x : List ℕ) (n y : ℕ) → Kept m x → n < limit → y < limit → Kept m (with_news x n y)
    news_kept x n y k ln ly = due_kept _ (wrote _ next_at y (wrote x stage_at n k (λ _. ln)) (λ _. ly))

    taken_kept : (h : ℕ) (r : Result Entry TableError) → h < limit → SmallEntry r → OnSome (Kept m) (taken_by m h r)
    unfolding SmallEntry
    taken_kept h (Ok e) lt s =
        cond_both (ltb (at m pos_at + 1) limit) _ _ (OnSome (Kept m))
        (λ p. wrote _ filled_at 1
        (wrote _ pos_at (at m pos_at + 1)
        (wrote _ hour_at (max (at m hour_at) h)
        (wrote _ (counts_at + e.cell) e.count (wrote m (sums_at + e.cell) e.sum (same m) (λ _. s.0)) (λ _. s.1))
        (λ a. max_small (at m hour_at) h (number_small m hour_at a) lt)) (λ _. ltb-true _ _ p)) (λ _. lit< tt))
        (λ _. tt)
    taken_kept h (Err x) lt s = tt

    read_kept : (t k v : ℕ) → OnSome (Kept m) (read m t k v)
    read_kept t k v =
        cond_both (ltb t 4611686018427387904 && (ltb k places && ltb v 4294967296)) _ _ (OnSome (Kept m))
        (λ e.
        let lt : t < 4611686018427387904 = ltb-true _ _ (and_parts _ _ e).0 in
        cond_both (takes m (t / 100)) _ _ (OnSome (Kept m))
        (λ _. taken_kept (t / 100) (entry_with (sums_in m) (counts_in m) k v) (omega arith) (small_entry (sums_in m) (counts_in m) k v))
        (λ _. news_kept m memory.whole (t / 100) (same m) (lit< tt) (omega arith)))
        (λ _. tt)

    row_ended_kept : Kept m (row_ended m)
    row_ended_kept =
        cond_both (eqb (at m filled_at) 0) _ _ (Kept m) (λ _. news_kept m memory.ended no_next (same m) (lit< tt) (lit< tt))
        (λ _. news_kept m memory.whole no_next (same m) (lit< tt) (lit< tt))

    page_saved_kept : (p : ℕ) → p < pages → Kept m (page_saved m p).memory
    page_saved_kept p lt = go (page_drawer (shadow_in m) p)
      where
        go : (d : Option ℕ) → Kept m (page_saved_in m p d).memory
        go (Some d) = wrote _ index_at p (wrote m phase_at saving (same m) (λ _. lit< tt)) (λ _. omega arith)
        go None = same m

    root_saved_kept : Kept m (root_saved m).memory
    root_saved_kept =
        wrote _ phase_at placing
        (wrote _ kept_at (at m pos_at) (wrote _ paused_at 1 (wrote m set_at (set_number (shadow_in m)) (same m) (λ _. set_fits (shadow_in m))) (λ _. lit< tt))
        (λ a. number_small m pos_at a)) (λ _. lit< tt)

    save_next_kept : Kept m (save_next m).memory
    save_next_kept =
        either m (ltb (at m index_at + 1) pages) _ _ (λ e. page_saved_kept (at m index_at + 1) (ltb-true _ _ e)) (λ e. root_saved_kept)

    cleared_kept : (x : List ℕ) → Kept m x → Kept m (tables_cleared x)
    cleared_kept x k = filled_row x sums_at (2 * places) 0 k (omega arith) (lit< tt)

    gone_on_kept : (x : List ℕ) → Kept m x → Kept m (gone_on x).memory
    gone_on_kept x k =
        either m (ltb (at x hour_at + 1) limit) _ _
        (λ e. wrote _ filled_at 0
        (wrote _ paused_at 0 (wrote _ hour_at (at x hour_at + 1) (wrote _ stage_at memory.begun (cleared_kept x k) (λ _. lit< tt)) (λ _. ltb-true _ _ e)) (λ _. lit< tt)) (λ _. lit< tt))
        (λ e. k)

    -- THE ADDER
    slot_told_kept : (x : List ℕ) (h s : ℕ) → Kept m x → (all_small m ≡ true → h < limit) → s < slots → Kept m (slot_told x h s).memory
    slot_told_kept x h s k lt ls =
        either m (ltb (sum_heard x h s) limit) _ _
        (λ e. wrote _ telling_at h (wrote _ index_at s (wrote x phase_at noting k (λ _. lit< tt)) (λ _. omega arith)) lt) (λ e. k)

    cursor_kept : (x : List ℕ) (h s : ℕ) → Kept m x → (all_small m ≡ true → h < limit) → s < limit → Kept m (with_cursor x h s)
    cursor_kept x h s k lt ls = wrote _ cursor_slot_at s (wrote x cursor_hour_at h k lt) (λ _. ls)

    cursor_noted_kept : Kept m (cursor_noted m).memory
    cursor_noted_kept =
        either m (ltb (at m index_at + 1) limit) _ _
        (λ e. wrote _ phase_at ready (cursor_kept m (at m telling_at) (at m index_at + 1) (same m) (λ a. number_small m telling_at a) (ltb-true _ _ e)) (λ _. lit< tt))
        (λ e. same m)

    due_where_kept : (f : ℕ → Bool) (n : ℕ) (x : List ℕ) → Kept m x → Kept m (due_where f n x)
    unfolding due_where
    due_where_kept f zero x k = k
    due_where_kept f (suc n) x k =
        cond_both (f n) _ _ (Kept m) (λ _. wrote _ (due_at + n) 1 (due_where_kept f n x k) (λ _. lit< tt)) (λ _. due_where_kept f n x k)

    hour_passed_kept : (x : List ℕ) (h : ℕ) → Kept m x → Kept m (hour_passed x h).memory
    hour_passed_kept x h k =
        either m (ltb (h + 1) limit) _ _
        (λ e. due_where_kept (waits_for (memory_of (with_cursor x (h + 1) 0)) h) crew _ (cursor_kept x (h + 1) 0 k (λ _. ltb-true _ _ e) (lit< tt))) (λ e. k)

    -- WHAT IS CHOSEN
    told_next_kept : (x : List ℕ) (h : ℕ) (s : Option ℕ) → Kept m x → (all_small m ≡ true → h < limit) → Below slots s → Kept m (told_next x h s).memory
    told_next_kept x h (Some s) k lt ls = slot_told_kept x h s k lt ls
    told_next_kept x h None k lt ls = hour_passed_kept x h k

    sent_next_kept : (x : List ℕ) (j : Option ℕ) → Kept m x → Kept m (sent_next x j).memory
    sent_next_kept x (Some j) k = wrote _ (woke_at + j) 0 (wrote x (due_at + j) 0 k (λ _. lit< tt)) (λ _. lit< tt)
    sent_next_kept x None k = wrote x paused_at 0 k (λ _. lit< tt)

    chosen_kept : (x : List ℕ) (h : Option ℕ) → Kept m x → (all_small m ≡ true → Below limit h) → Kept m (chosen x h).memory
    chosen_kept x (Some h) k lt = told_next_kept x h (next_slot (memory_of x) h) k lt (slot_below (memory_of x) h)
    chosen_kept x None k lt =
        either m (may_go_on (memory_of x) (stage_in x)) _ _ (λ _. gone_on_kept x k) (λ _. sent_next_kept x (next_due (memory_of x)) k)

    chooses_kept : (x : List ℕ) → Kept m x → Kept m (chooses x).memory
    unfolding Kept
    chooses_kept x k =
        either m (eqb (at x stage_at) 0 && eqb (at x paused_at) 0) _ _ (λ _. k) (λ _. chosen_kept x (ready_hour (memory_of x)) k (λ a. ready_small x (k.1 a)))

    absorbed_kept : (o : Option (List ℕ)) → OnSome (Kept m) o → Kept m (absorbed m o).memory
    absorbed_kept (Some n) k = chooses_kept n k
    absorbed_kept None k = same m

    letter_kept : (j : ℕ) (bs : List ℕ) → OnSome (Kept m) (with_letter m j bs)
    unfolding all_small
    letter_kept j bs =
        letter_keeps (Kept m) (λ x i n _ lt k. wrote x i n k (λ _. lt)) (λ x i ys _ fit long small k. wrote_row x i ys k (omega arith) small) m (same m) j bs

    paused_kept : Kept m (paused m).memory
    paused_kept =
        either m (leb (at m kept_at + half_roll) (at m pos_at)) _ _ (λ _. page_saved_kept 0 (lit< tt))
        (λ _. chooses_kept _ (wrote m paused_at 1 (same m) (λ _. lit< tt)))

    finished_kept : Kept m (finished m).memory
    finished_kept = either m (ltb (at m kept_at) (at m pos_at)) _ _ (λ _. page_saved_kept 0 (lit< tt)) (λ _. chooses_kept _ row_ended_kept)

    went_on_kept : Kept m (went_on m).memory
    went_on_kept =
        either m (eqb (at m phase_at) placing) _ _ (λ _. wrote m phase_at placed (same m) (λ _. lit< tt))
        (λ _. either m (eqb (at m phase_at) placed) _ _ (λ _. wrote m phase_at ready (same m) (λ _. lit< tt))
        (λ _. either m (eqb (at m phase_at) noting) _ _ (λ _. cursor_noted_kept)
        (λ _. either m (eqb (at m phase_at) saving) _ _ (λ _. save_next_kept)
        (λ _. either m (eqb (at m phase_at) ready) _ _ (λ _. chooses_kept m (same m)) (λ _. same m)))))

    -- BOOT
    page_asked_kept : (x : List ℕ) (p : ℕ) (d : Option ℕ) → Kept m x → p < limit → Kept m (page_asked_in x p d).memory
    page_asked_kept x p (Some d) k lt = wrote _ index_at p (wrote x phase_at asks_page k (λ _. lit< tt)) (λ _. lt)
    page_asked_kept x p None k lt = wrote x phase_at asks_cursor k (λ _. lit< tt)

    root_read_kept : (r : Root) → r.hour < limit → r.pos < limit → Kept m (root_read m r)
    root_read_kept r h p =
        wrote _ kept_at r.pos
        (wrote _ paused_at 0
        (wrote _ set_at (set_number r.set)
        (wrote _ pos_at r.pos (wrote _ hour_at r.hour (wrote _ stage_at memory.begun (cleared_kept m (same m)) (λ _. lit< tt)) (λ _. h)) (λ _. p))
        (λ _. set_fits r.set)) (λ _. lit< tt)) (λ _. p)

    root_recalled_kept : (bs : List ℕ) → Kept m (root_recalled m bs).memory
    root_recalled_kept bs =
        either m (ltb (root_of bs).hour limit && ltb (root_of bs).pos limit) _ _
        (λ e.
        let p = and_parts _ _ e in
        page_asked_kept _ 0 (page_drawer (root_of bs).set 0) (root_read_kept (root_of bs) (ltb-true _ _ p.0) (ltb-true _ _ p.1)) (lit< tt))
        (λ e. same m)

    page_read_kept : (p : ℕ) (bs : List ℕ) → p < pages → page_fits bs ≡ true → Kept m (page_read m p bs)
    unfolding all_small
    page_read_kept p bs lt fit =
        let numbers = and_parts (every (fits sum_width) (page_sums bs)) (every (fits count_width) (page_counts bs)) (and_parts (eqb (length bs) page_length) _ fit).1 in
        let counts : all_small (page_counts bs) ≡ true =
        every_weaker (fits count_width) (λ n. ltb n limit) (λ n f. let l : n < 4294967296 = ltb-true n (256 ^ count_width) f in lt-ltb n limit (omega arith)) (page_counts bs)
        numbers.1 in
        wrote_row (written m (sums_at + slots * p) (page_sums bs)) (counts_at + slots * p) (page_counts bs)
        (wrote_row m (sums_at + slots * p) (page_sums bs) (same m) (omega (arith, length_sums bs)) numbers.0) (omega (arith, length_counts bs)) counts

    page_recalled_kept : (bs : List ℕ) → Kept m (page_recalled m bs).memory
    page_recalled_kept bs =
        either m (ltb (at m index_at) pages && page_fits bs) _ _
        (λ e.
        let p = and_parts (ltb (at m index_at) pages) (page_fits bs) e in
        let lt : at m index_at < pages = ltb-true _ _ p.0 in
        page_asked_kept _ (at m index_at + 1) (page_drawer (set_named (at m set_at)) (at m index_at + 1)) (page_read_kept (at m index_at) bs lt p.1) (omega arith))
        (λ e. same m)

    filled_kept : Kept m (with_filled m)
    filled_kept =
        wrote m filled_at _ (same m)
        (λ _. cond_both (has_reading (counts_in m)) 1 0 (λ n. n < limit) (λ _. lit< tt) (λ _. lit< tt))

    woke_kept : (x : List ℕ) → Kept m x → Kept m (woke_to_all x)
    woke_kept x k = wrote _ (woke_at + at x me_at) 0 (filled_row x woke_at crew 1 k (omega arith) (lit< tt)) (λ _. lit< tt)

    cursor_recalled_kept : (bs : List ℕ) → Kept m (cursor_recalled m bs).memory
    cursor_recalled_kept bs =
        either m (ltb (cursor_of bs).hour limit && ltb (cursor_of bs).cell limit) _ _
        (λ e.
        let p = and_parts _ _ e in
        wrote _ phase_at placed
        (woke_kept _ (due_kept _ (cursor_kept _ (cursor_of bs).hour (cursor_of bs).cell filled_kept (λ _. ltb-true _ _ p.0) (ltb-true _ _ p.1)))) (λ _. lit< tt))
        (λ e. same m)

    recalled_kept : (bs : List ℕ) → Kept m (recalled m bs).memory
    recalled_kept bs =
        either m (eqb (at m phase_at) asks_root) _ _ (λ _. root_recalled_kept bs)
        (λ _. either m (eqb (at m phase_at) asks_page) _ _ (λ _. page_recalled_kept bs)
        (λ _. either m (eqb (at m phase_at) asks_cursor) _ _ (λ _. cursor_recalled_kept bs) (λ _. same m)))

    -- THE MACHINE
    while_kept : (d : Done) → Kept m d.memory → Kept m (while_ready m d).memory
    while_kept d k = either m (eqb (at m phase_at) ready) _ _ (λ _. k) (λ _. same m)

    hears_kept : (ev : Event) → Kept m (hears m ev).memory
    hears_kept (wakes i) = woken_kept i
    hears_kept (comes t k v) = while_kept _ (absorbed_kept (read m t k v) (read_kept t k v))
    hears_kept later = while_kept _ paused_kept
    hears_kept ends = while_kept _ finished_kept
    hears_kept (letter j bs) = while_kept _ (absorbed_kept (with_letter m j bs) (letter_kept j bs))
    hears_kept (slot bs) = recalled_kept bs
    hears_kept next = went_on_kept

    reacts_kept : (ev : Event) → Kept m (reacts m ev).memory
    reacts_kept ev = either m (or (wakes_up ev) (ltb (at m me_at) crew)) _ _ (λ _. hears_kept ev) (λ _. same m)

  step_kept : (ev : Event) → Kept m (machine_step m ev).memory
  unfolding machine_step
  step_kept ev = go (eqb (length m) cells) refl
    where
      go : (b : Bool) → eqb (length m) cells ≡ b → Kept m (cond b (as_step (reacts m ev)) (record { memory = m; act = rests })).memory
      go true e = reacts_kept (eqb-true _ _ e) ev
      go false e = same m

-- of any memory and event: the length stays, and so do numbers below 2^64
pub length_kept : (m : List ℕ) (ev : Event) → length (own.step m ev).memory ≡ length m
unfolding own Kept
length_kept m ev = (step_kept m ev).0

pub small_kept : (m : List ℕ) (ev : Event) → all_small m ≡ true → all_small (own.step m ev).memory ≡ true
unfolding own Kept
small_kept m ev = (step_kept m ev).1

pub steady : Steady own
unfolding Steady own Kept
steady = (omega (arith, length-replicate {A = ℕ} cells 0), every_replicate _ cells 0 refl, λ m ev. step_kept m ev)
