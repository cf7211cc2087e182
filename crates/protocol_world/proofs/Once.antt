-- How often one row stands on the wall: by where its adder goes on, and by whether it has just been told.
use Rattle.std.proofs.Common.{◌≡◌, ℕ, suc, ◌+◌, ◌*◌, ◌/◌, ◌%◌, ◌<◌, ◌≤◌, ◌⊎◌, Bool, true, false, ◌&&◌, eqb, List, [], ◌∷◌, ◌++◌, sym, refl, ap, ◌∙◌, subst, inl, inr, ⊎_elim, arith}
use Rattle.std.proofs.lemmas.Bool.{cases_eq, cases_lt, cases_Bool, and_parts, and_from, eqb-true, eqb-false, eq-eqb, true≢false}
use Rattle.sums.specs.Cells.{slots}
use Rattle.sums.specs.Sums.{pick, every, Gauges, comes_up}
use Rattle.sums.proofs.Picks.{pick_both, pick_two}
use Rattle.protocol.specs.Limits.{crew}
use Rattle.protocol.specs.Memory.{Cursor}
use Rattle.protocol.specs.Phases.{Phase, noting}
use Rattle.protocol.specs.Searches.{put}
use Rattle.protocol_world.specs.Runs.{waking, fallen}
use Rattle.protocol_world.specs.Wall.{Told, is_right, times_told}
use Rattle.protocol_world.specs.Worlds.{Node, World, with_telling}
use Rattle.protocol_world.proofs.Fronts.{front, front_by, AtOrBefore, before_more}
use Rattle.protocol_world.proofs.Invariant.{Before, NextRow}

abbrev one : Bool → ℕ
one b = pick b 1 0

pub times_last : (h k : ℕ) (ts : List Told) (t : Told) → times_told h k (ts ++ t ∷ []) ≡ times_told h k ts + pick (eqb t.hour h && eqb t.place k) 1 0
unfolding times_told
times_last h k [] t = omega arith
times_last h k (u ∷ ts) t = omega (arith, times_last h k ts t)

-- what does not come up is not told
times_none : (gs : Gauges) (h k : ℕ) (ts : List Told) → every (is_right gs) ts ≡ true → comes_up gs h k ≡ false → times_told h k ts ≡ 0
unfolding every times_told
times_none gs h k [] r e = refl
times_none gs h k (t ∷ ts) r e = on (eqb t.hour h && eqb t.place k) refl (times_none gs h k ts (and_parts (is_right gs t) (every (is_right gs) ts) r).1 e)
  where
    on : (b : Bool) → eqb t.hour h && eqb t.place k ≡ b → times_told h k ts ≡ 0 → pick b 1 0 + times_told h k ts ≡ 0
    on true q z =
        let both = and_parts (eqb t.hour h) (eqb t.place k) q in
        let up : comes_up gs t.hour t.place ≡ true = (and_parts (comes_up gs t.hour t.place) _ (and_parts (is_right gs t) (every (is_right gs) ts) r).0).0 in
        absurd (true≢false (sym (subst (λ b. comes_up gs t.hour b ≡ true) (eqb-true t.place k both.1) up) ∙ ap (λ a. comes_up gs a k) (eqb-true t.hour h both.0)
        ∙ e))
    on false q z = omega (arith, z)

module _ (gs : Gauges) (h k : ℕ) where
  -- the adder of the place
  abbrev pub owner : ℕ
  owner = k % crew

  abbrev pub IsBefore : Cursor → Type 0
  IsBefore c = Before gs h k c.hour c.slot

  abbrev pub times : List Told → ℕ
  times ts = times_told h k ts

  -- where the row's slot is about to be noted, it has just been told
  abbrev pub Noted : Bool → Phase → Type 0
  Noted just (noting m s) = h ≡ m → k / crew ≡ s → just ≡ true
  Noted just p = Unit {0}

  -- with c strikes just after it was told, it stands there c times, or once more where its adder has gone past it
  pub record ExactAt (c : ℕ) (just : Bool) (ts : List Told) (y : Node) : Type 0 where
    pub few : (IsBefore (front y) × (times ts ≤ suc c)) ⊎ (times ts ≤ c)
    pub noted : Noted just y.phase

  pub record ExactIs (c : ℕ) (just : Bool) (w : World) : Type 0 where
    pub at : ExactAt c just w.told (w.node owner)

  pub exact_few : (c : ℕ) (just : Bool) (w : World) → ExactIs c just w → times w.told ≤ suc c
  exact_few c just w o = ⊎_elim (λ b. b.1) (λ le. omega (arith, le)) o.at.few

  module _ (c : ℕ) (just : Bool) (w : World) (o : ExactIs c just w) (i : ℕ) where
    here : owner ≡ i → ExactAt c just w.told (w.node i)
    here q = subst (λ a. ExactAt c just w.told (w.node a)) q o.at

    -- NO ROW IS TOLD
    moved : (x₁ : Node) → AtOrBefore (front (w.node i)) (front x₁) → ExactAt c just w.told (w.node i) → (t : Bool) → Noted t x₁.phase → ExactAt c t w.told x₁
    moved x₁ le a t nt = record { few = ⊎_elim (λ b. inl (before_more gs h k (front (w.node i)) (front x₁) le b.0, b.1)) (λ q. inr q) a.few; noted = nt }

    pub exact_set : (t : Bool) (x₁ : Node) → AtOrBefore (front (w.node i)) (front x₁) → Noted t x₁.phase → (v : World) → v.node ≡ put w.node i x₁ →
        v.told ≡ w.told →
        ExactIs c (pick (eqb owner i) t just) v
    exact_set t x₁ le nt v e q = record {
      at = subst (λ ts. ExactAt c (pick (eqb owner i) t just) ts (v.node owner)) (sym q)
          (subst (λ (f : ℕ → Node). ExactAt c (pick (eqb owner i) t just) w.told (f owner)) (sym e)
          (pick_two (eqb owner i) (eqb owner i) refl t just x₁ (w.node owner) (λ j y. ExactAt c j w.told y) (λ d. moved x₁ le (here (eqb-true owner i d)) t nt)
          (λ _. o.at)));
    }

    -- the same memory, or one where nothing is noted: nothing was done
    pub exact_as : (x₁ : Node) → AtOrBefore (front (w.node i)) (front x₁) → (owner ≡ i → Noted just x₁.phase) → (v : World) → v.node ≡ put w.node i x₁ →
        v.told ≡ w.told →
        ExactIs c just v
    exact_as x₁ le nt v e q = record {
      at = subst (λ ts. ExactAt c just ts (v.node owner)) (sym q) (subst (λ (f : ℕ → Node). ExactAt c just w.told (f owner)) (sym e)
          (pick_two (eqb owner i) (eqb owner i) refl just just x₁ (w.node owner) (λ j y. ExactAt c just w.told y)
          (λ d. moved x₁ le (here (eqb-true owner i d)) just (nt (eqb-true owner i d))) (λ _. o.at)));
    }

    pub exact_same : (t : Bool) → Noted t (w.node i).phase → (v : World) → v.node ≡ w.node → v.told ≡ w.told → ExactIs c (pick (eqb owner i) t just) v
    exact_same t nt v e q = record {
      at = subst (λ ts. ExactAt c (pick (eqb owner i) t just) ts (v.node owner)) (sym q)
          (subst (λ (f : ℕ → Node). ExactAt c (pick (eqb owner i) t just) w.told (f owner)) (sym e)
          (pick_both (eqb owner i) t just (λ j. ExactAt c j w.told (w.node owner))
          (λ d. record { few = o.at.few; noted = subst (λ a. Noted t (w.node a).phase) (sym (eqb-true owner i d)) nt }) (λ _. o.at)));
    }

    -- A ROW IS TOLD
    module _ (m s : ℕ) (t : Told) (hour : t.hour ≡ m) (on : t.place % crew ≡ i) (slot : t.place / crew ≡ s)
        (apart : Before gs m t.place (front (w.node i)).hour (front (w.node i)).slot → ⊥) (x₁ : Node) (at : front x₁ ≡ record { hour = m; slot = suc s })
        (phase : x₁.phase ≡ noting m s) where
      abbrev d : Cursor
      d = front (w.node i)

      abbrev it : Bool
      it = eqb t.hour h && eqb t.place k

      further : AtOrBefore d (record { hour = m; slot = suc s })
      further = ⊎_elim
          (λ (l : m < d.hour). absurd (apart (inl l)))
          (λ (le : d.hour ≤ m). ⊎_elim
          (λ (q : d.hour ≡ m). inr (
            q,
            ⊎_elim (λ (l : s < d.slot). absurd (apart (inr (sym q, omega (arith, slot)))))
                (λ (ge : d.slot ≤ s). omega arith) (cases_lt s d.slot),
          ))
          (λ ne. inl (omega arith))
          (cases_eq d.hour m))
          (cases_lt m d.hour)

      few_now : (b : Bool) → it ≡ b → ExactAt c just w.told (w.node i) → (Before gs h k m (suc s) × (times w.told + one b ≤ suc c)) ⊎ (times w.told + one b ≤ c)
      few_now true e a =
          let both = and_parts (eqb t.hour h) (eqb t.place k) e in
          let q₁ : t.hour ≡ h = eqb-true t.hour h both.0 in
          let q₂ : t.place ≡ k = eqb-true t.place k both.1 in
          let q₃ : k / crew ≡ s = ap (λ n. n / crew) (sym q₂) ∙ slot in
          ⊎_elim
          (λ b. absurd (apart (subst (λ p. Before gs m p d.hour d.slot) (sym q₂) (subst (λ g. Before gs g k d.hour d.slot) (sym q₁ ∙ hour) b.0))))
          (λ le. inl (inr (sym q₁ ∙ hour, omega (arith, q₃)), omega (arith, le)))
          a.few
      few_now false e a = ⊎_elim
          (λ b. inl (before_more gs h k d (record { hour = m; slot = suc s }) further b.0, omega (arith, b.1)))
          (λ le. inr (omega (arith, le)))
          a.few

      told_here : owner ≡ i → ExactAt c it (w.told ++ t ∷ []) x₁
      told_here q = record {
        few = subst (λ n. (IsBefore (front x₁) × (n ≤ suc c)) ⊎ (n ≤ c)) (sym (times_last h k w.told t))
            (subst (λ f. (IsBefore f × (times w.told + one it ≤ suc c)) ⊎ (times w.told + one it ≤ c)) (sym at) (few_now it refl (here q)));
        noted = subst (Noted it) (sym phase) (λ q₁ q₂. let same : t.place ≡ k = omega (arith, on, slot, q, q₂) in
            and_from (eqb t.hour h) (eqb t.place k) (eq-eqb t.hour h (hour ∙ sym q₁)) (eq-eqb t.place k same));
      }

      told_there : (owner ≡ i → ⊥) → ExactAt c just (w.told ++ t ∷ []) (w.node owner)
      told_there ne = record {
        few = subst (λ n. (IsBefore (front (w.node owner)) × (n ≤ suc c)) ⊎ (n ≤ c)) (sym (times_last h k w.told t ∙ other it refl)) o.at.few;
        noted = o.at.noted;
      }
        where
          other : (b : Bool) → it ≡ b → times w.told + one b ≡ times w.told
          other true e = absurd (ne (ap (λ n. n % crew) (sym (eqb-true t.place k (and_parts (eqb t.hour h) (eqb t.place k) e).1)) ∙ on))
          other false e = omega arith

      pub exact_told : ExactIs c (pick (eqb owner i) it just) (with_telling w i x₁ t)
      exact_told = record {
        at = pick_two (eqb owner i) (eqb owner i) refl it just x₁ (w.node owner) (λ j y. ExactAt c j (w.told ++ t ∷ []) y)
            (λ d. told_here (eqb-true owner i d)) (λ d. told_there (eqb-false owner i d));
      }

    -- A FALL
    module _ (e : ℕ) (more : c ≤ e) (counted : owner ≡ i → just ≡ true → suc c ≤ e) (right : every (is_right gs) w.told ≡ true)
        (low : comes_up gs h k ≡ true → k < crew * slots) where
      abbrev x : Node
      x = w.node i

      fallen_at : (few : owner ≡ i → (IsBefore x.cursor × (times w.told ≤ suc e)) ⊎ (times w.told ≤ e)) → ExactIs e (pick (eqb owner i) false just) (fallen w i)
      fallen_at few = record {
        at = pick_two (eqb owner i) (eqb owner i) refl false just (waking x i) (w.node owner) (λ j y. ExactAt e j w.told y)
            (λ d. record { few = few (eqb-true owner i d); noted = tt })
            (λ _. record { few = ⊎_elim (λ b. inl (b.0, omega (arith, b.1, more))) (λ le. inr (omega (arith, le, more))) o.at.few; noted = o.at.noted });
      }

      -- its cursor is where it goes on
      pub exact_unexposed : (p : Phase) → x.phase ≡ p → AtOrBefore (front_by p x.cursor) x.cursor → ExactIs e (pick (eqb owner i) false just) (fallen w i)
      exact_unexposed p q le = fallen_at (λ d. ⊎_elim
          (λ b. inl (before_more gs h k (front_by p x.cursor) x.cursor le (subst (λ f. IsBefore (front_by f x.cursor)) q b.0), omega (arith, b.1, more)))
          (λ l. inr (omega (arith, l, more)))
          (here d).few)

      -- a row was told, and its cursor is not kept
      pub exact_exposed : (m s : ℕ) → x.phase ≡ noting m s → NextRow gs i x.cursor m s → ExactIs e (pick (eqb owner i) false just) (fallen w i)
      exact_exposed m s q next = fallen_at (λ d. ⊎_elim
          (λ b. on d (subst (λ f. IsBefore (front_by f x.cursor)) q b.0) b.1)
          (λ l. inr (omega (arith, l, more)))
          (here d).few)
        where
          none : comes_up gs h k ≡ false → times w.told ≤ e
          none t = omega (arith, times_none gs h k w.told right t)

          -- it comes up between the cursor and the row that was told: there is none
          between : owner ≡ i → Before gs h k m s → times w.told ≤ suc c → (IsBefore x.cursor × (times w.told ≤ suc e)) ⊎ (times w.told ≤ e)
          between d b le = ⊎_elim (λ t. inl (next h k d (low t) b t, omega (arith, le, more))) (λ t. inr (none t)) (cases_Bool (comes_up gs h k))

          on : owner ≡ i → Before gs h k m (suc s) → times w.told ≤ suc c → (IsBefore x.cursor × (times w.told ≤ suc e)) ⊎ (times w.told ≤ e)
          on d (inl l) le = between d (inl l) le
          on d (inr r) le = ⊎_elim
              (λ (t : k / crew ≡ s). inr (omega (arith, le, counted d (subst (Noted just) q (here d).noted r.0 t))))
              (λ ne. between d (inr (r.0, omega (arith, r.1, ne))) le)
              (cases_eq (k / crew) s)
