-- A map of rows, one row more at a time, and the rows that it has at last. Assumes nothing.
use Rattle.std.proofs.Common.{◌≡◌, ℕ, ◌<◌, Bool, true, false, cond, not, ◌&&◌, eqb, List, [], ◌∷◌, ◌++◌, length, get_or, Some, None, sym, refl, ap, ◌∙◌, arith}
use Rattle.std.specs.BTreeMap.{BTreeMap}
use Rattle.std.specs.BTreeMap.{IsOrdered, get, is_at}
use Rattle.std.specs.Map.{lookup}
use Rattle.std.specs.Cmp.{nat_cmp_total, then_total, on_total}
use Rattle.std.proofs.lemmas.Option.{slice_get-get_or}
use Rattle.std.proofs.lemmas.Map.Entries.{btree_map_get_place}
use Rattle.std.proofs.lemmas.Bool.{eqb-true, eq-eqb, and_parts, and_from, true≢false}
use Rattle.sums.specs.Sums.{any, every, each, or, ToldSum}
use Rattle.sums.proofs.Anys.{or_false, or_left, or_right, any_append}
use Rattle.sums.proofs.Everys.{every_places, every_each}
use Rattle.rows.specs.Walls.{row_of, rows_of, in_order, pair_cmp}
use Rattle.rows.proofs.Summed.{key_tied, put_tied}
use Rattle.rows.proofs.Compared.{rows_order}
use Rattle.wall_reader.specs.Reads.{same_row, stands, agrees, Holds}

abbrev row : (h k s : ℕ) → ToldSum
row h k s = record { hour = h; place = k; sum = s }

-- ---- rows among rows

same_self : (t : ToldSum) → same_row t t ≡ true
same_self t = and_from _ _ (eq-eqb t.hour _ refl) (and_from _ _ (eq-eqb t.place _ refl) (eq-eqb t.sum _ refl))

pub record Same (t u : ToldSum) : Type 0 where
  pub hour : t.hour ≡ u.hour
  pub place : t.place ≡ u.place
  pub sum : t.sum ≡ u.sum

same_parts : (t u : ToldSum) → same_row t u ≡ true → Same t u
same_parts t u e =
    let p = and_parts (eqb t.hour u.hour) (eqb t.place u.place && eqb t.sum u.sum) e in
    let q = and_parts (eqb t.place u.place) (eqb t.sum u.sum) p.1 in
    record { hour = eqb-true _ _ p.0; place = eqb-true _ _ q.0; sum = eqb-true _ _ q.1 }

-- what stands in the rows and one more
stands_more : (ts : List ToldSum) (t u : ToldSum) → stands (ts ++ t ∷ []) u ≡ or (stands ts u) (same_row u t)
unfolding any
stands_more ts t u = any_append (same_row u) ts (t ∷ []) ∙ ap (or (stands ts u)) (or_false (same_row u t))

-- what holds of all that stands there holds of every row
pub every_stood : (f : ToldSum → Bool) (ts : List ToldSum) → ((t : ToldSum) → stands ts t ≡ true → f t ≡ true) → every f ts ≡ true
unfolding every any
every_stood f [] h = refl
every_stood f (t ∷ ts) h = and_from _ _ (h t (or_left (same_row t t) (stands ts t) (same_self t))) (every_stood f ts (λ u e. h u (or_right (same_row u t) (stands ts u) e)))

-- ---- one row more

module _ where
  pub none_held : (m : BTreeMap (ℕ × ℕ) ℕ) → m.entries ≡ [] → IsOrdered pair_cmp m → Holds [] m
  unfolding any
  none_held m none ordered = record {
    ordered = ordered;
    right = λ h k s. (
      (λ f. absurd (let n : get pair_cmp m (h, k) ≡ None = ap (lookup (is_at (pair_cmp (h, k)))) none in let z : ◌≡◌ {A = ℕ} 0 1 = cc in omega arith)),
      (λ f. absurd (true≢false (sym f))),
    );
  }

  module _ (ts : List ToldSum) (t : ToldSum) (m : BTreeMap (ℕ × ℕ) ℕ) (old : Holds ts m) where
    -- the row was there before
    pub held_again : get pair_cmp m (t.hour, t.place) ≡ Some t.sum → Holds (ts ++ t ∷ []) m
    held_again there = record {
      ordered = old.ordered;
      right = λ h k s. (
        (λ e. stands_more ts t (row h k s) ∙ or_left _ _ ((old.right h k s).0 e)),
        (λ e. back h k s (stands ts (row h k s)) refl (sym (stands_more ts t (row h k s)) ∙ e)),
      );
    }
      where
        back : (h k s : ℕ) (b : Bool) → stands ts (row h k s) ≡ b → or b (same_row (row h k s) t) ≡ true → get pair_cmp m (h, k) ≡ Some s
        back h k s true e f = (old.right h k s).1 e
        back h k s false e f =
            let p = same_parts (row h k s) t f in
            (λ i. get pair_cmp m (p.hour i, p.place i)) ∙ there ∙ ap Some (sym p.sum)

    -- the row was not there, and is now
    pub held_more : (n : BTreeMap (ℕ × ℕ) ℕ) → get pair_cmp m (t.hour, t.place) ≡ None → IsOrdered pair_cmp n →
        ((q : ℕ × ℕ) → get pair_cmp n q ≡ cond (is_at (pair_cmp (t.hour, t.place)) q) (Some t.sum) (get pair_cmp m q)) →
        Holds (ts ++ t ∷ []) n
    held_more n none ordered puts = record {
      ordered = ordered;
      right = λ h k s. (
        (λ e. stands_more ts t (row h k s) ∙ forth h k s (eqb t.hour h && eqb t.place k) refl (sym (now_at h k) ∙ e)),
        (λ e. now_at h k ∙ back h k s (eqb t.hour h && eqb t.place k) (stands ts (row h k s)) refl refl (sym (stands_more ts t (row h k s)) ∙ e)),
      );
    }
      where
        now_at : (h k : ℕ) → get pair_cmp n (h, k) ≡ cond (eqb t.hour h && eqb t.place k) (Some t.sum) (get pair_cmp m (h, k))
        now_at h k = puts (h, k) ∙ ap (λ b. cond b (Some t.sum) (get pair_cmp m (h, k))) (put_tied t.hour t.place h k)

        key : (h k : ℕ) → eqb t.hour h && eqb t.place k ≡ true → (t.hour ≡ h) × (t.place ≡ k)
        key h k e = let p = and_parts (eqb t.hour h) (eqb t.place k) e in (eqb-true _ _ p.0, eqb-true _ _ p.1)

        forth : (h k s : ℕ) (b : Bool) → eqb t.hour h && eqb t.place k ≡ b → cond b (Some t.sum) (get pair_cmp m (h, k)) ≡ Some s →
            or (stands ts (row h k s)) (same_row (row h k s) t) ≡ true
        forth h k s true e f =
            let p = key h k e in
            let sum : t.sum ≡ s = cc in
            or_right (stands ts (row h k s)) _ (and_from _ _ (eq-eqb h _ (sym p.0)) (and_from _ _ (eq-eqb k _ (sym p.1)) (eq-eqb s _ (sym sum))))
        forth h k s false e f = or_left _ _ ((old.right h k s).0 f)

        back : (h k s : ℕ) (b a : Bool) → eqb t.hour h && eqb t.place k ≡ b → stands ts (row h k s) ≡ a → or a (same_row (row h k s) t) ≡ true →
            cond b (Some t.sum) (get pair_cmp m (h, k)) ≡ Some s
        back h k s true true e f g =
            let p = key h k e in
            let there : get pair_cmp m (t.hour, t.place) ≡ Some s = (λ i. get pair_cmp m (p.0 i, p.1 i)) ∙ (old.right h k s).1 f in
            let z : ◌≡◌ {A = ℕ} 0 1 = cc in absurd (omega arith)
        back h k s true false e f g = ap Some (sym (same_parts (row h k s) t g).sum)
        back h k s false true e f g = (old.right h k s).1 f
        back h k s false false e f g =
            let p = same_parts (row h k s) t g in
            absurd (true≢false (sym (and_from _ _ (eq-eqb _ h (sym p.hour)) (eq-eqb _ k (sym p.place))) ∙ e))

-- ---- the rows that the map has

found_row : (h k s : ℕ) (es : List ((ℕ × ℕ) × ℕ)) → lookup (is_at (pair_cmp (h, k))) es ≡ Some s → stands (each row_of es) (row h k s) ≡ true
unfolding any each
found_row h k s [] e = absurd (let z : ◌≡◌ {A = ℕ} 0 1 = cc in omega arith)
found_row h k s (x ∷ es) e = go (is_at (pair_cmp (h, k)) x.0) (eqb x.0.0 h && eqb x.0.1 k) (key_tied h k x.0.0 x.0.1) refl e (found_row h k s es)
  where
    go : (a b : Bool) → a ≡ b → eqb x.0.0 h && eqb x.0.1 k ≡ b → cond a (Some x.1) (lookup (is_at (pair_cmp (h, k))) es) ≡ Some s →
        (lookup (is_at (pair_cmp (h, k))) es ≡ Some s → stands (each row_of es) (row h k s) ≡ true) →
        or (same_row (row h k s) (row_of x)) (stands (each row_of es) (row h k s)) ≡ true
    go true true e p f next =
        let q = and_parts (eqb x.0.0 h) (eqb x.0.1 k) p in
        let sum : x.1 ≡ s = cc in
        or_left _ _ (and_from _ _ (eq-eqb h _ (sym (eqb-true _ _ q.0))) (and_from _ _ (eq-eqb k _ (sym (eqb-true _ _ q.1))) (eq-eqb s _ (sym sum))))
    go true false e p f next = absurd (true≢false e)
    go false true e p f next = absurd (true≢false (sym e))
    go false false e p f next = or_right (same_row (row h k s) (row_of x)) _ (next f)

module _ (ts : List ToldSum) (m : BTreeMap (ℕ × ℕ) ℕ) (held : Holds ts m) where
  pub held_all : every (stands (rows_of m)) ts ≡ true
  held_all = every_stood (stands (rows_of m)) ts (λ t e. found_row t.hour t.place t.sum m.entries ((held.right t.hour t.place t.sum).1 e))

  at_place : (i : ℕ) → i < length (m.entries) → stands ts (row_of (get_or (m.entries) i ((0, 0), 0))) ≡ true
  at_place i l =
      let x : (ℕ × ℕ) × ℕ = get_or m.entries i ((0, 0), 0) in
      let there = btree_map_get_place (then_total (on_total (λ p. p.0) nat_cmp_total) (on_total (λ p. p.1) nat_cmp_total)) m i x.0 x.1 held.ordered
      (slice_get-get_or m.entries i ((0, 0), 0) l) in
      (held.right x.0.0 x.0.1 x.1).0 there

  pub held_only : every (stands ts) (rows_of m) ≡ true
  held_only = every_each (stands ts) row_of (m.entries) ∙ every_places (λ p. stands ts (row_of p)) (m.entries) ((0, 0), 0) at_place

  pub held_order : in_order (rows_of m) ≡ true
  held_order = rows_order m.entries held.ordered

  agree_two : (t u : ToldSum) → stands ts t ≡ true → stands ts u ≡ true → (b : Bool) → eqb t.hour u.hour && eqb t.place u.place ≡ b → or (not b) (eqb t.sum u.sum) ≡ true
  agree_two t u et eu true e =
      let p = and_parts (eqb t.hour u.hour) (eqb t.place u.place) e in
      let at-t : get pair_cmp m (t.hour, t.place) ≡ Some t.sum = (held.right t.hour t.place t.sum).1 et in
      let at-u : get pair_cmp m (u.hour, u.place) ≡ Some u.sum = (held.right u.hour u.place u.sum).1 eu in
      let same : get pair_cmp m (t.hour, t.place) ≡ get pair_cmp m (u.hour, u.place) =
      (λ i. get pair_cmp m (eqb-true _ _ p.0 i, eqb-true _ _ p.1 i)) in
      eq-eqb _ _ (cc)
  agree_two t u et eu false e = refl

  -- a map has one sum for an hour and a place, so none of its rows contradicts another
  pub held_agree : every (λ t. every (agrees t) ts) ts ≡ true
  held_agree = every_stood (λ t. every (agrees t) ts) ts (λ t et. every_stood (agrees t) ts (λ u eu. agree_two t u et eu (eqb t.hour u.hour && eqb t.place u.place) refl))
