-- What statements say of a row, to an adder that has told hours below h; that this stays as h rises; and what comes of it for bounds and entries.
use Rattle.std.proofs.Common.{◌≡◌, ℕ, suc, ◌%◌, ◌<◌, ◌≤◌, true, false, not, leb, List, length, Some, None, Option, sym, refl, ◌∙◌, subst, ◌⊎◌, inl, inr, ⊎_elim, arith}
use Rattle.std.proofs.lemmas.Bool.{leb-true, leb-false, eqb-true, eqb-false, both_ways, cases_Bool, not-true}
use Rattle.sums.specs.Sums.{Reading}
use Rattle.sums.proofs.Picks.{pick_both}
use Rattle.protocol.specs.Adder.{entry_in, comes_in}
use Rattle.protocol.specs.Bounds.{Bound, unknown, from_hour, never, bound, next_bound, is_from, has_hour, lets}
use Rattle.protocol.specs.Entries.{row_entry, nothing_yet}
use Rattle.protocol.specs.Limits.{crew}
use Rattle.protocol.specs.Statements.{Statement, nothing, has_begun, is_whole, has_ended}
use Rattle.protocol.specs.Tables.{Page}
use Rattle.protocol.proofs.Least.{NotBelow}
use Rattle.protocol.proofs.Searches.{or_split}
use Rattle.protocol.proofs.Tables.{hour_at, row_any, PageOf, page_entry, page_comes, none_any, none_entry}

module _ (row : List Reading) where
  -- nothing of the row is of an hour in [a, b); from a on
  abbrev pub NoneIn : (a b : ℕ) → Type 0
  NoneIn a b = (p : ℕ) → p < length row → a ≤ hour_at row p → hour_at row p < b → ⊥

  abbrev pub NoneFrom : ℕ → Type 0
  NoneFrom a = (p : ℕ) → p < length row → hour_at row p < a

  abbrev pub HasHour : ℕ → Type 0
  HasHour c = (p : ℕ) × (p < length row) × (hour_at row p ≡ c)

  -- it is not far behind some hour
  abbrev pub Near : ℕ → Type 0
  Near c = (c ≡ 0) ⊎ ((p : ℕ) × (p < length row) × (c ≤ suc (hour_at row p)))

  -- the least hour after c that there may be, if there may be one
  abbrev pub NextIs : (c : ℕ) → Option ℕ → Type 0
  NextIs c None = NoneFrom (suc c)
  NextIs c (Some n) = NoneIn (suc c) n × (c < n) × Near n

  pub record WholeIs (j h c : ℕ) (nx : Option ℕ) (pg : Page) : Type 0 where
    pub page : PageOf row c j pg
    pub before : NoneIn h c
    pub after : NextIs c nx
    pub here : HasHour c

  -- what a statement says to adder j
  abbrev pub Fact : (j h : ℕ) → Statement → Type 0
  Fact j h nothing = Unit {0}
  Fact j h (has_begun c) = NoneIn h c × Near c
  Fact j h (is_whole c nx pg) = WholeIs j h c nx pg
  Fact j h has_ended = NoneFrom h

  -- facts stay
  pub fact_later : (j h h₁ : ℕ) → h ≤ h₁ → (s : Statement) → Fact j h s → Fact j h₁ s
  fact_later j h h₁ le nothing f = tt
  fact_later j h h₁ le (has_begun c) f = (λ p lt a b. f.0 p lt (omega arith) b, f.1)
  fact_later j h h₁ le (is_whole c nx pg) f = record { page = f.page; before = λ p lt a b. f.before p lt (omega arith) b; after = f.after; here = f.here }
  fact_later j h h₁ le has_ended f = λ p lt. omega (arith, f p lt)

  -- what a bound says
  abbrev pub BoundIs : (h : ℕ) → Bound → Type 0
  BoundIs h unknown = Unit {0}
  BoundIs h (from_hour m) = (h ≤ m) × NoneIn h m
  BoundIs h never = NoneFrom h

  next_is : (h c : ℕ) (nx : Option ℕ) → c < h → NextIs c nx → BoundIs h (next_bound h nx)
  next_is h c None lt f = λ p l. omega (arith, f p l)
  next_is h c (Some n) lt f = pick_both (leb h n) _ _ (BoundIs h) (λ e. (leb-true h n e, λ p l a b. f.0 p l (omega arith) b)) (λ e. tt)

  pub bound_is : (j h : ℕ) (s : Statement) → Fact j h s → BoundIs h (bound h s)
  bound_is j h nothing f = tt
  bound_is j h (has_begun c) f = pick_both (leb h c) _ _ (BoundIs h) (λ e. (leb-true h c e, f.0)) (λ e. tt)
  bound_is j h (is_whole c nx pg) f = pick_both (leb h c) _ _ (BoundIs h) (λ e. (leb-true h c e, f.before)) (λ e. next_is h c nx (leb-false h c e) f.after)
  bound_is j h has_ended f = f

-- AN HOUR THAT CAN BE TOLD: what a statement brings to it is what its row has
module _ (row : List Reading) (j h m : ℕ) where
  -- no hour from h to before m
  pub none_before : (b : Bound) → BoundIs row h b → NotBelow m b → NoneIn row h m
  none_before unknown f x = absurd x
  none_before (from_hour n) f x = λ p lt a b. f.1 p lt a (omega arith)
  none_before never f x = λ p lt a b. omega (arith, f p lt)

  -- nor m itself, where the bound is another
  pub none_at : (b : Bound) → h ≤ m → BoundIs row h b → NotBelow m b → is_from m b ≡ false → (p : ℕ) → p < length row → hour_at row p ≡ m → ⊥
  none_at unknown le f x e = absurd x
  none_at (from_hour n) le f x e = λ p lt q. f.1 p lt (omega arith) (omega (arith, eqb-false n m e))
  none_at never le f x e = λ p lt q. omega (arith, f p lt)

  pub record Brings (s : Statement) : Type 0 where
    pub entries : (k : ℕ) → k % crew ≡ j → entry_in m k s ≡ row_entry row m k
    pub comes : (k : ℕ) → k % crew ≡ j → comes_in m k s ≡ row_any row m k

  brings_none : (s : Statement) → has_hour m s ≡ false → ((p : ℕ) → p < length row → hour_at row p ≡ m → ⊥) → Brings s
  brings_none s e free = record {
    entries = λ k _. entry_none k s e ∙ sym (none_entry m k row free);
    comes = λ k _. any_none k s e ∙ sym (none_any m k row free);
  }
    where
      entry_none : (k : ℕ) (s : Statement) → has_hour m s ≡ false → entry_in m k s ≡ nothing_yet
      entry_none k nothing e = refl
      entry_none k (has_begun c) e = refl
      entry_none k (is_whole c nx pg) e = rw e
      entry_none k has_ended e = refl

      any_none : (k : ℕ) (s : Statement) → has_hour m s ≡ false → comes_in m k s ≡ false
      any_none k nothing e = refl
      any_none k (has_begun c) e = refl
      any_none k (is_whole c nx pg) e = rw e
      any_none k has_ended e = refl

  brings_whole : (s : Statement) → has_hour m s ≡ true → Fact row j h s → Brings s
  brings_whole nothing e f = absurd (both_ways _ refl e)
  brings_whole (has_begun c) e f = absurd (both_ways _ refl e)
  brings_whole (is_whole c nx pg) e f =
      let q : c ≡ m = eqb-true c m e in
      let page : PageOf row m j pg = subst (λ x. PageOf row x j pg) q f.page in
      record { entries = λ k on. rw e (page_entry row m j pg page k on); comes = λ k on. rw e (page_comes row m j pg page k on) }
  brings_whole has_ended e f = absurd (both_ways _ refl e)

  pub brings_true : (s : Statement) → h ≤ m → Fact row j h s → NotBelow m (bound h s) → lets h m s ≡ true → Brings s
  brings_true s le f x e = ⊎_elim
      (λ q. brings_whole s q f)
      (λ q. elim (cases_Bool (has_hour m s)) [
        | inl y ↦ brings_whole s y f
        | inr n ↦ brings_none s n (none_at (bound h s) le (bound_is row j h s f) x (not-true (is_from m (bound h s)) q))
      ])
      (or_split (has_hour m s) (not (is_from m (bound h s))) e)
