-- The root record and the pages that it names: what boot recalls of them, and what a checkpoint keeps.
use Rattle.std.proofs.Common.{◌≡◌, ℕ, ◌+◌, ◌-◌, ◌*◌, ◌/◌, ◌%◌, ◌<◌, ◌≤◌, Bool, true, false, eqb, leb, List, sym, refl, ap, ◌∙◌, subst, arith, Some, Option}
use Rattle.std.proofs.lemmas.Option.{same_Some}
use Rattle.std.proofs.lemmas.Bool.{leb-true, leb-false, both_ways, not-true, eq-eqb}
use Rattle.sums.specs.Sums.{pick, Reading}
use Rattle.sums.proofs.Picks.{pick_both}
use Rattle.protocol.specs.Boot.{booted_memory}
use Rattle.protocol.specs.Limits.{late, crew, kept_pages}
use Rattle.protocol.specs.Memory.{Cursor, Memory}
use Rattle.protocol.specs.OpenHours.{page_at}
use Rattle.protocol.specs.Reader.{Stage, begun, whole, ended, is_reading, PageSet, no_set, first_set, second_set, other_set, Root, first_open}
use Rattle.protocol.specs.Tables.{Tables, Page, blank, blank_page}
use Rattle.protocol.proofs.Tables.{PartOf, Taken, taken_blank}
use Rattle.protocol_world.proofs.Invariant.{Began, ReaderIs, RootIs, kept_tables, MemoryIs, MaySave, root_tables}

-- at boot all is due, and says so
pub booted_is : (row : List Reading) (i : ℕ) (r : Root) (b : Memory) (c : Cursor) → b.me ≡ i →
    ReaderIs row b.reader.base b.reader.pos b.reader.tables b.reader.stage → is_reading b.reader.stage ≡ true → b.reader.set ≡ r.set → b.reader.kept ≡ r.pos →
    MemoryIs row i r c (booted_memory b c)
booted_is row i r b c me reader rd set kept = record {
  finished = λ e. absurd (both_ways _ (ap is_reading e) rd);
  me = me;
  cursor = refl;
  reader = reader;
  set = set;
  kept = kept;
  flags = λ j w. w;
  others = λ j d q. both_ways (eqb j b.me) (not-true _ d) (eq-eqb j b.me (q ∙ sym me));
}

-- the page of an hour that is kept
pub page_there : (t : ℕ → Tables) (f h j : ℕ) → f ≤ h → j < crew → (t h).page j ≡ page_at t f (crew * (h - f) + j)
page_there t f h j le lj =
    let e₁ : h ≡ f + (crew * (h - f) + j) / crew = omega arith in
    let e₂ : j ≡ (crew * (h - f) + j) % crew = omega arith in
    ap (λ n. (t n).page j) e₁ ∙ ap (t (f + (crew * (h - f) + j) / crew)).page e₂

-- a root record and its pages, and what a checkpoint makes of them
module _ (row : List Reading) where
  began_as : (base pos f : ℕ) (t t₁ : ℕ → Tables) → ((h j : ℕ) → f ≤ h → j < crew → (t₁ h).page j ≡ (t h).page j) → Began row base pos f t →
      Began row base pos f t₁
  began_as base pos f t t₁ same b = record {
    within = b.within;
    above = b.above;
    done = b.done;
    rest = b.rest;
    high = b.high;
    tables = λ h le j lj. subst (PartOf row pos h j) (sym (same h j le lj)) (b.tables h le j lj);
    near = b.near;
  }

  kept_is : (f pos : ℕ) (t : ℕ → Tables) → Began row f pos f t → Began row f pos f (kept_tables row (page_at t f) f)
  kept_is f pos t b = record {
    within = b.within;
    above = b.above;
    done = b.done;
    rest = b.rest;
    high = b.high;
    tables = λ h le. pick_both (leb h (f + late)) _ _ (Taken row pos h)
        (λ e j lj. subst (PartOf row pos h j) (page_there t f h j le lj) (b.tables h le j lj))
        (λ e. taken_blank row pos h (λ p l _ q. absurd (omega (arith, b.high p l, leb-false h (f + late) e))));
    near = b.near;
  }

  kept_root : (s : PageSet) (pos f : ℕ) (t : ℕ → Tables) → Began row f pos f t → Began row f pos f (root_tables row (page_at t f) (other_set s) f)
  kept_root no_set pos f t b = kept_is f pos t b
  kept_root first_set pos f t b = kept_is f pos t b
  kept_root second_set pos f t b = kept_is f pos t b

  pub root_saved : (s : PageSet) (pages : PageSet → ℕ → Option Page) (pos f : ℕ) (t : ℕ → Tables) →
      ((q : ℕ) → q < kept_pages → pages (other_set s) q ≡ Some (page_at t f q)) → Began row f pos f t → RootIs row pages (other_set s) f pos
  root_saved s pages pos f t same b = record { page = page_at t f; there = λ _. same; began = kept_root s pos f t b }

  -- pages of another set do not count
  pub root_apart : (s : PageSet) (pages pages₁ : PageSet → ℕ → Option Page) (f p : ℕ) → ((q : ℕ) → q < kept_pages → pages₁ s q ≡ pages s q) →
      RootIs row pages s f p → RootIs row pages₁ s f p
  root_apart s pages pages₁ f p same r = record { page = r.page; there = λ some q lq. same q lq ∙ r.there some q lq; began = r.began }

  -- what is recalled, with its pages
  recalled : (page : ℕ → Page) (f p : ℕ) (t : ℕ → Tables) → ((q : ℕ) → q < kept_pages → page_at t f q ≡ page q) →
      ((h j : ℕ) → f ≤ h → j < crew → kept_pages ≤ crew * (h - f) + j → (t h).page j ≡ blank_page) → Began row f p f (kept_tables row page f) →
      Began row f p f t
  recalled page f p t same bare = began_as f p f _ t (λ h j le lj. pick_both (leb h (f + late)) _ _ (λ (x : Tables). (t h).page j ≡ x.page j)
      (λ e. page_there t f h j le lj ∙ same (crew * (h - f) + j) (omega (arith, leb-true h (f + late) e)))
      (λ e. bare h j le lj (omega (arith, leb-false h (f + late) e))))

  recalled_root : (s : PageSet) (page : ℕ → Page) (f p : ℕ) (t : ℕ → Tables) → (s ≡ no_set → ⊥) → ((q : ℕ) → q < kept_pages → page_at t f q ≡ page q) →
      ((h j : ℕ) → f ≤ h → j < crew → kept_pages ≤ crew * (h - f) + j → (t h).page j ≡ blank_page) → Began row f p f (root_tables row page s f) →
      Began row f p f t
  recalled_root no_set page f p t some same bare r = absurd (some refl)
  recalled_root first_set page f p t some same bare r = recalled page f p t same bare r
  recalled_root second_set page f p t some same bare r = recalled page f p t same bare r

  pub root_recalled : (s : PageSet) (pages : PageSet → ℕ → Option Page) (f p : ℕ) (t : ℕ → Tables) → (s ≡ no_set → ⊥) →
      ((q : ℕ) → q < kept_pages → pages s q ≡ Some (page_at t f q)) →
      ((h j : ℕ) → f ≤ h → j < crew → kept_pages ≤ crew * (h - f) + j → (t h).page j ≡ blank_page) → RootIs row pages s f p → ReaderIs row f p t (begun f)
  root_recalled s pages f p t some same bare r = recalled_root s r.page f p t some
      (λ q lq. same_Some (page_at t f q) (r.page q) (sym (same q lq) ∙ r.there some q lq)) bare r.began

  -- the open hours behind one that is given up, or as they are
  pub open_is : (base pos : ℕ) (t : ℕ → Tables) (n : ℕ) (b : Memory) (s : Stage) → MaySave n b s → ReaderIs row base pos t s →
      Began row (first_open s) pos (first_open s) t
  open_is base pos t n b (begun f) m r = record {
    within = r.within;
    above = omega arith;
    done = λ p lt l. l;
    rest = r.rest;
    high = r.high;
    tables = r.tables;
    near = r.near;
  }
  open_is base pos t n b (whole c nx) m r = absurd m
  open_is base pos t n b ended m r = absurd m

pub based_is : (row : List Reading) (base pos : ℕ) (t : ℕ → Tables) (n : ℕ) (b : Memory) (s : Stage) → MaySave n b s → ReaderIs row base pos t s →
    Began row base pos (first_open s) t
based_is row base pos t n b (begun f) m r = r
based_is row base pos t n b (whole c nx) m r = absurd m
based_is row base pos t n b ended m r = absurd m
