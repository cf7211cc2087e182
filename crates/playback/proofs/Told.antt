-- What is told stays told: what is printed goes on as the wall does.
use Rattle.std.proofs.Common.{◌≡◌, ℕ, ◌+◌, ◌-◌, ◌<◌, ◌≤◌, Bool, true, List, [], ◌∷◌, ◌++◌, Option, length, get_or, take, drop, sym, refl, ap, ◌∙◌, subst, append_assoc, append-nil, length-append, arith}
use Rattle.std.proofs.KnownBytes.{Appends-nil, Appends-trans}
use Rattle.std.proofs.lemmas.Grind.{flat_map-append}
use Rattle.std.proofs.lemmas.List.{take_more}
use Rattle.std.specs.Io.KnownBytes.{Keeps, Appends}
use Rattle.std.proofs.KnownBytes.{Appends-kept}
use Rattle.sums.specs.Sums.{each, none_of, or, Gauges, ToldSum}
use Rattle.sums.proofs.Eaches.{length_each}
use Rattle.machine.specs.Run as run
use Rattle.machine.specs.Run.{machine_at, goes, happened, all_happened, works}
use Rattle.machine.specs.Entry.{own}
use Rattle.promise.specs.Promise.{NeverBack}
use Rattle.promise.proofs.Laws.{never_back}
use Rattle.rows.specs.declared.Row.{Row}
use Rattle.rows.specs.Walls.{as_told, as_wall}
use Rattle.river.specs.declared.model.Item.{Item}
use Rattle.text.specs.Text.{Bytes}
use Rattle.text.specs.Written.{lined}
use Rattle.world.specs.Rounds.{written_out, a_round, all_rounds}
use Rattle.world.specs.Worlds.{took_place}
use Rattle.world.proofs.Unrolling.{all_append, took_written, rounds_more}
use Rattle.world.proofs.Portions.{goes_both, still_goes}
use Rattle.play.specs.Plays.{unrolled}
use Rattle.play.proofs.Unrolling.{unrolled_one}
use Rattle.report.specs.Printed.{told_line, wall_text}
use Rattle.playback.specs.Stages.{PlaysOn}

-- the rows of one wall, and more
abbrev pub GoesOn : List ToldSum → List ToldSum → Type 0
GoesOn before after = (more : List ToldSum) × (after ≡ before ++ more)

one_on : (gs : Gauges) (w : run.World) (it : run.Item) → GoesOn w.told (happened own gs w it).told
unfolding NeverBack
one_on gs w it = never_back own gs w it

told_on : (gs : Gauges) (w : run.World) (its : List run.Item) → GoesOn w.told (all_happened own gs w its).told
unfolding all_happened
told_on gs w [] = ([], sym (append-nil w.told))
told_on gs w (it ∷ its) =
    let one = one_on gs w it in
    let rest = told_on gs (happened own gs w it) its in
    (one.0 ++ rest.0, rest.1 ∙ ap (λ ts. ts ++ rest.0) one.1 ∙ append_assoc w.told one.0 rest.0)

pub item_on : (gs : Gauges) (w w₁ : run.World) (it : Item) → w₁ ≡ took_place gs w it → GoesOn w.told w₁.told
item_on gs w w₁ it e = let on = told_on gs w (written_out it) in (on.0, ap (λ v. v.told) (e ∙ took_written gs w it) ∙ on.1)

-- the rows behind those of before
rest_is : (before after : List Row) (more : List ToldSum) → as_wall after ≡ as_wall before ++ more → as_wall (drop (length before) after) ≡ more
unfolding each
rest_is [] after more e = e
rest_is (x ∷ xs) [] more e = absurd (cc)
rest_is (x ∷ xs) (y ∷ ys) more e = rest_is xs ys more (cc)

pub still_there : (before after : List Row) → GoesOn (as_wall before) (as_wall after) → length before ≤ length after
still_there before after on =
    let e = sym (length_each as_told after) ∙ ap length on.1 ∙ length-append (as_wall before) on.0 in
    let l = length_each as_told before in omega (arith, e, l)

module _ (gs : Gauges) (rows : Bool) where
  pub plays_none : (w : run.World) (a : Option Bytes) → PlaysOn gs rows w [] w a a
  unfolding all_happened
  plays_none w a = record { world = refl; more = []; told = sym (append-nil w.told); shown = λ _. Appends-nil a }

  -- one after the other
  pub plays_both : (w w₁ w₂ : run.World) (xs ys : List run.Item) (a b c : Option Bytes) → PlaysOn gs rows w xs w₁ a b → PlaysOn gs rows w₁ ys w₂ b c → PlaysOn gs rows w (xs ++ ys) w₂ a c
  plays_both w w₁ w₂ xs ys a b c p q = record {
    world = q.world ∙ ap (λ u. all_happened own gs u ys) p.world ∙ sym (all_append gs w xs ys);
    more = p.more ++ q.more;
    told = q.told ∙ ap (λ ts. ts ++ q.more) p.told ∙ append_assoc w.told p.more q.more;
    shown = λ r. subst (Appends a c) (sym (flat_map-append (λ t. lined (told_line t)) p.more q.more)) (Appends-trans a b c _ _ (p.shown r) (q.shown r));
  }

  -- the same told otherwise
  pub plays_as : (w w₁ : run.World) (xs ys : List run.Item) (a b : Option Bytes) → all_happened own gs w xs ≡ all_happened own gs w ys → PlaysOn gs rows w xs w₁ a b → PlaysOn gs rows w ys w₁ a b
  plays_as w w₁ xs ys a b e p = record { world = p.world ∙ e; more = p.more; told = p.told; shown = p.shown }

  -- one thing that happens at once, and the rows that were told since
  pub plays_item : (w w₁ : run.World) (it : Item) (before after : List Row) (a b : Option Bytes) → w₁ ≡ took_place gs w it → w.told ≡ as_wall before → w₁.told ≡ as_wall after →
      (rows ≡ true → Appends a b (wall_text (as_wall (drop (length before) after)))) → PlaysOn gs rows w (written_out it) w₁ a b
  plays_item w w₁ it before after a b e f g p =
      let on = item_on gs w w₁ it e in
      let same : as_wall after ≡ as_wall before ++ on.0 = sym g ∙ on.1 ∙ ap (λ ts. ts ++ on.0) f in
      record {
        world = e ∙ took_written gs w it;
        more = on.0;
        told = on.1;
        shown = λ r. subst (λ ts. Appends a b (wall_text ts)) (rest_is before after on.0 same) (p r);
      }

  -- nothing is printed behind it
  pub plays_kept : (w w₁ : run.World) (its : List run.Item) (a b c : Option Bytes) → PlaysOn gs rows w its w₁ a b → Keeps b c → PlaysOn gs rows w its w₁ a c
  plays_kept w w₁ its a b c p k = record { world = p.world; more = p.more; told = p.told; shown = λ r. Appends-kept a b c _ (p.shown r) k }

  -- the next of these items
  pub plays_more : (w w₁ w₂ : run.World) (its : List Item) (i : ℕ) (d : Item) (a b c : Option Bytes) → i < length its →
      PlaysOn gs rows w (unrolled (take i its)) w₁ a b → PlaysOn gs rows w₁ (written_out (get_or its i d)) w₂ b c → PlaysOn gs rows w (unrolled (take (i + 1) its)) w₂ a c
  plays_more w w₁ w₂ its i d a b c lt p q =
      subst (λ l. PlaysOn gs rows w l w₂ a c) (sym (ap unrolled (take_more its i d lt) ∙ unrolled_one (take i its) (get_or its i d))) (plays_both w w₁ w₂ _ _ a b c p q)

  pub plays_round : (w w₁ w₂ : run.World) (k n : ℕ) (a b c : Option Bytes) → PlaysOn gs rows w (all_rounds k n) w₁ a b → PlaysOn gs rows w₁ (a_round n) w₂ b c →
      PlaysOn gs rows w (all_rounds (k + 1) n) w₂ a c
  plays_round w w₁ w₂ k n a b c p q = subst (λ l. PlaysOn gs rows w l w₂ a c) (sym (rounds_more k n)) (plays_both w w₁ w₂ _ _ a b c p q)

  -- a machine's work in portions
  pub plays_idle : (w : run.World) (i : ℕ) (a : Option Bytes) → PlaysOn gs rows w (works i 0 ∷ []) w a a
  unfolding all_happened happened goes
  plays_idle w i a = plays_as w w [] (works i 0 ∷ []) a a refl (plays_none w a)

  pub plays_acts : (w w₁ w₂ : run.World) (i m n k : ℕ) (a b c : Option Bytes) → m + n ≡ k → PlaysOn gs rows w (works i m ∷ []) w₁ a b → PlaysOn gs rows w₁ (works i n ∷ []) w₂ b c →
      PlaysOn gs rows w (works i k ∷ []) w₂ a c
  unfolding all_happened happened
  plays_acts w w₁ w₂ i m n k a b c e p q =
      plays_as w w₂ (works i m ∷ works i n ∷ []) (works i k ∷ []) a c (sym (goes_both gs w i m n) ∙ ap (λ l. goes l own gs w i) e) (plays_both w w₁ w₂ (works i m ∷ []) (works i n ∷ []) a b c p q)

  -- a machine that rests, or a fault: what is left of its work changes nothing
  pub plays_still : (w w₁ : run.World) (i m n : ℕ) (a b : Option Bytes) → m ≤ n → or w₁.fault (none_of (machine_at w₁.machines i).pending) ≡ true → PlaysOn gs rows w (works i m ∷ []) w₁ a b →
      PlaysOn gs rows w (works i n ∷ []) w₁ a b
  unfolding all_happened happened
  plays_still w w₁ i m n a b le h p =
      let all : m + (n - m) ≡ n = omega arith in
      plays_as w w₁ (works i m ∷ []) (works i n ∷ []) a b
      (sym p.world ∙ sym (still_goes gs w₁ i (n - m) h) ∙ ap (λ u. goes (n - m) own gs u i) p.world ∙ sym (goes_both gs w i m (n - m)) ∙ ap (λ l. goes l own gs w i) all) p
