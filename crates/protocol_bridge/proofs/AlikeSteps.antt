-- Memories that are the same where they are looked at: with the same event, they do the same, and leave such memories.
use Rattle.std.proofs.Common.{◌≡◌, ℕ, suc, ◌+◌, ◌-◌, ◌/◌, ◌%◌, ◌<◌, ◌≤◌, Bool, true, false, not, ◌&&◌, eqb, leb, ltb, Some, None, Option, refl, ap, ◌∙◌, subst, arith}
use Rattle.std.proofs.lemmas.Bool.{eqb-true, leb-false, ltb-true, and_parts, both_ways, leb-true, lt-ltb}
use Rattle.sums.specs.Cells.{slots}
use Rattle.sums.specs.Sums.{pick, or, Reading, hour_of, a_reading}
use Rattle.sums.proofs.Picks.{pick_both, pick_two}
use Rattle.protocol.specs.Boot.{rooted, paged, asks_next}
use Rattle.protocol.specs.Checkpoints.{page_kept, saves_next, saved, saved_root, pausing}
use Rattle.protocol.specs.Limits.{late, kept_pages, crew, half_roll}
use Rattle.protocol.specs.Mail.{with_news, with_letter}
use Rattle.protocol.specs.Memory.{with_reader, Cursor, no_mail, Memory, with_cursor, new_memory}
use Rattle.protocol.specs.OpenHours.{hour_in, oldest, raised, sooner, taking_in, with_page_at, no_tables}
use Rattle.protocol.specs.Phases.{recall_page, Phase, asks_root, asks_page, asks_cursor, placing, placed, ready, noting, saving, Event, wakes, comes, later, at_end, letter, root_is, page_is, cursor_is, go, from, let_go, keep_root, keep_page, keep_cursor, does}
use Rattle.protocol.specs.Reader.{read_on, first_open, PageSet, no_set, first_set, second_set, other_set, Root, Stage, begun, whole, ended, is_reading}
use Rattle.protocol.specs.Reading.{reads_by, ends_by, reads, ends}
use Rattle.protocol.specs.Searches.{find, put}
use Rattle.protocol.specs.Statements.{Statement, nothing, has_begun, is_whole, has_ended, Letter}
use Rattle.protocol.specs.Step.{reacts}
use Rattle.protocol.specs.Tables.{filled, Page, Tables}
use Rattle.protocol_world.specs.Sizes.{EventSized, MemoryThere, expects}
use Rattle.protocol_bridge.specs.Same.{SamePage, SameTables, SameFrom, SameOpen, SameWord, same_nothing, same_begun, same_whole, same_ended, SameMail, SameMemory, same_memory, SameLetter, same_letter}
use Rattle.protocol_bridge.proofs.Alike.{found_same, oldest_same}
use Rattle.protocol_bridge.proofs.AlikeChoices.{SameEvent, SameReaction, chooses_same, memory_of, page_itself, put_same_at, same_act, same_done, same_event, same_given, same_keeps, same_page, tables_put, tables_same, with_reading_same}

-- WHAT AN EVENT LEAVES
open_put : (lo : ℕ) (t u : ℕ → Tables) (g : ℕ) (x y : Tables) → SameFrom lo t u → (lo ≤ g → SameTables x y) → SameFrom lo (put t g x) (put u g y)
open_put lo t u g x y h at a j le lj = on (eqb a g) refl
  where
    on : (b : Bool) → eqb a g ≡ b → SamePage ((pick b x (t a)).page j) ((pick b y (u a)).page j)
    on true e = at (omega (arith, le, eqb-true a g e)) j lj
    on false e = h a j le lj

from_more : (lo hi : ℕ) (t u : ℕ → Tables) → lo ≤ hi → SameFrom lo t u → SameFrom hi t u
from_more lo hi t u le h a j l lj = h a j (omega (arith, le, l)) lj

raised_more : (f g : ℕ) → f ≤ raised f g
raised_more f g = pick_both (leb g (f + late)) f (g - late) (λ n. f ≤ n) (λ _. omega arith) (λ e. omega (arith, leb-false g (f + late) e))

reads_same : (b c : Memory) → SameMemory b c → (r : Reading) → r.key / crew < slots → SameMemory (reads b b.reader.stage r) (reads c c.reader.stage r)
reads_same _ _ (same_memory me s p t u w pa k o₁ o₂ cu m n lt h e) r low = by_stage s h
  where
    news : SameMail (record { word = m.word; passed = m.passed; due = λ j. not (eqb j me); woke = m.woke }) (record {
      word = n.word;
      passed = n.passed;
      due = λ j. not (eqb j me);
      woke = n.woke;
    })
    news = record { word = e.word; passed = e.passed; due = λ _ _. refl; woke = e.woke }

    taken : (f : ℕ) → SameFrom f t u → SameFrom (raised f (hour_of r)) (taking_in t r) (taking_in u r)
    taken f q = open_put (raised f (hour_of r)) t u (hour_of r) _ _ (from_more f (raised f (hour_of r)) t u (raised_more f (hour_of r)) q)
        (λ le. tables_put (t (hour_of r)) (u (hour_of r)) (r.key % crew) _ _
        (with_reading_same ((t (hour_of r)).page (r.key % crew)) ((u (hour_of r)).page (r.key % crew)) r low
        (q (hour_of r) (r.key % crew) (omega (arith, le, raised_more f (hour_of r))) (omega arith)))
        (λ j lj. q (hour_of r) j (omega (arith, le, raised_more f (hour_of r))) lj))

    takes : (f : ℕ) → SameFrom f t u → (s : Stage) → SameMemory (with_reader (memory_of me s p t w pa k o₁ cu m)
        (read_on (memory_of me s p t w pa k o₁ cu m).reader (raised f (hour_of r)) r))
        (with_reader (memory_of me s p u w pa k o₂ cu n) (read_on (memory_of me s p u w pa k o₂ cu n).reader (raised f (hour_of r)) r))
    takes f q s = same_memory me (begun (raised f (hour_of r))) (suc p) _ _ w pa k o₁ o₂ cu m n lt (taken f q) e

    overs : (c : ℕ) → SameFrom c t u → (s : Stage) → SameMemory (with_news (memory_of me s p t w pa k o₁ cu m)
        (whole c (Some (sooner (oldest t (suc c)) (hour_of r - late)))))
        (with_news (memory_of me s p u w pa k o₂ cu n) (whole c (Some (sooner (oldest u (suc c)) (hour_of r - late)))))
    overs c q s = subst (λ o. SameMemory (with_news (memory_of me s p t w pa k o₁ cu m) (whole c (Some (sooner (oldest t (suc c)) (hour_of r - late)))))
        (with_news (memory_of me s p u w pa k o₂ cu n) (whole c (Some (sooner o (hour_of r - late))))))
        (oldest_same t u (suc c) (from_more c (suc c) t u (omega arith) q))
        (same_memory me (whole c (Some (sooner (oldest t (suc c)) (hour_of r - late)))) p t u w pa k o₁ o₂ cu _ _ lt q news)

    by_find : (f : ℕ) → SameFrom f t u → (o : Option ℕ) → SameMemory (reads_by (memory_of me (begun f) p t w pa k o₁ cu m) f (hour_in f o) r)
        (reads_by (memory_of me (begun f) p u w pa k o₂ cu n) f (hour_in f o) r)
    by_find f q None = takes f q (begun f)
    by_find f q (Some d) = pick_two (leb (hour_of r) (f + d + late)) (leb (hour_of r) (f + d + late)) refl _ _ _ _ SameMemory (λ _. takes f q (begun f))
        (λ _. overs (f + d) (from_more f (f + d) t u (omega arith) q) (begun f))

    by_stage : (s : Stage) → SameOpen s t u → SameMemory (reads (memory_of me s p t w pa k o₁ cu m) s r) (reads (memory_of me s p u w pa k o₂ cu n) s r)
    by_stage (begun f) q = subst (λ o. SameMemory (reads_by (memory_of me (begun f) p t w pa k o₁ cu m) f (oldest t f) r)
        (reads_by (memory_of me (begun f) p u w pa k o₂ cu n) f (hour_in f o) r)) (found_same t u f q) (by_find f q (find (λ d. filled (t (f + d))) (suc late)))
    by_stage (whole g nx) q = same_memory me (whole g nx) p t u w pa k o₁ o₂ cu m n lt q e
    by_stage ended q = same_memory me ended p t u w pa k o₁ o₂ cu m n lt q e

ends_same : (b c : Memory) → SameMemory b c → SameMemory (ends b b.reader.stage) (ends c c.reader.stage)
ends_same _ _ (same_memory me s p t u w pa k o₁ o₂ cu m n lt h e) = by_stage s h
  where
    news : SameMail (record { word = m.word; passed = m.passed; due = λ j. not (eqb j me); woke = m.woke }) (record {
      word = n.word;
      passed = n.passed;
      due = λ j. not (eqb j me);
      woke = n.woke;
    })
    news = record { word = e.word; passed = e.passed; due = λ _ _. refl; woke = e.woke }

    by_find : (f : ℕ) → SameFrom f t u → (o : Option ℕ) → SameMemory (ends_by (memory_of me (begun f) p t w pa k o₁ cu m) (hour_in f o))
        (ends_by (memory_of me (begun f) p u w pa k o₂ cu n) (hour_in f o))
    by_find f q None = same_memory me ended p t u w pa k o₁ o₂ cu _ _ lt tt news
    by_find f q (Some d) = subst (λ o. SameMemory (with_news (memory_of me (begun f) p t w pa k o₁ cu m) (whole (f + d) (oldest t (suc (f + d)))))
        (with_news (memory_of me (begun f) p u w pa k o₂ cu n) (whole (f + d) o)))
        (oldest_same t u (suc (f + d)) (from_more f (suc (f + d)) t u (omega arith) q))
        (same_memory me (whole (f + d) (oldest t (suc (f + d)))) p t u w pa k o₁ o₂ cu _ _ lt (from_more f (f + d) t u (omega arith) q) news)

    by_stage : (s : Stage) → SameOpen s t u → SameMemory (ends (memory_of me s p t w pa k o₁ cu m) s) (ends (memory_of me s p u w pa k o₂ cu n) s)
    by_stage (begun f) q = subst (λ o. SameMemory (ends_by (memory_of me (begun f) p t w pa k o₁ cu m) (oldest t f))
        (ends_by (memory_of me (begun f) p u w pa k o₂ cu n) (hour_in f o))) (found_same t u f q) (by_find f q (find (λ d. filled (t (f + d))) (suc late)))
    by_stage (whole g nx) q = same_memory me (whole g nx) p t u w pa k o₁ o₂ cu m n lt q e
    by_stage ended q = same_memory me ended p t u w pa k o₁ o₂ cu m n lt q e

letter_in_same : (b c : Memory) → SameMemory b c → (j : ℕ) → j < crew → (l k : Letter) → SameLetter l k → SameMemory (with_letter b j l) (with_letter c j k)
letter_in_same _ _ (same_memory me s p t u w pa k o₁ o₂ cu m n lt h e) j lj _ _ (same_letter wk pd x y q) =
    same_memory me s p t u w pa k o₁ o₂ cu _ _ lt h (record {
      word = λ i li. put_same_at m.word n.word j x y SameWord q i (e.word i li);
      passed = λ i li. put_same_at m.passed n.passed j pd pd (λ a b. a ≡ b) refl i (e.passed i li);
      due = λ i li. put_same_at m.due n.due j (or wk (m.due j)) (or wk (n.due j)) (λ a b. a ≡ b) (ap (or wk) (e.due j lj)) i (e.due i li);
      woke = e.woke;
    })

pausing_same : (b c : Memory) → SameMemory b c → SameMemory (pausing b) (pausing c)
pausing_same _ _ (same_memory me s p t u w pa k o₁ o₂ cu m n lt h e) = same_memory me s p t u w true k o₁ o₂ cu m n lt h e

keeps_same : (b c : Memory) → SameMemory b c → is_reading b.reader.stage ≡ true → (q : ℕ) →
    SameReaction (does (saving q) b (keep_page (other_set b.reader.set) q (page_kept b q)))
    (does (saving q) c (keep_page (other_set c.reader.set) q (page_kept c q)))
keeps_same _ _ (same_memory me s p t u w pa k o₁ o₂ cu m n lt h e) rd q = by_stage s h rd
  where
    by_stage : (s : Stage) → SameOpen s t u → is_reading s ≡ true →
        SameReaction (does (saving q) (memory_of me s p t w pa k o₁ cu m) (keep_page (other_set w) q (page_kept (memory_of me s p t w pa k o₁ cu m) q)))
        (does (saving q) (memory_of me s p u w pa k o₂ cu n) (keep_page (other_set w) q (page_kept (memory_of me s p u w pa k o₂ cu n) q)))
    by_stage (begun f) z rd = same_done (saving q) _ _ _ _ (same_memory me (begun f) p t u w pa k o₁ o₂ cu m n lt z e)
        (same_keeps (other_set w) q _ _ (z (f + q / crew) (q % crew) (omega arith) (omega arith)))
    by_stage (whole c nx) z rd = absurd (both_ways _ refl rd)
    by_stage ended z rd = absurd (both_ways _ refl rd)

roots_same : (b c : Memory) → SameMemory b c → is_reading b.reader.stage ≡ true →
    SameReaction (does placing (saved b) (keep_root (saved_root b))) (does placing (saved c) (keep_root (saved_root c)))
roots_same _ _ (same_memory me s p t u w pa k o₁ o₂ cu m n lt h e) rd = by_stage s h rd
  where
    by_stage : (s : Stage) → SameOpen s t u → is_reading s ≡ true →
        SameReaction (does placing (saved (memory_of me s p t w pa k o₁ cu m)) (keep_root (saved_root (memory_of me s p t w pa k o₁ cu m))))
        (does placing (saved (memory_of me s p u w pa k o₂ cu n)) (keep_root (saved_root (memory_of me s p u w pa k o₂ cu n))))
    by_stage (begun f) z rd = same_done placing _ _ _ _ (same_memory me (begun f) p t u (other_set w) true p o₁ o₂ cu m n lt z e) (same_act _)
    by_stage (whole c nx) z rd = absurd (both_ways _ refl rd)
    by_stage ended z rd = absurd (both_ways _ refl rd)

saves_same : (b c : Memory) → SameMemory b c → is_reading b.reader.stage ≡ true → (q : ℕ) → SameReaction (saves_next b q) (saves_next c q)
saves_same b c e rd q = pick_two (ltb (suc q) kept_pages) (ltb (suc q) kept_pages) refl _ _ _ _ SameReaction (λ t. keeps_same b c e rd (suc q))
    (λ _. roots_same b c e rd)

news_kept : (b c : Memory) → SameMemory b c → ltb b.reader.kept b.reader.pos ≡ ltb c.reader.kept c.reader.pos
news_kept _ _ (same_memory me s p t u w pa k o₁ o₂ cu m n lt h e) = refl

half_kept : (b c : Memory) → SameMemory b c → leb (b.reader.kept + half_roll) b.reader.pos ≡ leb (c.reader.kept + half_roll) c.reader.pos
half_kept _ _ (same_memory me s p t u w pa k o₁ o₂ cu m n lt h e) = refl

-- where something is to be kept, it has not ended; and a whole hour's pages may be kept too
starts_same : (b c : Memory) → SameMemory b c → (b.reader.stage ≡ ended → b.reader.kept ≡ b.reader.pos) → ltb b.reader.kept b.reader.pos ≡ true →
    SameReaction (does (saving 0) b (keep_page (other_set b.reader.set) 0 (page_kept b 0)))
    (does (saving 0) c (keep_page (other_set c.reader.set) 0 (page_kept c 0)))
starts_same _ _ (same_memory me s p t u w pa k o₁ o₂ cu m n lt h e) fin news = by_stage s h fin
  where
    by_stage : (s : Stage) → SameOpen s t u → (s ≡ ended → k ≡ p) →
        SameReaction (does (saving 0) (memory_of me s p t w pa k o₁ cu m) (keep_page (other_set w) 0 (page_kept (memory_of me s p t w pa k o₁ cu m) 0)))
        (does (saving 0) (memory_of me s p u w pa k o₂ cu n) (keep_page (other_set w) 0 (page_kept (memory_of me s p u w pa k o₂ cu n) 0)))
    by_stage (begun f) z fin = same_done (saving 0) _ _ _ _ (same_memory me (begun f) p t u w pa k o₁ o₂ cu m n lt z e)
        (same_keeps (other_set w) 0 _ _ (z (f + 0 / crew) (0 % crew) (omega arith) (omega arith)))
    by_stage (whole c nx) z fin = same_done (saving 0) _ _ _ _ (same_memory me (whole c nx) p t u w pa k o₁ o₂ cu m n lt z e)
        (same_keeps (other_set w) 0 _ _ (z (suc c + 0 / crew) (0 % crew) (omega arith) (omega arith)))
    by_stage ended z fin = absurd (omega (arith, fin refl, ltb-true k p news))

later_same : (b c : Memory) → SameMemory b c → (b.reader.stage ≡ ended → b.reader.kept ≡ b.reader.pos) →
    SameReaction (reacts ready b later) (reacts ready c later)
later_same b c e fin = pick_two (leb (b.reader.kept + half_roll) b.reader.pos) (leb (c.reader.kept + half_roll) c.reader.pos)
    (half_kept b c e) _ _ _ _ SameReaction
    (λ t. starts_same b c e fin (lt-ltb b.reader.kept b.reader.pos (omega (arith, leb-true (b.reader.kept + half_roll) b.reader.pos (half_kept b c e ∙ t)))))
    (λ _. chooses_same (pausing b) (pausing c) (pausing_same b c e))

at_end_same : (b c : Memory) → SameMemory b c → (b.reader.stage ≡ ended → b.reader.kept ≡ b.reader.pos) →
    SameReaction (reacts ready b at_end) (reacts ready c at_end)
at_end_same b c e fin = pick_two (ltb b.reader.kept b.reader.pos) (ltb c.reader.kept c.reader.pos) (news_kept b c e) _ _ _ _ SameReaction
    (λ t. starts_same b c e fin (news_kept b c e ∙ t)) (λ _. chooses_same (ends b b.reader.stage) (ends c c.reader.stage) (ends_same b c e))

rooted_same : (b c : Memory) → SameMemory b c → (r : Root) (w : PageSet) → SameReaction (rooted b r w) (rooted c r w)
rooted_same _ _ (same_memory me s p t u w pa k o₁ o₂ cu m n lt h e) r no_set =
    same_done asks_cursor _ _ _ _ (same_memory me (begun r.hour) r.pos no_tables no_tables r.set false r.pos r.hour r.hour cu m n lt (tables_same r.hour) e)
    (same_act _)
rooted_same _ _ (same_memory me s p t u w pa k o₁ o₂ cu m n lt h e) r first_set =
    same_done (asks_page 0) _ _ _ _ (same_memory me (begun r.hour) r.pos no_tables no_tables r.set false r.pos r.hour r.hour cu m n lt (tables_same r.hour) e)
    (same_act _)
rooted_same _ _ (same_memory me s p t u w pa k o₁ o₂ cu m n lt h e) r second_set =
    same_done (asks_page 0) _ _ _ _ (same_memory me (begun r.hour) r.pos no_tables no_tables r.set false r.pos r.hour r.hour cu m n lt (tables_same r.hour) e)
    (same_act _)

paged_open : (s : Stage) (t u : ℕ → Tables) (q : ℕ) (x y : Page) → SamePage x y → SameOpen s t u →
    SameOpen s (with_page_at t (first_open s) q x) (with_page_at u (first_open s) q y)
paged_open (begun f) t u q x y r h = open_put f t u (f + q / crew) _ _ h (λ le. tables_put (t (f + q / crew)) (u (f + q / crew)) (q % crew) x y r
    (λ j lj. h (f + q / crew) j le lj))
paged_open (whole c nx) t u q x y r h = open_put c t u (suc c + q / crew) _ _ h (λ le. tables_put (t (suc c + q / crew)) (u (suc c + q / crew)) (q % crew) x y r
    (λ j lj. h (suc c + q / crew) j le lj))
paged_open ended t u q x y r h = tt

paged_memory : (b c : Memory) → SameMemory b c → (q : ℕ) (x y : Page) → SamePage x y → SameMemory (paged b q x) (paged c q y)
paged_memory _ _ (same_memory me s p t u w pa k o₁ o₂ cu m n lt h e) q x y r = same_memory me s p _ _ w pa k o₁ o₂ cu m n lt (paged_open s t u q x y r h) e

set_same : (b c : Memory) → SameMemory b c → b.reader.set ≡ c.reader.set
set_same _ _ (same_memory me s p t u w pa k o₁ o₂ cu m n lt h e) = refl

paged_same : (b c : Memory) → SameMemory b c → (q : ℕ) (x y : Page) → SamePage x y → SameReaction (asks_next (paged b q x) q) (asks_next (paged c q y) q)
paged_same b c e q x y r =
    let next : SameMemory (paged b q x) (paged c q y) = paged_memory b c e q x y r in
    pick_two (ltb (suc q) kept_pages) (ltb (suc q) kept_pages) refl _ _ _ _ SameReaction
    (λ _. subst (λ v. SameReaction (does (asks_page (suc q)) (paged b q x) (recall_page b.reader.set (suc q)))
    (does (asks_page (suc q)) (paged c q y) (recall_page v (suc q)))) (set_same b c e) (same_done (asks_page (suc q)) _ _ _ _ next (same_act _)))
    (λ _. same_done asks_cursor _ _ _ _ next (same_act _))

booted_same : (b c : Memory) → SameMemory b c → (d : Cursor) → SameReaction (reacts asks_cursor b (cursor_is d)) (reacts asks_cursor c (cursor_is d))
booted_same _ _ (same_memory me s p t u w pa k o₁ o₂ cu m n lt h e) d =
    same_done placed _ _ _ _ (same_memory me s p t u w pa k o₁ o₂ d _ _ lt h (record {
      word = e.word;
      passed = e.passed;
      due = λ _ _. refl;
      woke = λ _ _. refl;
    })) (same_act _)

moves_same : (b c : Memory) → SameMemory b c → (d : Cursor) → SameReaction (does ready (with_cursor b d) (keep_cursor d))
    (does ready (with_cursor c d) (keep_cursor d))
moves_same _ _ (same_memory me s p t u w pa k o₁ o₂ cu m n lt h e) d = same_done ready _ _ _ _ (same_memory me s p t u w pa k o₁ o₂ d m n lt h e) (same_act _)

places_same : (b c : Memory) → SameMemory b c → SameReaction (does placed b (from b.reader.pos)) (does placed c (from c.reader.pos))
places_same _ _ (same_memory me s p t u w pa k o₁ o₂ cu m n lt h e) = same_done placed _ _ _ _ (same_memory me s p t u w pa k o₁ o₂ cu m n lt h e) (same_act _)

frees_same : (b c : Memory) → SameMemory b c → SameReaction (does ready b (let_go b.reader.pos)) (does ready c (let_go c.reader.pos))
frees_same _ _ (same_memory me s p t u w pa k o₁ o₂ cu m n lt h e) = same_done ready _ _ _ _ (same_memory me s p t u w pa k o₁ o₂ cu m n lt h e) (same_act _)

pub new_same : (i : ℕ) → i < crew → SameMemory (new_memory i) (new_memory i)
new_same i lt = same_memory i (begun 0) 0 no_tables no_tables no_set false 0 0 0 (record { hour = 0; slot = 0 }) no_mail no_mail lt (tables_same 0)
    (record { word = λ _ _. same_nothing; passed = λ _ _. refl; due = λ _ _. refl; woke = λ _ _. refl })

key_low : (r : Reading) → a_reading r ≡ true → r.key / crew < slots
key_low r e = let k : r.key < 1024 = ltb-true r.key 1024 (and_parts (ltb r.key 1024) _ (and_parts (ltb r.time 4611686018427387904) (ltb r.key 1024 &&
    ltb r.value 4294967296) e).1).0 in omega arith

word_itself : (s : Statement) → SameWord s s
word_itself nothing = same_nothing
word_itself (has_begun c) = same_begun c
word_itself (is_whole c nx p) = same_whole c nx p p (page_itself p)
word_itself has_ended = same_ended

pub letter_itself : (l : Letter) → SameLetter l l
letter_itself l = same_letter l.woke l.passed l.says l.says (word_itself l.says)

given_same : (p : Phase) (j : ℕ) (l k : Letter) → SameLetter l k → EventSized (letter j l) → expects p (letter j l) ≡ true → (b c : Memory) → SameMemory b c →
    SameReaction (reacts p b (letter j l)) (reacts p c (letter j k))
given_same ready j l k r hs ex b c e = chooses_same _ _ (letter_in_same b c e j hs.0 l k r)
given_same p j l k r hs ex b c e = absurd (both_ways _ refl ex)

page_same : (p : Phase) (x y : Page) → SamePage x y → EventSized (page_is (Some x)) → expects p (page_is (Some x)) ≡ true → (b c : Memory) → SameMemory b c →
    SameReaction (reacts p b (page_is (Some x))) (reacts p c (page_is (Some y)))
page_same (asks_page q) x y r hs ex b c e = paged_same b c e q x y r
page_same p x y r hs ex b c e = absurd (both_ways _ refl ex)

-- THE SAME EVENT, in a phase that expects it
event_same : (p : Phase) (h : Event) → EventSized h → expects p h ≡ true → (b c : Memory) → MemoryThere p b → SameMemory b c →
    SameReaction (reacts p b h) (reacts p c h)
event_same p (wakes i) hs ex b c z e = same_done asks_root _ _ _ _ (new_same i hs) (same_act _)
event_same asks_root (root_is r) hs ex b c z e = rooted_same b c e r r.set
event_same (asks_page q) (page_is (Some x)) hs ex b c z e = paged_same b c e q x x (page_itself x)
event_same asks_cursor (cursor_is d) hs ex b c z e = booted_same b c e d
event_same placing go hs ex b c z e = places_same b c e
event_same placed go hs ex b c z e = frees_same b c e
event_same (noting m s) go hs ex b c z e = moves_same b c e (record { hour = m; slot = suc s })
event_same (saving q) go hs ex b c z e = saves_same b c e z.2 q
event_same ready go hs ex b c z e = chooses_same b c e
event_same ready (comes r) hs ex b c z e = chooses_same _ _ (reads_same b c e r (key_low r hs))
event_same ready later hs ex b c z e = later_same b c e z.finished
event_same ready at_end hs ex b c z e = at_end_same b c e z.finished
event_same ready (letter j l) hs ex b c z e = chooses_same _ _ (letter_in_same b c e j hs.0 l l (letter_itself l))
event_same p h hs ex b c z e = absurd (both_ways _ refl ex)

pub reacts_same : (p : Phase) (h k : Event) → SameEvent h k → EventSized h → expects p h ≡ true → (b c : Memory) → MemoryThere p b → SameMemory b c →
    SameReaction (reacts p b h) (reacts p c k)
reacts_same p _ _ (same_event h) hs ex b c z e = event_same p h hs ex b c z e
reacts_same p _ _ (same_given j l k r) hs ex b c z e = given_same p j l k r hs ex b c e
reacts_same p _ _ (same_page x y r) hs ex b c z e = page_same p x y r hs ex b c e
