-- What a step keeps and sends is small, since it stands in the memory that it leaves.
use Rattle.std.proofs.Common.{Some, ◌≡◌, ℕ, suc, ◌+◌, ◌/◌, ◌%◌, ◌<◌, ◌≤◌, true, ltb, refl, arith, leb}
use Rattle.std.proofs.lemmas.Bool.{both_ways}
use Rattle.sums.specs.Cells.{slots}
use Rattle.sums.proofs.Picks.{pick_both}
use Rattle.protocol.specs.Boot.{rooted}
use Rattle.protocol.specs.Checkpoints.{page_kept, pausing}
use Rattle.protocol.specs.Choose.{chooses}
use Rattle.protocol.specs.Limits.{crew, kept_pages, half_roll}
use Rattle.protocol.specs.Mail.{with_letter}
use Rattle.protocol.specs.Memory.{Memory}
use Rattle.protocol.specs.OpenHours.{page_at}
use Rattle.protocol.specs.Phases.{Phase, asks_root, asks_page, asks_cursor, placing, placed, ready, noting, saving, Event, wakes, comes, later, at_end, letter, root_is, page_is, cursor_is, go, Act, more, from, let_go, sends, keep_root, keep_page, keep_cursor, recall_root, recall_page, recall_cursor, tells, rests, Reaction, does}
use Rattle.protocol.specs.Reader.{Stage, begun, whole, ended, PageSet, no_set, first_set, second_set, Root, first_open, is_reading}
use Rattle.protocol.specs.Reading.{reads, ends}
use Rattle.protocol.specs.Statements.{said_of}
use Rattle.protocol.specs.Step.{reacts}
use Rattle.protocol.specs.Tables.{Tables}
use Rattle.protocol.proofs.Choosing.{on_chooses}
use Rattle.protocol_world.specs.Sizes.{EntrySized, ActSized, PageSized, OpenSized, StageSized, WordSized, MemoryThere, expects}

-- an entry that is told is that of all gauges
abbrev pub ToldSized : Act → Type 0
ToldSized more = Unit {0}
ToldSized (from p) = Unit {0}
ToldSized (let_go p) = Unit {0}
ToldSized (sends j l) = Unit {0}
ToldSized (keep_root r) = Unit {0}
ToldSized (keep_page s q p) = Unit {0}
ToldSized (keep_cursor c) = Unit {0}
ToldSized recall_root = Unit {0}
ToldSized (recall_page s q) = Unit {0}
ToldSized recall_cursor = Unit {0}
ToldSized (tells h k s) = EntrySized s
ToldSized rests = Unit {0}

pub record Fine (d : Reaction) : Type 0 where
  pub act : MemoryThere d.phase d.memory → ToldSized d.act → ActSized d.act

word_sized : (s : Stage) (t : ℕ → Tables) (j : ℕ) → j < crew → StageSized s → OpenSized t s → WordSized (said_of s t j)
word_sized (begun c) t j lj z f = z
word_sized (whole c nx) t j lj z f = (z.0, z.1, f.0 c j (omega arith) lj)
word_sized ended t j lj z f = tt

chooses_fine : (b : Memory) → Fine (chooses b)
chooses_fine b = on_chooses b Fine (record {
  reads = λ _. record { act = λ _ _. tt };
  tells = λ m _ s _. record { act = λ _ t. t };
  passes = λ m _ _. record { act = λ z _. (z.hour, z.slot) };
  goes = λ _. record { act = λ _ _. tt };
  sends = λ j f. record { act = λ z _. (f.below, z.hour, word_sized b.reader.stage b.reader.tables j f.below z.stage z.pages) };
  rests = λ _. record { act = λ _ _. tt };
})

kept_fine : (s : Stage) (t : ℕ → Tables) (q : ℕ) → is_reading s ≡ true → OpenSized t s → PageSized (page_at t (first_open s) q)
kept_fine (begun f) t q rd z = z.0 (f + q / crew) (q % crew) (omega arith) (omega arith)
kept_fine (whole c nx) t q rd z = absurd (both_ways _ refl rd)
kept_fine ended t q rd z = absurd (both_ways _ refl rd)

keeps_fine : (b : Memory) (w : PageSet) (q : ℕ) → Fine (does (saving q) b (keep_page w q (page_kept b q)))
keeps_fine b w q = record { act = λ z _. (z.1, kept_fine b.reader.stage b.reader.tables q z.2 z.0.pages) }

rooted_fine : (b : Memory) (r : Root) (s : PageSet) → Fine (rooted b r s)
rooted_fine b r no_set = record { act = λ _ _. tt }
rooted_fine b r first_set = record { act = λ _ _. tt }
rooted_fine b r second_set = record { act = λ _ _. tt }

pub reacts_fine : (p : Phase) (h : Event) → expects p h ≡ true → (b : Memory) → Fine (reacts p b h)
reacts_fine p (wakes i) ex b = record { act = λ _ _. tt }
reacts_fine asks_root (root_is r) ex b = rooted_fine b r r.set
reacts_fine (asks_page q) (page_is (Some x)) ex b = pick_both (ltb (suc q) kept_pages) _ _ Fine (λ _. record { act = λ _ _. tt })
    (λ _. record { act = λ _ _. tt })
reacts_fine asks_cursor (cursor_is d) ex b = record { act = λ _ _. tt }
reacts_fine placing go ex b = record { act = λ _ _. tt }
reacts_fine placed go ex b = record { act = λ _ _. tt }
reacts_fine (noting m s) go ex b = record { act = λ z _. (z.hour, z.slot) }
reacts_fine (saving q) go ex b = pick_both (ltb (suc q) kept_pages) _ _ Fine
    (λ t. keeps_fine b _ (suc q)) (λ _. record { act = λ z _. (z.stage, z.pos) })
reacts_fine ready go ex b = chooses_fine b
reacts_fine ready (comes r) ex b = chooses_fine (reads b b.reader.stage r)
reacts_fine ready later ex b = pick_both (leb (b.reader.kept + half_roll) b.reader.pos) _ _ Fine (λ _. keeps_fine b _ 0) (λ _. chooses_fine (pausing b))
reacts_fine ready at_end ex b = pick_both (ltb b.reader.kept b.reader.pos) _ _ Fine (λ _. keeps_fine b _ 0) (λ _. chooses_fine (ends b b.reader.stage))
reacts_fine ready (letter j l) ex b = chooses_fine (with_letter b j l)
reacts_fine p h ex b = absurd (both_ways _ refl ex)
