-- What is the same as the same is the same; and memories that are the same have room for the same.
use Rattle.std.proofs.Common.{◌≡◌, ℕ, ◌≤◌, Bool, true, Option, sym, refl, ◌∙◌, subst, arith}
use Rattle.protocol.specs.Memory.{Memory}
use Rattle.protocol.specs.Phases.{Phase, asleep, asks_root, asks_page, asks_cursor, placing, placed, ready, noting, saving}
use Rattle.protocol.specs.Reader.{Stage, begun, whole, ended, is_reading}
use Rattle.protocol.specs.Statements.{Statement, is_whole, Letter}
use Rattle.protocol.specs.Tables.{Tables, Page}
use Rattle.protocol_world.specs.Sizes.{top, EntrySized, PageBlank, OpenFrom, OpenSized, PageSized, WordSized, MemorySized, MemoryThere}
use Rattle.protocol_bridge.specs.Same.{SameFrom, SameOpen, reader_with, SamePage, SameWord, same_nothing, same_begun, same_whole, same_ended, SameMemory, same_memory, SameLetter, same_letter}

-- THE SAME AGAIN
pub page_trans : (p q r : Page) → SamePage p q → SamePage q r → SamePage p r
page_trans p q r e f = record { entries = λ s l. e.entries s l ∙ f.entries s l }

pub word_trans : (s t u : Statement) → SameWord s t → SameWord t u → SameWord s u
word_trans _ _ u same_nothing f = f
word_trans _ _ u (same_begun c) f = f
word_trans _ _ u (same_whole c nx p q e) f = on p c nx q u e f
  where
    on : (p : Page) (c : ℕ) (nx : Option ℕ) (q : Page) (u : Statement) → SamePage p q → SameWord (is_whole c nx q) u → SameWord (is_whole c nx p) u
    on p _ _ _ _ e (same_whole c nx q r f) = same_whole c nx p r (page_trans p q r e f)
word_trans _ _ u same_ended f = f

pub letter_trans : (l m n : Letter) → SameLetter l m → SameLetter m n → SameLetter l n
letter_trans _ _ n (same_letter w p s t e) f = on w p s t n e f
  where
    on : (w : Bool) (p : ℕ) (s t : Statement) (n : Letter) → SameWord s t → SameLetter (record { woke = w; passed = p; says = t }) n →
        SameLetter (record { woke = w; passed = p; says = s }) n
    on _ _ s _ _ e (same_letter w p t u f) = same_letter w p s u (word_trans s t u e f)

open_trans : (s : Stage) (t u v : ℕ → Tables) → SameOpen s t u → SameOpen s u v → SameOpen s t v
open_trans (begun f) t u v h g = λ a j le lj. page_trans ((t a).page j) ((u a).page j) ((v a).page j) (h a j le lj) (g a j le lj)
open_trans (whole c nx) t u v h g = λ a j le lj. page_trans ((t a).page j) ((u a).page j) ((v a).page j) (h a j le lj) (g a j le lj)
open_trans ended t u v h g = tt

pub memory_trans : (a b c : Memory) → SameMemory a b → SameMemory b c → SameMemory a c
memory_trans _ _ c (same_memory me s p t u w pa k o₁ o₂ cu m n lt h e) f = on c f
  where
    on : (c : Memory) → SameMemory (record { me = me; reader = reader_with s p u w pa k o₂; cursor = cu; mail = n }) c →
        SameMemory (record { me = me; reader = reader_with s p t w pa k o₁; cursor = cu; mail = m }) c
    on _ (same_memory _ _ _ _ v _ _ _ _ o₃ _ _ o lt₁ h₁ e₁) = same_memory me s p t v w pa k o₁ o₃ cu m o lt (open_trans s t u v h h₁)
        (record {
          word = λ j lj. word_trans (m.word j) (n.word j) (o.word j) (e.word j lj) (e₁.word j lj);
          passed = λ j lj. e.passed j lj ∙ e₁.passed j lj;
          due = λ j lj. e.due j lj ∙ e₁.due j lj;
          woke = λ j lj. e.woke j lj ∙ e₁.woke j lj;
        })

-- WHAT IS SMALL STAYS SO
pub page_sized : (p q : Page) → SamePage p q → PageSized p → PageSized q
page_sized p q e z = record { entries = λ s l. subst EntrySized (e.entries s l) (z.entries s l) }

page_blank : (p q : Page) → SamePage p q → PageBlank p → PageBlank q
page_blank p q e z s l = sym (e.entries s l) ∙ z s l

from_sized : (f : ℕ) (t u : ℕ → Tables) → SameFrom f t u → OpenFrom t f → OpenFrom u f
from_sized f t u h z = (
  λ a j le lj. page_sized ((t a).page j) ((u a).page j) (h a j le lj) (z.0 a j le lj),
  λ a j l lj. page_blank ((t a).page j) ((u a).page j) (h a j (omega (arith, l)) lj) (z.1 a j l lj),
)

open_sized : (s : Stage) (t u : ℕ → Tables) → SameOpen s t u → OpenSized t s → OpenSized u s
open_sized (begun f) t u h z = from_sized f t u h z
open_sized (whole c nx) t u h z = from_sized c t u h z
open_sized ended t u h z = tt

pub word_sized : (s t : Statement) → SameWord s t → WordSized s → WordSized t
word_sized _ _ same_nothing z = z
word_sized _ _ (same_begun c) z = z
word_sized _ _ (same_whole c nx p q e) z = (z.0, z.1, page_sized p q e z.2)
word_sized _ _ same_ended z = z

memory_sized : (b c : Memory) → SameMemory b c → MemorySized b → MemorySized c
memory_sized _ _ (same_memory me s p t u w pa k o₁ o₂ cu m n lt h e) z = record {
  finished = z.finished;
  me = z.me;
  stage = z.stage;
  pos = z.pos;
  kept = z.kept;
  pages = open_sized s t u h z.pages;
  hour = z.hour;
  slot = z.slot;
  words = λ a la. word_sized (m.word a) (n.word a) (e.word a la) (z.words a la);
  passed = λ a la. subst (λ v. v ≤ top) (e.passed a la) (z.passed a la);
}

pub stage_same : (b c : Memory) → SameMemory b c → b.reader.stage ≡ c.reader.stage
stage_same _ _ (same_memory me s p t u w pa k o₁ o₂ cu m n lt h e) = refl

pub there_same : (p : Phase) (b c : Memory) → SameMemory b c → MemoryThere p b → MemoryThere p c
there_same asleep b c e z = tt
there_same asks_root b c e z = memory_sized b c e z
there_same (asks_page q) b c e z = (memory_sized b c e z.0, z.1)
there_same asks_cursor b c e z = memory_sized b c e z
there_same placing b c e z = memory_sized b c e z
there_same placed b c e z = memory_sized b c e z
there_same ready b c e z = memory_sized b c e z
there_same (noting m s) b c e z = (memory_sized b c e z.0, z.1, z.2)
there_same (saving q) b c e z = (memory_sized b c e z.0, z.1, subst (λ s. is_reading s ≡ true) (stage_same b c e) z.2)
