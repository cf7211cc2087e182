-- An event is taken in: what is left then, to choose by.
use Rattle.std.proofs.Common.{◌≡◌, ℕ, suc, ◌+◌, ◌<◌, ◌≤◌, true, ◌&&◌, leb, [], ◌∷◌, ◌++◌, length, get_or, Some, None, Option, refl, ◌∙◌, subst, arith}
use Rattle.std.proofs.lemmas.Bool.{both_ways, and_from, eq-eqb, le-leb}
use Rattle.sums.specs.Parts.{no_reading}
use Rattle.sums.specs.Sums.{pick, Gauges, Reading, hour_of}
use Rattle.sums.proofs.Picks.{pick_both}
use Rattle.protocol.specs.Checkpoints.{pausing}
use Rattle.protocol.specs.Choose.{chooses}
use Rattle.protocol.specs.Limits.{late, crew}
use Rattle.protocol.specs.Mail.{with_letter}
use Rattle.protocol.specs.Memory.{Memory}
use Rattle.protocol.specs.OpenHours.{oldest}
use Rattle.protocol.specs.Phases.{ready, letter, go}
use Rattle.protocol.specs.Reader.{Stage, begun, whole, ended, is_reading}
use Rattle.protocol.specs.Reading.{reads_by, ends_by, reads, ends}
use Rattle.protocol.specs.Statements.{Letter}
use Rattle.protocol.proofs.Puts.{put_each}
use Rattle.protocol_world.specs.Worlds.{Node, World, with_node, after, done}
use Rattle.protocol_world.proofs.Facts.{Fact}
use Rattle.protocol_world.proofs.Invariant.{EachIs, came, MemoryIs, row, AtWork, is_going, Own, hours, LetterIs, Knows, Good}
use Rattle.protocol_world.proofs.Letters.{each_head}
use Rattle.protocol_world.proofs.Readers.{pausing_memory, RowFine, reads_one, ends_here, letter_memory}
use Rattle.protocol_world.proofs.Changes.{no_letter, set_good, own_as, same_drawers}
use Rattle.protocol_world.proofs.Choices.{chooses_good}

module _ (gs : Gauges) (eight : length gs ≡ crew) (fine : (i : ℕ) → i < crew → RowFine (row gs i)) where
  module _ (w : World) (i : ℕ) (lt : i < crew) (g : Good gs w) where
    abbrev x : Node
    x = w.node i

    abbrev H : ℕ → ℕ
    H = hours gs w

    abbrev o : Own gs w.told i x
    o = g.own i lt

    knows_reads : (b : Memory) → Knows gs H i b → (s : Stage) (r : Reading) → Knows gs H i (reads b s r)
    knows_reads b k (begun f) r = by_oldest (oldest b.reader.tables f)
      where
        by_oldest : (o : Option ℕ) → Knows gs H i (reads_by b f o r)
        by_oldest None = record { words = k.words; passed = k.passed; behind = k.behind }
        by_oldest (Some c) = pick_both (leb (hour_of r) (c + late)) _ _ (Knows gs H i)
            (λ _. record { words = k.words; passed = k.passed; behind = k.behind }) (λ _. record { words = k.words; passed = k.passed; behind = k.behind })
    knows_reads b k (whole c nx) r = k
    knows_reads b k ended r = k

    knows_ends : (b : Memory) → Knows gs H i b → (s : Stage) → Knows gs H i (ends b s)
    knows_ends b k (begun f) = by_oldest (oldest b.reader.tables f)
      where
        by_oldest : (o : Option ℕ) → Knows gs H i (ends_by b o)
        by_oldest None = record { words = k.words; passed = k.passed; behind = k.behind }
        by_oldest (Some c) = record { words = k.words; passed = k.passed; behind = k.behind }
    knows_ends b k (whole c nx) = k
    knows_ends b k ended = k

    knows_letter : (b : Memory) → Knows gs H i b → (j : ℕ) (l : Letter) → LetterIs gs H j i l → Knows gs H i (with_letter b j l)
    knows_letter b k j l is = record {
      words = put_each b.mail.word j l.says (λ a s. a < crew → Fact (row gs a) i (H i) s) (λ _. is.fact) (λ a _. k.words a);
      passed = put_each b.mail.passed j l.passed (λ a n. a < crew → n ≤ H a) (λ _. is.passed) (λ a _. k.passed a);
      behind = k.behind;
    }

    -- the letter that came
    pub came_good : (j : ℕ) (l : Letter) → j < crew → x.pending ≡ Some (letter j l) → LetterIs gs H j i l
    came_good j l lj e =
        let q : EachIs (LetterIs gs H j i) (came j (Some (letter j l)) ++ w.wire j i) = subst (λ ev. EachIs (LetterIs gs H j i) (came j ev ++ w.wire j i)) e
        (g.cross.letters j i lj lt) in
        each_head (LetterIs gs H j i) l (w.wire j i)
        (subst (λ t. EachIs (LetterIs gs H j i) (pick t (l ∷ []) [] ++ w.wire j i)) (eq-eqb j j refl) q)

    -- AN EVENT IS TAKEN IN, and nothing is done yet
    abbrev pub absorbed : Memory → World
    absorbed b = with_node w i (after x ready b (Some go))

    -- what is left after it, to choose by
    pub record Taken (b : Memory) : Type 0 where
      pub memory : MemoryIs (row gs i) i x.root x.cursor b
      pub knows : Knows gs H i b
      pub clear : x.gone ≡ x.root.pos
      pub room : b.reader.pos ≤ x.gone + 4096
      pub newer : x.root.pos ≤ b.reader.pos
      pub at : is_reading b.reader.stage ≡ true → x.reads_at ≡ b.reader.pos

    pub taken_good : (b : Memory) → Taken b → Good gs (absorbed b)
    taken_good b k = set_good gs w i lt g (after x ready b (Some go)) (same_drawers gs w i lt g _ refl (omega arith) k.knows) no_letter
        (own_as gs w i lt g w.told ready b (Some go) x.reads_at o.cursor
        (is_going (record { memory = k.memory; clear = k.clear; room = k.room; newer = k.newer }) k.at))

    pub taken_room : (b : Memory) → Taken b → leb x.gone b.reader.pos && leb b.reader.pos (x.gone + 4096) ≡ true
    taken_room b k = and_from (leb x.gone b.reader.pos) (leb b.reader.pos (x.gone + 4096)) (le-leb _ _ (omega (arith, k.clear, k.newer))) (le-leb _ _ k.room)

    pub taken_chooses : (b : Memory) → Taken b → Good gs (done gs w i (chooses b))
    taken_chooses b k = chooses_good gs eight fine w i lt g b k.memory k.knows k.clear k.room k.newer k.at

    module _ (k : Knows gs H i x.memory) (a : AtWork gs w.told i x) where
      pub takes_reading : is_reading x.memory.reader.stage ≡ true → x.memory.reader.pos < length (row gs i) → x.reads_at ≡ suc x.memory.reader.pos →
          x.memory.reader.pos < x.gone + 4096 →
          Taken (reads x.memory x.memory.reader.stage (get_or (row gs i) x.memory.reader.pos no_reading))
      takes_reading r l at hi =
          let one = reads_one (row gs i) (fine i lt) i x.root x.cursor x.memory a.memory l x.memory.reader.stage a.memory.reader r in
          record {
            memory = one.0;
            knows = knows_reads x.memory k x.memory.reader.stage _;
            clear = a.clear;
            room = omega (arith, one.3);
            newer = omega (arith, one.2, a.newer);
            at = λ q. at ∙ one.1 q;
          }

      pub takes_pause : x.reads_at ≡ x.memory.reader.pos → Taken (pausing x.memory)
      takes_pause at = record {
        memory = pausing_memory (row gs i) (fine i lt) i x.root x.cursor x.memory a.memory;
        knows = record { words = k.words; passed = k.passed; behind = k.behind };
        clear = a.clear;
        room = a.room;
        newer = a.newer;
        at = λ _. at;
      }

      pub takes_end : x.root.pos ≡ x.memory.reader.pos → is_reading x.memory.reader.stage ≡ true → length (row gs i) ≤ x.memory.reader.pos →
          Taken (ends x.memory x.memory.reader.stage)
      takes_end last r le =
          let end = ends_here (row gs i) (fine i lt) i x.root x.cursor x.memory a.memory last le x.memory.reader.stage a.memory.reader r in
          record {
            memory = end.0;
            knows = knows_ends x.memory k x.memory.reader.stage;
            clear = a.clear;
            room = omega (arith, end.2, a.room);
            newer = omega (arith, end.2, a.newer);
            at = λ q. absurd (both_ways _ end.1 q);
          }

      pub takes_letter_in : (j : ℕ) (l : Letter) → j < crew → (j ≡ i → ⊥) → (is_reading x.memory.reader.stage ≡ true → x.reads_at ≡ x.memory.reader.pos) →
          x.pending ≡ Some (letter j l) → Taken (with_letter x.memory j l)
      takes_letter_in j l lj ne at e = record {
        memory = letter_memory (row gs i) (fine i lt) i x.root x.cursor x.memory a.memory j l ne;
        knows = knows_letter x.memory k j l (came_good j l lj e);
        clear = a.clear;
        room = a.room;
        newer = a.newer;
        at = at;
      }
