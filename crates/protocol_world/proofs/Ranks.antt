-- How much is left to do: of each node, and of the letters under way; and where one node changes, or one wire.
use Rattle.std.proofs.Common.{◌≡◌, ℕ, suc, ◌+◌, ◌-◌, ◌*◌, ◌<◌, Bool, true, false, List, [], ◌∷◌, ◌++◌, Some, None, Option, refl, ap, arith}
use Rattle.sums.specs.Cells.{slots}
use Rattle.protocol.specs.Limits.{kept_pages, crew}
use Rattle.protocol.specs.Memory.{Mail, Memory}
use Rattle.protocol.specs.Phases.{Phase, asleep, asks_root, asks_page, asks_cursor, placing, placed, ready, noting, saving, Event, wakes, comes, later, at_end, letter, root_is, page_is, cursor_is, go}
use Rattle.protocol.specs.Reader.{Stage, begun, whole, ended, is_reading}
use Rattle.protocol.specs.Searches.{put, put₂, sum_below}
use Rattle.protocol.specs.Statements.{Letter}
use Rattle.protocol.proofs.Sums.{sum_put, sum_put₂}
use Rattle.protocol_world.specs.Worlds.{Node, World}

-- WHAT IS LEFT
abbrev pub mark : Bool → ℕ
mark true = 2
mark false = 0

abbrev pub due_at : Mail → ℕ → ℕ
due_at m j = mark (m.due j) + mark (m.woke j)

abbrev pub due_rank : Mail → ℕ
due_rank m = sum_below (due_at m) crew

abbrev pub stage_rank : Stage → ℕ
stage_rank (begun c) = 32
stage_rank (whole c nx) = 16
stage_rank ended = 0

abbrev pub letter_rank : Letter → ℕ
letter_rank l = suc (mark l.woke)

unfoldable pub letters_rank : List Letter → ℕ
letters_rank [] = 0
letters_rank (l ∷ ls) = letter_rank l + letters_rank ls

pub letters_more : (ls : List Letter) (l : Letter) → letters_rank (ls ++ l ∷ []) ≡ letters_rank ls + letter_rank l
unfolding letters_rank
letters_more [] l = omega arith
letters_more (k ∷ ls) l = omega (arith, letters_more ls l)

pub letters_first : (l : Letter) (ls : List Letter) → letters_rank (l ∷ ls) ≡ letter_rank l + letters_rank ls
unfolding letters_rank
letters_first l ls = refl

abbrev pub asked : Bool → ℕ
asked true = 1
asked false = 0

abbrev pub pending_rank : Bool → Option Event → ℕ
pending_rank r None = asked r
pending_rank r (Some (wakes i)) = 0
pending_rank r (Some (comes rd)) = 0
pending_rank r (Some later) = 0
pending_rank r (Some at_end) = 0
pending_rank r (Some (letter j l)) = mark l.woke + asked r
pending_rank r (Some (root_is p)) = 0
pending_rank r (Some (page_is p)) = 0
pending_rank r (Some (cursor_is c)) = 0
pending_rank r (Some go) = asked r

-- by how much there is ahead of an hour, of all hours that come up; in a row of some length
module _ (ahead : ℕ → ℕ) where
  abbrev pub cursor_rank : (h s : ℕ) → ℕ
  cursor_rank h s = 401 * ahead h + 3 * (slots - s)

  module _ (long : ℕ) where
    -- what is left: of the hours that are not given up, and of the row, from the root's place and from where it reads
    abbrev pub reader_rank : (base root pos : ℕ) → Stage → Bool → ℕ
    reader_rank base root pos s paused = 18 * ahead base + ((5 + kept_pages) * (long - root) + (2 * (long - pos) + (stage_rank s + asked paused)))

    abbrev pub memory_rank : (root : ℕ) → Memory → ℕ
    memory_rank root b = reader_rank b.reader.base root b.reader.pos b.reader.stage b.reader.paused +
        (cursor_rank b.cursor.hour b.cursor.slot + due_rank b.mail)

    abbrev pub sleeping_rank : Node → ℕ
    sleeping_rank x = reader_rank x.root.hour x.root.pos x.root.pos (begun 0) false + cursor_rank x.cursor.hour x.cursor.slot

    abbrev pub rank_by : Phase → Node → ℕ
    rank_by asleep x = sleeping_rank x + (58 + kept_pages)
    rank_by asks_root x = sleeping_rank x + (57 + kept_pages)
    rank_by (asks_page q) x = sleeping_rank x + (56 + kept_pages - q)
    rank_by asks_cursor x = sleeping_rank x + 43
    rank_by placing x = memory_rank x.root.pos x.memory + 3
    rank_by placed x = memory_rank x.root.pos x.memory + 2
    rank_by ready x = memory_rank x.root.pos x.memory + pending_rank (is_reading x.memory.reader.stage) x.pending
    rank_by (noting m s) x = reader_rank x.memory.reader.base x.root.pos x.memory.reader.pos x.memory.reader.stage x.memory.reader.paused +
        (cursor_rank m (suc s) + (due_rank x.memory.mail + 2))
    rank_by (saving q) x = memory_rank x.memory.reader.pos x.memory + (4 + kept_pages - q)

    abbrev pub node_rank : Node → ℕ
    node_rank x = rank_by x.phase x

module _ (ahead : ℕ → ℕ) (long : ℕ → ℕ) where
  unfoldable pub nodes_rank : World → ℕ
  nodes_rank w = sum_below (λ i. node_rank ahead (long i) (w.node i)) crew

  unfoldable pub wires_rank : World → ℕ
  wires_rank w = sum_below (λ a. sum_below (λ b. letters_rank (w.wire a b)) crew) crew

  abbrev pub rank : World → ℕ
  rank w = nodes_rank w + wires_rank w

  -- one node is set, and maybe one wire
  module _ (w : World) (i : ℕ) (lt : i < crew) (x : Node) where
    pub set_rank : (v : World) → v.node ≡ put w.node i x → v.wire ≡ w.wire → rank v + node_rank ahead (long i) (w.node i) ≡ rank w + node_rank ahead (long i) x
    unfolding nodes_rank wires_rank
    set_rank v e₁ e₂ =
        let n : nodes_rank v ≡ sum_below (λ j. node_rank ahead (long j) (put w.node i x j)) crew =
        ap (λ (f : ℕ → Node). sum_below (λ j. node_rank ahead (long j) (f j)) crew) e₁ in
        let q : wires_rank v ≡ wires_rank w = ap (λ (f : ℕ → ℕ → List Letter). sum_below (λ a. sum_below (λ b. letters_rank (f a b)) crew) crew) e₂ in
        omega (arith, n, q, sum_put (λ j y. node_rank ahead (long j) y) w.node i x crew lt)

    pub wire_rank : (v : World) (a b : ℕ) (ls : List Letter) → a < crew → b < crew → v.node ≡ put w.node i x → v.wire ≡ put₂ w.wire a b ls →
        rank v + (node_rank ahead (long i) (w.node i) + letters_rank (w.wire a b)) ≡ rank w + (node_rank ahead (long i) x + letters_rank ls)
    unfolding nodes_rank wires_rank
    wire_rank v a b ls la lb e₁ e₂ =
        let n : nodes_rank v ≡ sum_below (λ j. node_rank ahead (long j) (put w.node i x j)) crew =
        ap (λ (f : ℕ → Node). sum_below (λ j. node_rank ahead (long j) (f j)) crew) e₁ in
        let q : wires_rank v ≡ sum_below (λ c. sum_below (λ d. letters_rank (put₂ w.wire a b ls c d)) crew) crew =
        ap (λ (f : ℕ → ℕ → List Letter). sum_below (λ c. sum_below (λ d. letters_rank (f c d)) crew) crew) e₂ in
        omega (arith, n, q, sum_put (λ j y. node_rank ahead (long j) y) w.node i x crew lt, sum_put₂ letters_rank w.wire a b ls crew la lb)
