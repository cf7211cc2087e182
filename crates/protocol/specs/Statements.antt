-- What a reader says to an adder, and the letters that carry it. Assumes nothing: these are definitions.
use Rattle.std.specs.Prelude.{ℕ, Bool, Option}
use Rattle.protocol.specs.Reader.{Stage, begun, whole, ended, Reader}
use Rattle.protocol.specs.Tables.{Page, Tables, page_for}

-- each is a fact about the reader's row: it has no hour, from where the adder is, up to ..
pub data Statement : Type 0 where
  nothing : Statement  -- (it has not been heard of)
  has_begun : ℕ → Statement  -- .. this hour
  is_whole : ℕ → Option ℕ → Page → Statement  -- .. this hour, of which the page has all for the adder's places; and then none before the next, or none at all
  has_ended : Statement  -- .. the end of all hours

-- what a reader of this stage and these tables says to an adder
abbrev pub said_of : Stage → (ℕ → Tables) → (adder : ℕ) → Statement
said_of (begun c) t j = has_begun c
said_of (whole c nx) t j = is_whole c nx (page_for (t c) j)
said_of ended t j = has_ended

abbrev pub statement : Reader → (adder : ℕ) → Statement
statement r j = said_of r.stage r.tables j

-- a snapshot of its sender: what it says stays true, however late it comes
pub record Letter : Type 0 where
  pub woke : Bool  -- the sender was struck, and has forgotten all that it was told: it is to be told again
  pub passed : ℕ  -- the sender, as an adder, has told all of its places of hours below this one
  pub says : Statement  -- of the sender's reader, to this adder
