-- Letters of the code as letters of the definitions.
use Rattle.machine.specs.Run as run
use Rattle.hut.specs.Played.{as_text}
use Rattle.world.specs.declared.post.Letter.{Letter}

abbrev pub as_letter : Letter → run.Letter
as_letter l = record { sender = l.sender; reader = l.reader; text = as_text l.text }
