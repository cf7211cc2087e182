use Rattle.sums.proofs.Eaches.{each_push}
use Rattle.rows.specs.Walls.{as_told}
use Rattle.world.specs.Posts.{as_letter}
use Rattle.world.proofs.world.World.post.Goals as goal

pub returns-in-Told-clause-world : goal.returns-in-Told-clause-world
returns-in-Told-clause-world c = rw (c.in-Told.is, c.push.ensures.items, c.unwrap.ensures, each_push as_told)

pub returns-in-Sent-clause-world : goal.returns-in-Sent-clause-world
returns-in-Sent-clause-world c = rw (c.in-Sent.is, c.push-in-Sent.ensures.items, c.unwrap-in-Sent.ensures, each_push as_letter)
