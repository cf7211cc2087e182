use Rattle.std.proofs.Common.{vec_items, sym, subst}
use Rattle.world.specs.Rounds.{written_out}
use Rattle.play.specs.Courses.{Grown}
use Rattle.play.proofs.Growing.{grown_one}
use Rattle.play.proofs.Striking.{plain_unless}
use Rattle.play.proofs.course.add_plain.Goals as goal

pub returns : goal.returns
returns c =
    let old = vec_items c.args.items.now in
    subst (Grown old (written_out c.args.item)) (sym c.in_ok-push.ensures.items) (grown_one old c.args.item (plain_unless c.args.item c.in_default.not-Calm))
