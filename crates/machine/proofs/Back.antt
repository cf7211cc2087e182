-- What a step answers says which act it was.
use Rattle.std.proofs.Common.{◌≡◌, List, length, drop, ℕ, Ok, Result}
use lib.Seq.{take-append_seam}
use Rattle.gauge.specs.declared.act.Act.{Act}
use Rattle.machine.specs.Run as run
use Rattle.machine.specs.Run.{more, from, let_go, sends, keep, recall, tells, rests}
use Rattle.machine.specs.Entry.{own, bytes_of, ActTold, step_fits, StepSays}
use Rattle.machine.specs.declared.StepError.{StepError}
use Rattle.machine.specs.Answers.{act_back}

pub told_back : (act : run.Act) (a : Act) (out out₁ : List ℕ) → ActTold act a out out₁ → act_back a out₁ ≡ act
unfolding ActTold
told_back more a out out₁ t = rw t.0
told_back (from p) a out out₁ t = rw t.0
told_back (let_go p) a out out₁ t = rw t.0
told_back (sends j b) a out out₁ t = rw (t.0, t.1, take-append_seam b (drop (length b) out))
told_back (keep d b) a out out₁ t = rw (t.0, t.1, take-append_seam b (drop (length b) out))
told_back (recall d) a out out₁ t = rw t.0
told_back (tells h k s) a out out₁ t = rw t.0
told_back rests a out out₁ t = rw t.0

-- a step that fits is done: the memory and the act are those of the machine's own
pub step_back : (m : List ℕ) (ev : run.Event) (out : List ℕ) (r : Result Act StepError) (m₁ out₁ : List ℕ) → step_fits m (bytes_of ev) out ≡ Ok tt →
    StepSays m ev out (step_fits m (bytes_of ev) out) r m₁ out₁ →
    (a : Act) × (r ≡ Ok a) × (m₁ ≡ (own.step m ev).memory) × (act_back a out₁ ≡ (own.step m ev).act)
step_back m ev out r m₁ out₁ fits says =
    let done = simp fits at says in
    (done.0, done.1, done.2, told_back _ done.0 out out₁ done.3)
