-- The machine, and what a step of it answers. Assumes nothing: these are definitions.
use Rattle.std.specs.Prelude.{◌≡◌, ℕ, cond, List, [], ◌++◌, length, drop, replicate, Ok, Err, Result, ◌==◌, nat_le}
use Rattle.gauge.specs.Memory.{cells}
use Rattle.gauge.specs.declared.act.Act as code
use Rattle.gauge.specs.declared.act.Act.TheVariants.{More, From, LetGo, Sends, Keep, Recall, Tells, Rests}
use Rattle.machine.specs.Machine.{machine_step}
use Rattle.machine.specs.Run.{Engine, Event, wakes, comes, later, ends, letter, slot, next, Act, more, from, let_go, sends, keep, recall, tells, rests}
use Rattle.machine.specs.declared.StepError.{StepError}
use Rattle.machine.specs.declared.StepError.TheVariants.{MemoryLength, TooManyBytes, BufferTooShort}

-- THE MACHINE ITSELF, the same eight times.
unfoldable pub own : Engine
own = record { start = replicate cells 0; step = machine_step }

-- what comes with a letter, or from a drawer
abbrev pub bytes_of : Event → List ℕ
bytes_of (wakes i) = []
bytes_of (comes t k v) = []
bytes_of later = []
bytes_of ends = []
bytes_of (letter i bs) = bs
bytes_of (slot bs) = bs
bytes_of next = []

-- an act by the code's enum, with the buffer before and after: what is sent or kept stands at its front, and the rest is as it was
unfoldable pub ActTold : Act → code.Act → (out out₁ : List ℕ) → Type 0
ActTold more a out out₁ = (a ≡ More) × (out₁ ≡ out)
ActTold (from p) a out out₁ = (a ≡ From p) × (out₁ ≡ out)
ActTold (let_go p) a out out₁ = (a ≡ LetGo p) × (out₁ ≡ out)
ActTold (sends j b) a out out₁ = (a ≡ Sends j (length b)) × (out₁ ≡ b ++ drop (length b) out)
ActTold (keep d b) a out out₁ = (a ≡ Keep d (length b)) × (out₁ ≡ b ++ drop (length b) out)
ActTold (recall d) a out out₁ = (a ≡ Recall d) × (out₁ ≡ out)
ActTold (tells h k s) a out out₁ = (a ≡ Tells h k s) × (out₁ ≡ out)
ActTold rests a out out₁ = (a ≡ Rests) × (out₁ ≡ out)

-- whether a step is done: a memory of the machine's own length, up to 4,096 bytes with the event, and a buffer of at least 4,096
abbrev pub step_fits : (memory bytes out : List ℕ) → Result (Unit {0}) StepError
step_fits memory bytes out =
    cond (length memory == cells) (cond (nat_le (length bytes) 4096) (cond (nat_le 4096 (length out)) (Ok tt) (Err BufferTooShort)) (Err TooManyBytes))
    (Err MemoryLength)

-- one step: where it fits, memory and act are those of the machine; where not, it is refused and nothing is changed
abbrev pub StepSays : (memory : List ℕ) → Event → (out : List ℕ) → Result (Unit {0}) StepError → Result code.Act StepError → (memory₁ out₁ : List ℕ) → Type 0
StepSays memory ev out (Ok u) r memory₁ out₁ =
    (a : code.Act) × (r ≡ Ok a) × (memory₁ ≡ (own.step memory ev).memory) × ActTold (own.step memory ev).act a out out₁
StepSays memory ev out (Err e) r memory₁ out₁ = (r ≡ Err e) × (memory₁ ≡ memory) × (out₁ ≡ out)
