-- What a gauge's machine does, and how the code answers it. Assumes nothing: these are definitions.
use Rattle.std.specs.Prelude.{◌≡◌, ℕ, List, ◌++◌, length, drop}
use Rattle.gauge.specs.declared.act.Act.{Act}
use Rattle.gauge.specs.declared.act.Act.TheVariants as act

pub data Deed : Type 0 where
  more : Deed
  from : ℕ → Deed
  let_go : ℕ → Deed
  sends : ℕ → List ℕ → Deed
  keep : ℕ → List ℕ → Deed
  recall : ℕ → Deed
  tells : ℕ → ℕ → ℕ → Deed
  rests : Deed

pub record Done : Type 0 where
  pub memory : List ℕ
  pub deed : Deed

abbrev pub does : List ℕ → Deed → Done
does m d = record { memory = m; deed = d }

-- a deed by the code's enum: what is kept stands in the buffer, here by its length
abbrev pub act_for : Deed → Act
act_for more = act.More
act_for (from p) = act.From p
act_for (let_go p) = act.LetGo p
act_for (sends j b) = act.Sends j (length b)
act_for (keep d b) = act.Keep d (length b)
act_for (recall d) = act.Recall d
act_for (tells h k s) = act.Tells h k s
act_for rests = act.Rests

-- the buffer after a deed
abbrev pub out_with : Deed → List ℕ → List ℕ
out_with more out = out
out_with (from p) out = out
out_with (let_go p) out = out
out_with (sends j b) out = b ++ drop (length b) out
out_with (keep d b) out = b ++ drop (length b) out
out_with (recall d) out = out
out_with (tells h k s) out = out
out_with rests out = out

-- how the code answers a deed that leaves the memory as it is
abbrev pub Answered : Deed → Act → (out out₁ : List ℕ) → Type 0
Answered d a out out₁ = (a ≡ act_for d) × (out₁ ≡ out_with d out)

-- what a handler leaves and answers
abbrev pub Did : Done → Act → (memory₁ out out₁ : List ℕ) → Type 0
Did s a memory₁ out out₁ = (memory₁ ≡ s.memory) × (a ≡ act_for s.deed) × (out₁ ≡ out_with s.deed out)

-- the same of a buffer that stays as long as it is
abbrev pub Wrote : Done → Act → (memory₁ out out₁ : List ℕ) → Type 0
Wrote s a memory₁ out out₁ = Did s a memory₁ out out₁ × (length out₁ ≡ length out)
