-- What is done at the front of a buffer, seen of the whole.
use Rattle.std.proofs.Common.{◌≡◌, ℕ, ◌≤◌, List, ◌++◌, length, take, drop, refl, sym, ap, ◌∙◌, arith, append_assoc, length-append, length-drop}
use Rattle.std.proofs.lemmas.List.{take-append-drop, drop-append-le}
use Rattle.gauge.specs.Deeds.{Deed, Done, more, from, let_go, sends, keep, recall, tells, rests, out_with, Did, Wrote}
use Rattle.gauge.specs.declared.act.Act.{Act}

-- bytes at the front of a buffer that has room for them
wrote_longer : (b out rest : List ℕ) → length (b ++ drop (length b) out) ≡ length out → (b ++ drop (length b) out) ++ rest ≡ b ++ drop (length b) (out ++ rest)
wrote_longer b out rest e =
    let fits : length b ≤ length out = omega (arith, simp (length-append, length-drop) at e) in
    append_assoc b (drop (length b) out) rest ∙ ap (λ l. b ++ l) (sym (drop-append-le (length b) out rest fits))

-- a deed leaves alone what lies behind a buffer that has room for it
longer : (d : Deed) (out rest : List ℕ) → length (out_with d out) ≡ length out → out_with d out ++ rest ≡ out_with d (out ++ rest)
longer more out rest e = refl
longer (from x) out rest e = refl
longer (let_go x) out rest e = refl
longer (sends j b) out rest e = wrote_longer b out rest e
longer (keep j b) out rest e = wrote_longer b out rest e
longer (recall x) out rest e = refl
longer (tells h k x) out rest e = refl
longer rests out rest e = refl

-- what was written in the first n bytes of a longer buffer
pub did_longer : (s : Done) (a : Act) (m₁ out front front₁ : List ℕ) (n : ℕ) → front ≡ take n out → Wrote s a m₁ front front₁ →
    Did s a m₁ out (front₁ ++ drop n out)
did_longer s a m₁ out front front₁ n e w = (
  w.0.0,
  w.0.1,
  ap (λ l. l ++ drop n out) w.0.2 ∙ longer s.deed front (drop n out) (ap length (sym w.0.2) ∙ w.1)
      ∙ ap (out_with s.deed) (ap (λ l. l ++ drop n out) e ∙ take-append-drop n out),
)
