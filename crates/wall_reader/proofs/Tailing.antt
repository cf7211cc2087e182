-- Lines of a wall's end, one after the other. Assumes nothing.
use Rattle.std.proofs.Common.{◌≡◌, ℕ, ◌+◌, ◌-◌, ◌<◌, ◌≤◌, true, false, List, [], ◌∷◌, ◌++◌, length, take, drop, is_ok, Some, Ok, Err, refl, sym, ap, ◌∙◌, arith}
use Rattle.std.proofs.lemmas.List.{take_all}
use Rattle.rows.specs.declared.Row.{Row}
use Rattle.text.specs.Text.{Bytes}
use Rattle.wall_reader.specs.declared.mistake.Reason.{Reason}
use Rattle.wall_reader.specs.Lines.{row_on}
use Rattle.wall_reader.specs.Tails.{completes, wrong_line, wrong_or}

module _ (n : ℕ) (left : List Bytes) (l : Bytes) (after : List Bytes) (is : left ≡ l ∷ after) where
  pub wrong_here : (e : Reason) → row_on l ≡ Err e → wrong_line n left ≡ Some (n, e)
  unfolding wrong_line
  wrong_here e h = ap (wrong_line n) is ∙ ap (λ r. wrong_or n r (wrong_line (n + 1) after)) h

  pub right_here : (r : Row) → row_on l ≡ Ok r → wrong_line n left ≡ wrong_line (n + 1) after
  unfolding wrong_line
  right_here r h = ap (wrong_line n) is ∙ ap (λ r. wrong_or n r (wrong_line (n + 1) after)) h

-- a line with this end behind it
module _ (l : Bytes) where
  pub completed : (end : Bytes) → is_ok (row_on (l ++ end)) ≡ true → completes l end ≡ true
  unfolding completes
  completed [] e = e
  completed (b ∷ end) e = simp e refl

  pub at_end : (end : Bytes) → length end < 1 → is_ok (row_on (l ++ end)) ≡ false → completes l end ≡ false
  unfolding completes
  at_end [] n e = e
  at_end (b ∷ end) n e = absurd (omega (arith, n))

  pub by_less : (end : Bytes) → 1 ≤ length end → is_ok (row_on (l ++ end)) ≡ false → completes l end ≡ completes l (take (length end - 1) (drop 1 end))
  unfolding completes
  by_less [] n e = absurd (omega (arith, n))
  by_less (b ∷ end) n e =
      let rest : take (length (b ∷ end) - 1) end ≡ end = take_all (length (b ∷ end) - 1) end (omega arith) in
      let less : completes l (b ∷ end) ≡ completes l end = simp e refl in
      less ∙ sym (ap (completes l) rest)
