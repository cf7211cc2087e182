-- A machine's work in portions.
use Rattle.std.proofs.Common.{◌≡◌, ℕ, zero, suc, ◌+◌, Bool, true, false, List, [], ◌∷◌, sym, refl, ap, ◌∙◌, arith}
use Rattle.sums.specs.Sums.{none_of, or, Gauges}
use Rattle.machine.specs.Run as run
use Rattle.machine.specs.Run.{machine_at, goes, one_step}
use Rattle.machine.specs.Entry.{own}
use Rattle.world.proofs.Turning.{goes_at_rest, goes_fault, goes_step}

-- so many acts, and then so many
pub goes_both : (gs : Gauges) (w : run.World) (i a b : ℕ) → goes (a + b) own gs w i ≡ goes b own gs (goes a own gs w i) i
unfolding goes
goes_both gs w i zero b = let none : zero + b ≡ b = omega arith in ap (λ n. goes n own gs w i) none
goes_both gs w i (suc a) b =
    let one : suc a + b ≡ suc (a + b) = omega arith in
    ap (λ n. goes n own gs w i) one ∙ go w.fault refl (goes_both gs (one_step own gs w i (machine_at w.machines i).pending) i a b)
  where
    go : (f : Bool) → w.fault ≡ f → (let u = one_step own gs w i (machine_at w.machines i).pending in goes (a + b) own gs u i ≡ goes b own gs (goes a own gs u i) i) →
        goes (suc (a + b)) own gs w i ≡ goes b own gs (goes (suc a) own gs w i) i
    go true e rest = goes_fault gs w i (suc (a + b)) e ∙ sym (ap (λ u. goes b own gs u i) (goes_fault gs w i (suc a) e) ∙ goes_fault gs w i b e)
    go false e rest = goes_step gs w i (a + b) e ∙ rest ∙ ap (λ u. goes b own gs u i) (sym (goes_step gs w i a e))

nothing_told : (evs : List run.Event) → none_of evs ≡ true → evs ≡ []
unfolding none_of
nothing_told [] e = refl
nothing_told (ev ∷ evs) e = absurd (cc)

-- where nothing is to be done, nothing is done
pub still_goes : (gs : Gauges) (w : run.World) (i n : ℕ) → or w.fault (none_of (machine_at w.machines i).pending) ≡ true → goes n own gs w i ≡ w
still_goes gs w i n h = go w.fault refl
  where
    go : (f : Bool) → w.fault ≡ f → goes n own gs w i ≡ w
    go true e = goes_fault gs w i n e
    go false e = goes_at_rest gs w i n (nothing_told _ (rw e at h))
