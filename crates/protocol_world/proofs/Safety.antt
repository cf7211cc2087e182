-- Whatever happens to the eight, nothing is at fault and all that is told is right.
use Rattle.std.proofs.Common.{◌≡◌, ℕ, ◌<◌, true, List, length, eqb, refl, inl, ⊎_elim, arith}
use Rattle.std.proofs.lemmas.Bool.{and_parts, eqb-true}
use Rattle.sums.specs.Sums.{every, Gauges}
use Rattle.sums.proofs.Readings.{fits_at}
use Rattle.machine.specs.Run as given
use Rattle.protocol.specs.Limits.{crew}
use Rattle.protocol.proofs.Tables.{taken_blank}
use Rattle.protocol.specs.Tables.{blank_page}
use Rattle.protocol_world.specs.Gauges.{gauges_late}
use Rattle.protocol_world.specs.Runs.{all_happened, calm}
use Rattle.protocol_world.specs.Worlds.{new_world}
use Rattle.protocol_world.proofs.Induction.{Keeps, all_good, calm_good}
use Rattle.protocol_world.proofs.Invariant.{at_start, Good, row, is_waking}
use Rattle.protocol_world.proofs.Letters.{each_none}
use Rattle.protocol_world.proofs.Readers.{RowFine}
use Rattle.protocol_world.proofs.Rows.{row_fine}
use Rattle.protocol_world.proofs.Steps.{step_good, poke_good, deliver_good, fall_good}

-- what is known of the gauges
pub record Known (gs : Gauges) : Type 0 where
  pub fine : gauges_late gs ≡ true

pub keeps_good : (gs : Gauges) → length gs ≡ crew → ((i : ℕ) → i < crew → RowFine (row gs i)) → Keeps gs (Good gs)
keeps_good gs eight fine = record {
  steps = λ w i lt g. step_good gs eight fine w i lt g;
  pokes = λ w i lt g. poke_good gs eight fine w i lt g;
  delivers = λ w i j li lj g. deliver_good gs eight fine w i j li lj g;
  falls = λ w i lt g. fall_good gs eight fine w i lt g;
}

module _ (gs : Gauges) (known : Known gs) where
  pub eight : length gs ≡ crew
  eight = eqb-true _ _ (and_parts (eqb (length gs) crew) _ known.fine).0

  pub rows_fine : (i : ℕ) → i < crew → RowFine (row gs i)
  rows_fine i lt = record { times = (row_fine gs i known.fine).times; keys = λ p l. (fits_at (row gs i) p (row_fine gs i known.fine).readings l).key }

  pub start_good : Good gs new_world
  unfolding every
  start_good = record {
    fault = refl;
    right = refl;
    own = λ i lt. record {
      low = omega arith;
      high = omega arith;
      root = record {
        page = λ _. blank_page;
        there = λ some. absurd (some refl);
        began = record {
          within = omega arith;
          above = omega arith;
          done = λ p lp l. l;
          rest = λ q _ _. omega arith;
          high = λ p l. absurd (omega arith);
          tables = λ h _. taken_blank (row gs i) 0 h (λ p l _ _. absurd (omega arith));
          near = inl refl;
        };
      };
      cursor = λ g k on low which. ⊎_elim (λ (l : g < 0). absurd (omega arith)) (λ q. absurd (omega (arith, q.1))) which;
      hour = at_start refl;
      slot = omega arith;
      awaits = is_waking;
    };
    cross = record {
      before = λ i j li lj p lp l. absurd (omega arith);
      knows = λ i lt. record { words = λ a la. tt; passed = λ a la. omega arith; behind = λ j lj p lp l. absurd (omega arith) };
      letters = λ a b la lb. each_none _;
    };
  }

  -- THE SAFE HALF
  pub happened_well : (is : List given.Item) → Good gs (all_happened gs new_world is)
  happened_well is = all_good gs (Good gs) (keeps_good gs eight rows_fine) is new_world start_good

  pub calm_well : (is : List given.Item) (k n : ℕ) → Good gs (calm k n gs (all_happened gs new_world is))
  calm_well is k n = calm_good gs (Good gs) (keeps_good gs eight rows_fine) k n _ (happened_well is)
