use Rattle.std.proofs.Common.{◌≡◌, ℕ, List, [], ◌∷◌, map, max, unwrap_or, sym, refl, ap, ◌∙◌, rules, arith}
use Rattle.std.specs.List.{fold, reduce}
use Rattle.std.proofs.lemmas.Iterator.{YieldsList-from_map, YieldsList-from_slice}
use Rattle.std.proofs.lemmas.Iterator.Adapters.{option_map_id}
use Rattle.std.proofs.lemmas.Iterator.Consumers.{max_from_yields_List}
use Rattle.rows.specs.declared.Row.{Row}
use Rattle.rows.specs.Walls.{as_wall}
use Rattle.sums.specs.Sums.{each}
use Rattle.wall_reader.specs.Charts.{greatest_of}
use Rattle.wall_reader.proofs.bars.greatest.Goals as goal

greatest_fold : (n : ℕ) (rows : List Row) → fold max n (map (λ r. r.sum) rows) ≡ max n (greatest_of (as_wall rows))
unfolding greatest_of each
greatest_fold n [] = omega arith
greatest_fold n (r ∷ rows) = let next = greatest_fold (max n r.sum) rows in omega arith

greatest_reduce : (rows : List Row) → unwrap_or (reduce max (map (λ r. r.sum) rows)) 0 ≡ greatest_of (as_wall rows)
unfolding greatest_of each
greatest_reduce [] = refl
greatest_reduce (r ∷ rows) = greatest_fold r.sum rows

pub returns : goal.returns
returns c =
    c.unwrap_or.ensures
    ∙ ap (λ o. unwrap_or o 0) (sym (option_map_id c.max.result)
    ∙ max_from_yields_List c.map.result c.max.result c.max.ensures.ran (YieldsList-from_map _ (λ (r : Row). r.sum) (YieldsList-from_slice c.args.rows.now cc) c.map.ensures.closure (λ x r q k. search rules)))
    ∙ greatest_reduce c.args.rows.now
