use Rattle.std.proofs.Common.{◌+◌, false, ℕ, Bool, List, length, map, replicate, sym, ap, ◌∙◌, subst, arith}
use Rattle.std.specs.List.{range_with_len}
use Rattle.wp_mutex.specs.PossiblePairs.{joins, HasRows}
use Rattle.wp_mutex.proofs.PairLemmas.{rows-no_pairs, joins-no_pairs, sized}
use Rattle.wp_mutex.proofs.work.WorkList.empty.Goals as goal

pub returns-clause-rows : goal.returns-clause-rows
returns-clause-rows c =
    subst (λ (xs : List (List Bool)). HasRows c.args.atoms xs) (sym c.in_ok-rows.ensures) (rows-no_pairs c.args.atoms)

pub invariant_of-result : goal.invariant_of-result
invariant_of-result c = (
  subst (λ (xs : List (List Bool)). HasRows (length xs) xs) (sym c.in_ok-rows.ensures)
      (sized c.args.atoms (map (λ (q : ℕ). replicate (q + 1) false) (range_with_len 0 c.args.atoms)) (rows-no_pairs c.args.atoms)),
  λ k d within. absurd (omega (arith, within, ap length c.new.ensures.items)),
)

pub returns-clause-none : goal.returns-clause-none
returns-clause-none c = λ p q.
    ap (λ (xs : List (List Bool)). joins xs p q) c.in_ok-rows.ensures ∙ joins-no_pairs c.args.atoms p q
