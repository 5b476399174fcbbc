use Rattle.std.proofs.Common.{◌≡◌, ◌≤◌, Bool, List, length, sym, ap, ◌∙◌, subst, arith}
use Rattle.wp_mutex.specs.PossiblePairs.{possible_pairs, HasRows, HasPairsOf}
use Rattle.wp_mutex.specs.Laws.{IsLeastClosed}
use Rattle.wp_mutex.proofs.PairLemmas.{sized}
use Rattle.wp_mutex.proofs.LeastClosed.{possible_rows, least_closed}
use Rattle.wp_mutex.proofs.Reached.{reachable_pairs}
use Rattle.wp_mutex.proofs.possible.Possible.of.Goals as goal

pub returns-clause-size : goal.returns-clause-size
returns-clause-size c =
    let acts = c.args.task.now.acts in
    let init = c.args.task.now.init in
    ap length c.in_ok-rows.ensures ∙ ((possible_rows acts init).count ∙ c.atoms-atoms.ensures.fits.init_size)

pub invariant_of-result : goal.invariant_of-result
invariant_of-result c =
    let acts = c.args.task.now.acts in
    let init = c.args.task.now.init in
    let size : length (possible_pairs acts init) ≡ length init = (possible_rows acts init).count in
    let few : length (possible_pairs acts init) ≤ 8192 =
    omega (arith, size, c.atoms-atoms.ensures.fits.init_size, c.atoms-atoms.ensures.value, c.if-atoms-gt-MOST_ATOMS.false) in
    subst (λ (xs : List (List Bool)). HasRows (length xs) xs × (length xs ≤ 8192)) (sym c.in_ok-rows.ensures)
    (sized (length init) (possible_pairs acts init) (possible_rows acts init), few)

pub returns-clause-least : goal.returns-clause-least
returns-clause-least c =
    subst (λ (xs : List (List Bool)). IsLeastClosed c.args.task.now.acts c.args.task.now.init xs) (sym c.in_ok-rows.ensures)
    (least_closed c.args.task.now.acts c.args.task.now.init)

pub returns-clause-reachable : goal.returns-clause-reachable
returns-clause-reachable c = λ state reached.
    subst (λ (xs : List (List Bool)). HasPairsOf state xs) (sym c.in_ok-rows.ensures) (reachable_pairs c.args.task.now state reached)
