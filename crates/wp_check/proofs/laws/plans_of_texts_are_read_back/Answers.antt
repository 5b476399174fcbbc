use Rattle.std.proofs.Common.{subst}
use Rattle.wp_lift.specs.Walk.{Walk}
use Rattle.wp_lift.specs.Problem.{Lifting}
use Rattle.wp_lift.specs.Named.{HasWords, HasDistinctNames}
use Rattle.wp_check.proofs.laws.plans_of_texts_are_read_back.Goals as goal

pub returns : goal.returns
returns c = λ domain_text problem_text domain problem lifted plan comments is_domain is_problem is_lifted valid after.
    let named = c.liftings_are_named.ensures domain problem (c.domains_are_named.ensures domain_text domain is_domain)
    (c.problems_are_named.ensures problem_text problem is_problem) in
    let here = subst (λ (walk : Walk Lifting). HasWords walk.value × HasDistinctNames walk.value) is_lifted named in
    c.valid_plans_are_read_back.ensures lifted plan comments here.0 here.1 valid after
