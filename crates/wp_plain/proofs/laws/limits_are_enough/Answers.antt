use Rattle.wp_plain.proofs.LimitLemmas.{budget_is_enough, limits_are_enough}
use Rattle.wp_plain.proofs.laws.limits_are_enough.Goals as goal

pub returns : goal.returns
returns c = record { budget = budget_is_enough; limits = limits_are_enough }
