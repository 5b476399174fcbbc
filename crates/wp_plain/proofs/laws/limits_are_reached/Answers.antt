use Rattle.wp_plain.proofs.LimitLemmas.{budget_is_spent, words_are_exceeded}
use Rattle.wp_plain.proofs.laws.limits_are_reached.Goals as goal

pub returns : goal.returns
returns c = record { budget = budget_is_spent; words = words_are_exceeded }
