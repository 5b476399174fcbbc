use Rattle.wp_ladder.proofs.TrimLemmas.{plans_are_trimmed}
use Rattle.wp_ladder.proofs.elimination.plans_are_trimmed.Goals as goal

pub returns : goal.returns
returns c = plans_are_trimmed
