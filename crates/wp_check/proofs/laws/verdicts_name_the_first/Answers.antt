use Rattle.wp_check.proofs.CauseLemmas.{first-causes, first-goals}
use Rattle.wp_check.proofs.laws.verdicts_name_the_first.Goals as goal

pub returns-clause-causes : goal.returns-clause-causes
returns-clause-causes c = first-causes

pub returns-clause-goals : goal.returns-clause-goals
returns-clause-goals c = first-goals
