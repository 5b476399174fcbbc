use Rattle.std.proofs.Common.{sym, ◌∙◌}
use Rattle.wp_report.proofs.CauseLemmas.{bad_there, goal_there}
use Rattle.wp_report.proofs.verdicts.verdict_text.Goals as goal

pub put_bad_step-requires : goal.put_bad_step-requires
put_bad_step-requires c = bad_there _ _ _ _ (sym c.requires ∙ c.in-Bad.is)

pub put_goal-requires : goal.put_goal-requires
put_goal-requires c = goal_there _ _ _ (sym c.requires ∙ c.in-GoalUnmet.is)
