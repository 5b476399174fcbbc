-- What the fields of a task stand for, and what holds of them.
use Rattle.std.specs.Prelude.{◌≡◌, length, map}
use Rattle.std.specs.List.{range_with_len}
use Rattle.wp_task.specs.Many.{IsSetOf, AreNeedSets}
use Rattle.wp_task.specs.Task.{PlanningTask, adders_of, needers_of, IsTask}
use Rattle.wp_task.specs.declared.task.Task.TheInside.{Inside}

abbrev pub given_by : Inside → PlanningTask
given_by fields = record { atoms = fields.atoms; init = fields.init; goals = fields.goals; acts = fields.acts }

-- the parts fit together; each atom has the list of its adders and that of the actions that need it; and preconditions and
-- add effects are kept once more in flat arrays, and some sets of preconditions and of goals
pub record IsKept (fields : Inside) : Type 0 where
  pub fits : IsTask (given_by fields)
  pub lists : fields.adders.items ≡ map (adders_of fields.acts) (range_with_len 0 fields.atoms)
  pub needers : fields.needers ≡ map (needers_of fields.acts) (range_with_len 0 fields.atoms)
  pub pre : fields.pre ≡ map (λ act. act.pre) fields.acts
  pub add : fields.add ≡ map (λ act. act.add) fields.acts
  pub counts : fields.need_counts.items ≡ map (λ act. length act.pre) fields.acts
  pub need_sets : AreNeedSets fields.need_sets.items fields.acts
  pub goal_set : IsSetOf fields.goal_set fields.goals
