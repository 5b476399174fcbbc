use Rattle.std.proofs.Common.{◌≡◌, length, drop}
use Rattle.wp_task.specs.Task.{has_goals, leads_to, is_plan}
use Rattle.wp_task.proofs.task.Task.plan_ok.Given as goal

abbrev pub invariant-loop-a : goal.invariant-loop-a
invariant-loop-a l = record {
  size : length l.state ≡ l.self.atoms;
  left : has_goals l.self.goals (leads_to l.self.acts l.state (drop l.a-index l.a-items)) ≡ is_plan l.self l.plan;
}
