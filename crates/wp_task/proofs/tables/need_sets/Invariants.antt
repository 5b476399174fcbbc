use Rattle.std.proofs.Common.{◌≡◌, ◌<◌, None, ℕ, length, get_or}
use Rattle.wp_task.specs.Many.{IsSetOf}
use Rattle.wp_task.specs.Task.{act_at}
use Rattle.wp_task.proofs.tables.need_sets.Given as goal

abbrev pub invariant-loop-act : goal.invariant-loop-act
invariant-loop-act l = record {
  each : length l.sets.items ≡ l.act-index;
  are : (a : ℕ) → a < l.act-index → IsSetOf (get_or l.sets.items a None) (act_at l.acts a).pre;
}
