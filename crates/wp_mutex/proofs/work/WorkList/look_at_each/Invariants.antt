use Rattle.std.proofs.Common.{◌<◌, ℕ}
use Rattle.wp_task.specs.Task.{act_at}
use Rattle.wp_mutex.specs.WorkList.{Grows, IsSound, HasMade, concerns}
use Rattle.wp_mutex.proofs.work.WorkList.look_at_each.Given as goal

abbrev pub invariant-loop-a : goal.invariant-loop-a
invariant-loop-a l = record {
  grows : Grows l.fn.self l.self;
  sound : IsSound l.task.acts l.fn.self.pairs l.self.pairs;
  made : (k : ℕ) → k < l.a → HasMade (act_at l.task.acts k) (concerns (act_at l.task.acts k) l.p l.p) l.fn.self.pairs l.self.pairs;
}
