use Rattle.std.proofs.Common.{◌<◌, ℕ, get_or}
use Rattle.wp_task.specs.Task.{act_at}
use Rattle.wp_mutex.specs.WorkList.{Grows, IsSound, HasMade, concerns}
use Rattle.wp_mutex.proofs.work.WorkList.look_at_all.Given as goal

abbrev pub invariant-loop-a : goal.invariant-loop-a
invariant-loop-a l = record {
  grows : Grows l.fn.self l.self;
  sound : IsSound l.task.acts l.fn.self.pairs l.self.pairs;
  made : (k : ℕ) → k < l.a-index →
      HasMade (act_at l.task.acts (get_or l.acts k 0)) (concerns (act_at l.task.acts (get_or l.acts k 0)) l.p l.q) l.fn.self.pairs l.self.pairs;
}
