use Rattle.std.proofs.Common.{◌≡◌, ◌<◌, ℕ, true, []}
use Rattle.wp_task.specs.Task.{act_at}
use Rattle.wp_mutex.specs.WorkList.{Grows, IsSound, HasMade}
use Rattle.wp_mutex.proofs.work.WorkList.fire_free.Given as goal

abbrev pub invariant-loop-a : goal.invariant-loop-a
invariant-loop-a l = record {
  grows : Grows l.fn.self l.self;
  sound : IsSound l.task.acts l.fn.self.pairs l.self.pairs;
  made : (k : ℕ) → k < l.a → (act_at l.task.acts k).pre ≡ [] → HasMade (act_at l.task.acts k) (λ _. true) l.fn.self.pairs l.self.pairs;
}
