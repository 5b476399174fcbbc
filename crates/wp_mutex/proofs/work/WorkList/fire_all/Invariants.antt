use Rattle.std.proofs.Common.{nat_lt}
use Rattle.wp_task.specs.Task.{act_at}
use Rattle.wp_mutex.specs.WorkList.{Grows, IsSound, HasMade}
use Rattle.wp_mutex.proofs.work.WorkList.fire_all.Given as goal

abbrev pub invariant-loop-q : goal.invariant-loop-q
invariant-loop-q l = record {
  grows : Grows l.fn.self l.self;
  sound : IsSound l.task.acts l.fn.self.pairs l.self.pairs;
  made : HasMade (act_at l.task.acts l.a) (λ k. nat_lt k l.q) l.fn.self.pairs l.self.pairs;
}
