use Rattle.std.proofs.Common.{◌≡◌, ◌&&◌, ◌<◌, ℕ, true}
use Rattle.wp_task.specs.Set.{has}
use Rattle.wp_mutex.specs.PossiblePairs.{joins}
use Rattle.wp_mutex.specs.WorkList.{Grows, IsWithin}
use Rattle.wp_mutex.proofs.work.WorkList.join_row.Given as goal

abbrev pub invariant-loop-p : goal.invariant-loop-p
invariant-loop-p l = record {
  grows : Grows l.fn.self l.self;
  there : (k : ℕ) → k < l.p → (has l.s k && has l.s l.q) ≡ true → joins l.self.pairs k l.q ≡ true;
  within : IsWithin (λ x y. has l.s x && has l.s y) l.fn.self.pairs l.self.pairs;
}
