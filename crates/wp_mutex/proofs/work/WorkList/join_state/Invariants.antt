use Rattle.std.proofs.Common.{◌≡◌, ◌&&◌, ◌<◌, ◌+◌, ℕ, true}
use Rattle.wp_task.specs.Set.{has}
use Rattle.wp_mutex.specs.PossiblePairs.{joins}
use Rattle.wp_mutex.specs.WorkList.{Grows, IsWithin}
use Rattle.wp_mutex.proofs.work.WorkList.join_state.Given as goal

abbrev pub invariant-loop-q : goal.invariant-loop-q
invariant-loop-q l = record {
  grows : Grows l.fn.self l.self;
  there : (k : ℕ) → k < l.q → (p : ℕ) → p < k + 1 → (has l.s p && has l.s k) ≡ true → joins l.self.pairs p k ≡ true;
  within : IsWithin (λ x y. has l.s x && has l.s y) l.fn.self.pairs l.self.pairs;
}
