use Rattle.std.proofs.Common.{◌≡◌, ◌==◌, ◌&&◌, ◌<◌, ℕ, true, get_or}
use Rattle.wp_task.specs.Set.{lists}
use Rattle.wp_mutex.specs.PossiblePairs.{joins}
use Rattle.wp_mutex.specs.WorkList.{Grows, IsWithin}
use Rattle.wp_mutex.proofs.work.WorkList.join_all.Given as goal

abbrev pub invariant-loop-p : goal.invariant-loop-p
invariant-loop-p l = record {
  grows : Grows l.fn.self l.self;
  there : (k : ℕ) → k < l.p-index → joins l.self.pairs (get_or l.atoms k 0) l.q ≡ true;
  within : IsWithin (λ x y. lists l.atoms x && (y == l.q)) l.fn.self.pairs l.self.pairs;
}
