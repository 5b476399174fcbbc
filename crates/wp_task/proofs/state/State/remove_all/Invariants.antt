use Rattle.std.proofs.Common.{◌≡◌, ◌&&◌, not, ℕ, length, take}
use Rattle.wp_task.specs.Set.{has, lists}
use Rattle.wp_task.proofs.state.State.remove_all.Given as goal

abbrev pub invariant-loop-p : goal.invariant-loop-p
invariant-loop-p l = record {
  size : length l.self ≡ length l.fn.self;
  flags : (q : ℕ) → has l.self q ≡ (has l.fn.self q && not (lists (take l.p-index l.p-items) q));
}
