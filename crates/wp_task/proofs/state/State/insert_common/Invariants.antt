use Rattle.std.proofs.Common.{◌≡◌, ◌&&◌, ◌||◌, ℕ, length, take}
use Rattle.wp_task.specs.Set.{has, lists, atoms_in}
use Rattle.wp_task.proofs.state.State.insert_common.Given as goal

abbrev pub invariant-loop-p : goal.invariant-loop-p
invariant-loop-p l = record {
  size : length l.self ≡ length l.fn.self;
  flags : (q : ℕ) → has l.self q ≡ (has l.fn.self q || (lists (take l.p-index l.p-items) q && has l.other q));
  count : l.count ≡ length (atoms_in l.self);
}
