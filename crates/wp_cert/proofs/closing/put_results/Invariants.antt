use Rattle.std.proofs.Common.{◌≡◌, ℕ, fold, map, take}
use Rattle.wp_task.specs.Task.{act_at, result_of}
use Rattle.wp_cert.specs.Closing.{with_state}
use Rattle.wp_cert.proofs.closing.put_results.Given as goal

abbrev pub invariant-loop-a : goal.invariant-loop-a
invariant-loop-a l =
    l.found.keys ≡ fold with_state l.fn.found.keys (map (λ (a : ℕ). result_of (act_at l.task.acts a) l.state) (take l.a-index l.acts))
