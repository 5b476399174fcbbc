use Rattle.std.proofs.Common.{◌≡◌, ◌+◌, ◌-◌}
use Rattle.std.specs.List.{position_or_len, range_with_len}
use Rattle.wp_task.specs.Novelty.{has_new, novelty_of}
use Rattle.wp_plain.specs.Nodes.{generated_in}
use Rattle.wp_plain.proofs.novelty.novelty.Given as goal

abbrev pub invariant-loop-size : goal.invariant-loop-size
invariant-loop-size l =
    l.size + position_or_len (has_new (generated_in l.nodes) l.x) (range_with_len l.size ((l.width + 1) - l.size)) ≡ novelty_of l.width (generated_in l.nodes) l.x
