use Rattle.std.proofs.Common.{◌≡◌, length, map, take}
use Rattle.wp_task.proofs.tables.need_counts.Given as goal

abbrev pub invariant-loop-act : goal.invariant-loop-act
invariant-loop-act l = l.counts.items ≡ map (λ act. length act.pre) (take l.act-index l.act-items)
