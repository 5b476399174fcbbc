use Rattle.std.proofs.Common.{◌≡◌, map, take}
use Rattle.wp_task.proofs.tables.add_effects.Given as goal

abbrev pub invariant-loop-act : goal.invariant-loop-act
invariant-loop-act l = l.flat ≡ map (λ act. act.add) (take l.act-index l.act-items)
