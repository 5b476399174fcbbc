use Rattle.std.proofs.Common.{◌≡◌, ◌++◌, drop}
use Rattle.wp_report.specs.Endings.{plan_text}
use Rattle.wp_report.proofs.endings.put_plan.Given as goal

abbrev pub invariant-loop-a : goal.invariant-loop-a
invariant-loop-a l =
    l.out.items ++ plan_text l.names (drop l.a-index l.a-items) ≡ l.fn.out.items ++ plan_text l.names l.plan
