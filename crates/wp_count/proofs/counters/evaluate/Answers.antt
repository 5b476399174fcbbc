use Rattle.std.proofs.Common.{◌≡◌, true, cond, sym, ap, ◌∙◌, subst}
use Rattle.std.specs.Prelude.{IfOk, nat_lt}
use Rattle.std.proofs.lemmas.Bool.{lt-ltb}
use Rattle.wp_task.specs.Task.{goal_counter}
use Rattle.wp_count.specs.Broods.{with_achieved, base_child, later_child}
use Rattle.wp_count.proofs.counters.evaluate.Goals as goal

pub returns-then-g-mark-clause-value : goal.returns-then-g-mark-clause-value
returns-then-g-mark-clause-value c =
    let task = c.args.task.now in
    let mark = c.args.mark.now in
    let track = c.args.track.now in
    let state = c.args.state in
    let falls : nat_lt (goal_counter task.goals state) mark.g ≡ true =
    ap (λ g. nat_lt g mark.g) (sym c.unmet_goals-g.ensures) ∙ lt-ltb c.unmet_goals-g.result mark.g c.if-g-mark.true in
    subst (λ v. IfOk c.base_child.result (λ child. child ≡ v))
    (ap (λ b. cond b (base_child task c.args.a state) (later_child task c.args.a state (with_achieved mark.got track state))) (sym falls))
    c.base_child.ensures.value
