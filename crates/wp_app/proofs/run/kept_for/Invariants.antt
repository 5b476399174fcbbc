use Rattle.std.proofs.Common.{◌≡◌}
use Rattle.std.specs.List.{filter}
use Rattle.wp_app.specs.Requests.{keeps_kind}
use Rattle.wp_app.proofs.run.kept_for.Given as goal

abbrev pub invariant-loop-watch : goal.invariant-loop-watch
invariant-loop-watch g l =
    let kind = λ (b : _). (goal.Watch-dyn g (b.vtable, b.value)).kind b.value in
    l.kept.items ≡ filter (λ watch. keeps_kind l.command (kind watch)) l.yielded
