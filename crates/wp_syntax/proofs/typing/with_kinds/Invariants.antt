use Rattle.std.proofs.Common.{◌≡◌, ◌++◌}
use Rattle.wp_syntax.specs.Typing.{with_kinds}
use Rattle.wp_syntax.proofs.typing.with_kinds.Given as goal

abbrev pub invariant-loop-name : goal.invariant-loop-name
invariant-loop-name l = l.done.items ≡ l.fn.done.items ++ with_kinds l.kinds l.yielded
