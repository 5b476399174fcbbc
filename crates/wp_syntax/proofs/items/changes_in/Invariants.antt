use Rattle.std.proofs.Common.{◌≡◌}
use Rattle.wp_syntax.specs.Items.{changes_in}
use Rattle.wp_syntax.proofs.items.changes_in.Given as goal

abbrev pub invariant-loop-item : goal.invariant-loop-item
invariant-loop-item l = l.changes.items ≡ changes_in l.yielded
