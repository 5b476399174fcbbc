use Rattle.std.proofs.Common.{◌≡◌}
use Rattle.wp_syntax.specs.Items.{literals_in}
use Rattle.wp_syntax.proofs.items.literals_in.Given as goal

abbrev pub invariant-loop-fact : goal.invariant-loop-fact
invariant-loop-fact l = l.literals.items ≡ literals_in l.yielded
