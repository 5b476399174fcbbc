use Rattle.std.proofs.Common.{◌≡◌, drop, map}
use Rattle.std.specs.List.{fold}
use Rattle.wp_plain.specs.Pairs.{with_pair}
use Rattle.wp_plain.specs.Explored.{child_pair}
use Rattle.wp_plain.proofs.pairs.more_pairs.Given as goal

abbrev pub invariant-loop-child : goal.invariant-loop-child
invariant-loop-child l = fold with_pair l.more.items (map child_pair (drop l.child-index l.children)) ≡ fold with_pair l.pairs (map child_pair l.children)
