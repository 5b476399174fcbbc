use Rattle.std.proofs.Common.{◌≡◌, ◌++◌, drop}
use Rattle.wp_plain.specs.Explored.{borns_by}
use Rattle.wp_plain.proofs.telling.borns_from.Given as goal

abbrev pub invariant-loop-number : goal.invariant-loop-number
invariant-loop-number l =
    l.born.items ++ borns_by (drop l.number l.explored.nodes.items) (drop l.number l.explored.ways.items)
    ≡ borns_by (drop l.first l.explored.nodes.items) (drop l.first l.explored.ways.items)
