use Rattle.std.proofs.Common.{◌≡◌, ◌++◌, map}
use Rattle.std.specs.Vec.Iter.{into_iter_items}
use Rattle.wp_plain.specs.Nodes.{states_kept}
use Rattle.wp_plain.specs.Expansion.{unseen}
use Rattle.wp_plain.proofs.repeats.unseen.Given as goal

abbrev pub invariant-loop-child : goal.invariant-loop-child
invariant-loop-child l =
    l.fresh.items ++ unseen (λ c. c.state) (states_kept l.nodes ++ map (λ c. c.state) l.fresh.items) (into_iter_items l.child-iterator)
    ≡ unseen (λ c. c.state) (states_kept l.nodes) l.fn.children.items
