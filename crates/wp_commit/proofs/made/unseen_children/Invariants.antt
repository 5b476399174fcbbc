use Rattle.std.proofs.Common.{◌≡◌, ◌++◌, map}
use Rattle.std.specs.Vec.Iter.{into_iter_items}
use Rattle.wp_plain.specs.Expansion.{unseen}
use Rattle.wp_commit.specs.Expansions.{states_of}
use Rattle.wp_commit.specs.MadeChildren.{reached_as}
use Rattle.wp_commit.proofs.made.unseen_children.Given as goal

-- those so far, and what is unseen of the rest, are all that is unseen
abbrev pub invariant-loop-child : goal.invariant-loop-child
invariant-loop-child l =
    l.reached.keys
    ++ unseen (λ x. x.state) (states_of l.nodes.kept ++ map (λ x. x.state) l.reached.keys) (map reached_as (into_iter_items l.child-iterator))
    ≡ unseen (λ x. x.state) (states_of l.nodes.kept) (map reached_as l.fn.children.items)
