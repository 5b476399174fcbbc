use Rattle.std.proofs.Common.{◌≡◌, ◌++◌, drop, map}
use Rattle.wp_plain.specs.Expansion.{unseen}
use Rattle.wp_commit.specs.Expansions.{states_of, successors_by}
use Rattle.wp_commit.proofs.unseen.unseen.Given as goal

-- those so far, and what is unseen of the rest, are all that is unseen
abbrev pub invariant-loop-act : goal.invariant-loop-act
invariant-loop-act l =
    l.reached.keys
    ++ unseen (λ x. x.state) (states_of l.nodes.kept ++ map (λ x. x.state) l.reached.keys) (successors_by l.task.acts l.state (drop l.act-index l.act-items))
    ≡ unseen (λ x. x.state) (states_of l.nodes.kept) (successors_by l.task.acts l.state l.act-items)
