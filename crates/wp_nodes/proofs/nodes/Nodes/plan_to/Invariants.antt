use Rattle.std.proofs.Common.{◌≡◌, ℕ, List, ◌++◌, reverse}
use Rattle.wp_nodes.specs.KeptNodes.{IsKept}
use Rattle.wp_nodes.specs.Links.{FollowLinks}
use Rattle.wp_nodes.proofs.nodes.Nodes.plan_to.Given as goal

-- the plan to the node in hand, and then the actions so far from the last on, are the plan that is asked for
abbrev pub invariant-loop-back : goal.invariant-loop-back
invariant-loop-back l = record {
  kept : IsKept l.self.kept l.at;
  so_far : (plans : ℕ → List ℕ) → FollowLinks l.self.kept plans → plans l.at ++ reverse l.acts.items ≡ plans l.number;
}

abbrev pub decreases-loop-back : goal.decreases-loop-back
decreases-loop-back l = l.at
