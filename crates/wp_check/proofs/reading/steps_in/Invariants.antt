use Rattle.std.proofs.Common.{◌≡◌, ◌<◌, ◌^◌, length}
use Rattle.std.specs.Prelude.{All}
use Rattle.wp_lex.specs.Trees.{trees_of}
use Rattle.wp_check.specs.declared.step.Step.{Step}
use Rattle.wp_check.specs.PlanFile.{steps_of}
use Rattle.wp_check.proofs.Fronts.{with_all}
use Rattle.wp_check.proofs.reading.steps_in.Given as goal

abbrev pub invariant-loop-node : goal.invariant-loop-node
invariant-loop-node l = record {
  steps : with_all l.steps.items (steps_of (trees_of l.rest)) ≡ steps_of (trees_of l.fn.items);
  short : All (λ (step : Step). length step.args < 2 ^ 32) l.steps.items;
}

abbrev pub decreases-loop-node : goal.decreases-loop-node
decreases-loop-node l = length l.rest
