use Rattle.wp_ground.specs.Taking.{IsWhole}
use Rattle.wp_ground.proofs.grounding.ground.Goals as goal

pub ground_over-requires-clause-reached : goal.ground_over-requires-clause-reached
ground_over-requires-clause-reached c =
    let whole : IsWhole c.args.lifted.now 1048576 c.in-Some.found = rw c.in-Some.is at c.in_ok-found.ensures in whole.reached_is

pub ground_over-requires-clause-steps : goal.ground_over-requires-clause-steps
ground_over-requires-clause-steps c =
    let whole : IsWhole c.args.lifted.now 1048576 c.in-Some.found = rw c.in-Some.is at c.in_ok-found.ensures in whole.steps_are
