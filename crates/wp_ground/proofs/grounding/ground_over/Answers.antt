use Rattle.wp_lift.specs.Worlds.{among}
use Rattle.wp_ground.proofs.ActLemmas.{steps-there}
use Rattle.wp_ground.proofs.grounding.ground_over.Goals as goal

pub named_task-requires-clause-there : goal.named_task-requires-clause-there
named_task-requires-clause-there c =
    steps-there c.args.lifted.now (among c.args.reached.now) c.args.steps.now c.requires.steps
