use Rattle.wp_lift.specs.Worlds.{among}
use Rattle.wp_check.specs.Printed.{naming_steps}
use Rattle.wp_check.proofs.NamingSteps.{steps-words}
use Rattle.wp_check.proofs.laws.valid_plans_are_read_back.Goals as goal

pub returns : goal.returns
returns c = λ lifted plan comments words names valid after. record {
  read =
      c.printed_plans_are_read.ensures (naming_steps lifted plan) comments
      (steps-words lifted (among lifted.opening) plan words names valid) after;
  valid = c.valid_plans_give_valid_steps.ensures lifted plan names valid;
}
