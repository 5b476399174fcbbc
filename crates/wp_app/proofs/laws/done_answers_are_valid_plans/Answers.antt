use Rattle.wp_app.proofs.StatusLaws.{done_answers}
use Rattle.wp_app.proofs.laws.done_answers_are_valid_plans.Goals as goal

pub returns : goal.returns
returns c = done_answers c.found_plans_are_read_back.ensures
