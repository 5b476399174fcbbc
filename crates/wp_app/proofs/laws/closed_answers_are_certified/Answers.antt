use Rattle.wp_app.proofs.ClosedLaws.{closed_certified}
use Rattle.wp_app.proofs.laws.closed_answers_are_certified.Goals as goal

pub returns : goal.returns
returns c = closed_certified c.comments_join.ensures c.emptied_searches_keep_few.ensures c.emptied_output_is_certified.ensures
