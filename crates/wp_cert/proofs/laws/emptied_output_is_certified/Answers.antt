use Rattle.wp_cert.proofs.OutputLemmas.{output_certified}
use Rattle.wp_cert.proofs.laws.emptied_output_is_certified.Goals as goal

pub returns : goal.returns
returns c =
    output_certified c.endings_answer.ensures.all c.emptied_searches_keep_few.ensures c.kept_states_are_certified.ensures
    c.texts_are_read.ensures.commented c.closed_states_are_reachable.ensures.all
