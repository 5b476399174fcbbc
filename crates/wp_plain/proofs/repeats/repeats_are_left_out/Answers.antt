use Rattle.wp_plain.proofs.UnseenLemmas.{repeats_are_left_out}
use Rattle.wp_plain.proofs.repeats.repeats_are_left_out.Goals as goal

pub returns : goal.returns
returns c = repeats_are_left_out
