use Rattle.wp_plain.proofs.RunLemmas.{is_taken}
use Rattle.wp_plain.proofs.laws.steps_are_taken.Goals as goal

pub returns : goal.returns
returns c task settings tuples = is_taken task settings tuples
