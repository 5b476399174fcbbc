use Rattle.wp_plain.proofs.SmallLemmas.{numbers_are_small}
use Rattle.wp_plain.proofs.laws.numbers_are_small.Goals as goal

pub returns : goal.returns
returns c = numbers_are_small
