use Rattle.wp_novel.proofs.FirstLemmas.{first_number_is_first}
use Rattle.wp_novel.proofs.laws.first_numbers_are_first.Goals as goal

pub returns : goal.returns
returns c = first_number_is_first
