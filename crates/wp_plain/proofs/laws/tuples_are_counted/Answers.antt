use Rattle.wp_plain.proofs.NewTuples.{all_are_counted}
use Rattle.wp_plain.proofs.LimitLemmas.{tuples_are_counted}
use Rattle.wp_plain.proofs.laws.tuples_are_counted.Goals as goal

pub returns : goal.returns
returns c = record { number = tuples_are_counted; all = all_are_counted }
