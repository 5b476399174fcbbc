use Rattle.wp_plain.proofs.CounterPairs.{pairs_are_few}
use Rattle.wp_plain.proofs.SparseLemmas.{kept_are_first}
use Rattle.wp_plain.proofs.LimitLemmas.{expansions_are_few}
use Rattle.wp_plain.proofs.laws.expansions_are_few.Goals as goal

pub returns : goal.returns
returns c = record { kept = kept_are_first; expanded = expansions_are_few; pairs = pairs_are_few }
