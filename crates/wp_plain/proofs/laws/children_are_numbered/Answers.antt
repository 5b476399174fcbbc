use Rattle.wp_plain.proofs.ChildLemmas.{children_are_numbered}
use Rattle.wp_plain.proofs.laws.children_are_numbered.Goals as goal

pub returns : goal.returns
returns c = children_are_numbered
