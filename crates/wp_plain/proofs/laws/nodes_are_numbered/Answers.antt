use Rattle.wp_plain.proofs.NextNodes.{nodes_are_numbered}
use Rattle.wp_plain.proofs.laws.nodes_are_numbered.Goals as goal

pub returns : goal.returns
returns c = nodes_are_numbered
