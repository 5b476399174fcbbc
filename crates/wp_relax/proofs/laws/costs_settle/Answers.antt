use Rattle.wp_relax.proofs.Settling.{costs_settle}
use Rattle.wp_relax.proofs.laws.costs_settle.Goals as goal

pub returns : goal.returns
returns c = costs_settle
