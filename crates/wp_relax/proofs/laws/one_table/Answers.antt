use Rattle.wp_relax.proofs.Unique.{one_table}
use Rattle.wp_relax.proofs.laws.one_table.Goals as goal

pub returns : goal.returns
returns c = one_table
