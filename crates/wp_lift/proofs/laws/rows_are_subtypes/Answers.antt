use Rattle.wp_lift.proofs.SubtypeLemmas.{rows-subtypes}
use Rattle.wp_lift.proofs.laws.rows_are_subtypes.Goals as goal

pub returns : goal.returns
returns c = rows-subtypes
