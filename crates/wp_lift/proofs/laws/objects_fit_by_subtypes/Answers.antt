use Rattle.wp_lift.proofs.FitLemmas.{fit-subtypes}
use Rattle.wp_lift.proofs.laws.objects_fit_by_subtypes.Goals as goal

pub returns : goal.returns
returns c = fit-subtypes
