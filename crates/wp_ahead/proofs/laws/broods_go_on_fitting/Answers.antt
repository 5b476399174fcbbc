use Rattle.wp_ahead.proofs.FitLemmas.{fits_on}
use Rattle.wp_ahead.proofs.laws.broods_go_on_fitting.Goals as goal

pub returns : goal.returns
returns c = fits_on
