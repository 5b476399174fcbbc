use Rattle.wp_cert.proofs.LawLemmas.{kept_are_certified}
use Rattle.wp_cert.proofs.laws.kept_states_are_certified.Goals as goal

pub returns : goal.returns
returns c = kept_are_certified
