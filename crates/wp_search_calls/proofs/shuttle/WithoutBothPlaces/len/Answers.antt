use Rattle.wp_search_calls.proofs.ShuttleLemmas.{without_both-apart}
use Rattle.wp_search_calls.proofs.shuttle.WithoutBothPlaces.len.Goals as goal

pub returns-clause-apart : goal.returns-clause-apart
returns-clause-apart c = without_both-apart
