use Rattle.std.proofs.Common.{refl}
use Rattle.wp_search_calls.proofs.ShuttleLemmas.{without_both-counts}
use Rattle.wp_search_calls.proofs.shuttle.fewer_tuples_want_fewer_words.Goals as goal

pub search_the_shuttle-requires-clause-counted : goal.search_the_shuttle-requires-clause-counted
search_the_shuttle-requires-clause-counted c κs bounds state reachable two p q less here there = refl

pub search_the_shuttle-requires-2-clause-counted : goal.search_the_shuttle-requires-2-clause-counted
search_the_shuttle-requires-2-clause-counted c κs bounds = without_both-counts
