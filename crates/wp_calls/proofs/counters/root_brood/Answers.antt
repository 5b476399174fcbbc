use Rattle.wp_calls.proofs.counters.root_brood.Goals as goal

pub brood_of-requires-clause-size : goal.brood_of-requires-clause-size
brood_of-requires-clause-size c κs = c.in_ok-state.ensures.marked.size

pub brood_of-requires-clause-marked : goal.brood_of-requires-clause-marked
brood_of-requires-clause-marked c κs = c.in_ok-state.ensures.marked.fits
