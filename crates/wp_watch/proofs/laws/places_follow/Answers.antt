use Rattle.wp_watch.proofs.PlaceLemmas.{places_follow, one_more_is_told, one_more_can_be_told, texts_are_said}
use Rattle.wp_watch.proofs.laws.places_follow.Goals as goal

pub returns-clause-follow : goal.returns-clause-follow
returns-clause-follow c = places_follow

pub returns-clause-more : goal.returns-clause-more
returns-clause-more c = one_more_is_told

pub returns-clause-can : goal.returns-clause-can
returns-clause-can c = one_more_can_be_told

pub returns-clause-texts : goal.returns-clause-texts
returns-clause-texts c = texts_are_said
