use Rattle.wp_ladder.proofs.StepLemmas.{IsFollowed}
use Rattle.wp_ladder.proofs.elimination.follow.Given as goal

abbrev pub invariant-loop-a : goal.invariant-loop-a
invariant-loop-a l = IsFollowed l.task.acts l.fn.state l.steps l.a-index l.state l.taken.items
