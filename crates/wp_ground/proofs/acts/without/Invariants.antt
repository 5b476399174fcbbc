use Rattle.wp_ground.proofs.WithoutLemmas.{IsWalking}
use Rattle.wp_ground.proofs.acts.without.Given as goal

abbrev pub invariant-loop-number : goal.invariant-loop-number
invariant-loop-number l = IsWalking l.numbers l.others l.number-index l.rest.items l.passed
