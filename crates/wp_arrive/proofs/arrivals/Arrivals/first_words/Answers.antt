use Rattle.std.proofs.Common.{ap, arith}
use Rattle.wp_arrive.specs.Seen.{TableId}
use Rattle.wp_arrive.proofs.arrivals.Arrivals.first_words.Goals as goal

pub returns-clause-some : goal.returns-clause-some
returns-clause-some c = omega (arith, c.self.invariant.1, ap (λ (z : TableId). z.words) c.self.view_is)
