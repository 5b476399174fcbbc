use Rattle.std.proofs.Common.{rules}
use Rattle.wp_lex.specs.Trees.{trees_of}
use Rattle.wp_syntax.proofs.LimitLemmas.{read_limited}
use Rattle.wp_syntax.proofs.read.read_domain.Goals as goal

pub returns-in-Ok-clause-limits : goal.returns-in-Ok-clause-limits
returns-in-Ok-clause-limits c = read_limited (trees_of c.args.tree.now) c.domain_from.result (search rules)
