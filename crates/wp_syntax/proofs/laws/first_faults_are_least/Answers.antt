use Rattle.std.proofs.Common.{length, ◌*◌}
use Rattle.wp_lex.specs.Items.{items_of}
use Rattle.wp_lex.specs.Trees.{trees_of}
use Rattle.wp_syntax.specs.Domains.{domain_of}
use Rattle.wp_syntax.proofs.Order.{first_least}
use Rattle.wp_syntax.proofs.DomainOrder.{domain_walks}
use Rattle.wp_syntax.proofs.ProblemOrder.{met_least}
use Rattle.wp_syntax.proofs.laws.first_faults_are_least.Goals as goal

pub returns : goal.returns
returns c = record {
  domains = λ text fault e. first_least 0 (5 * length text) fault (domain_of (trees_of (items_of text))).faults
      (domain_walks (trees_of (items_of text)) (length text) (c.texts_rise.ensures text)) e;
  problems = λ text fault e. met_least (trees_of (items_of text)) (length text) fault (c.texts_rise.ensures text) e;
}
