use Rattle.std.proofs.Common.{length}
use Rattle.wp_lex.specs.Items.{items_of}
use Rattle.wp_lex.specs.Trees.{trees_of}
use Rattle.wp_syntax.proofs.DomainOrder.{domain_walks}
use Rattle.wp_syntax.proofs.laws.domain_faults_walk.Goals as goal

pub returns : goal.returns
returns c = λ text. domain_walks (trees_of (items_of text)) (length text) (c.texts_rise.ensures text)
