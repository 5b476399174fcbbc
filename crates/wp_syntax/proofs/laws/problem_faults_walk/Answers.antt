use Rattle.std.proofs.Common.{length}
use Rattle.wp_lex.specs.Items.{items_of}
use Rattle.wp_lex.specs.Trees.{trees_of}
use Rattle.wp_syntax.proofs.ProblemOrder.{problem_walks, missing_last}
use Rattle.wp_syntax.proofs.laws.problem_faults_walk.Goals as goal

pub returns : goal.returns
returns c = λ text. record {
  parts = missing_last (trees_of (items_of text));
  order = problem_walks (trees_of (items_of text)) (length text) (c.texts_rise.ensures text);
}
