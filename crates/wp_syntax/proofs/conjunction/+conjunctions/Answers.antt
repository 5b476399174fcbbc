use Rattle.std.proofs.Common.{ap, sym, ◌∙◌}
use Rattle.wp_lex.specs.Node.{tree_of}
use Rattle.wp_syntax.proofs.ConjunctionLemmas.{conjuncts_added}
use Rattle.wp_syntax.proofs.conjunction.+conjunctions.Goals as goal

pub conjunction-returns-then-is_word : goal.conjunction-returns-then-is_word
conjunction-returns-then-is_word g t c =
    conjuncts_added g.C.Conjunct.plain_of c.conjuncts.result _ _ _ _ _ _ _ _ _
    (ap tree_of c.in-List.is) c.in-Some-Word-default.ensures.trees (ap tree_of c.in-Some-Word-default.field-0-0-is)
    (sym c.is_word.ensures ∙ c.if-is_word.true) c.conjuncts.ensures
