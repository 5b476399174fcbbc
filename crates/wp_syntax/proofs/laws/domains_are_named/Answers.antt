use Rattle.wp_lex.specs.declared.place.Source.TheVariants.{Pddl}
use Rattle.wp_lex.specs.Items.{items_of}
use Rattle.wp_lex.specs.Trees.{trees_of}
use Rattle.wp_syntax.proofs.DomainWords.{domain_named}
use Rattle.wp_syntax.proofs.laws.domains_are_named.Goals as goal

pub returns : goal.returns
returns c = λ text read e. domain_named (trees_of (items_of text)) read (c.leaves_are_words.ensures Pddl text) e
