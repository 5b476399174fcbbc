use Rattle.std.proofs.Common.{rules}
use Rattle.std.proofs.lemmas.List.Sorted.{answers_always}
use Rattle.wp_nodes.specs.declared.kept.Kept.{Kept}
use Rattle.wp_nodes.proofs.NumberLemmas.{searched}
use Rattle.wp_nodes.proofs.nodes.place_of.Goals as goal

pub returns-clause-found : goal.returns-clause-found
returns-clause-found c = rw c.ok.ensures.value
    (searched c.args.nodes.now c.args.number c.binary_search_by_key.result c.requires c.binary_search_by_key.ensures.bound
    (c.binary_search_by_key.ensures.position (λ (k : Kept). k.number) (answers_always _ _ _ (λ f a r g called. search rules)))).0

pub returns-clause-none : goal.returns-clause-none
returns-clause-none c = rw c.ok.ensures.value
    (searched c.args.nodes.now c.args.number c.binary_search_by_key.result c.requires c.binary_search_by_key.ensures.bound
    (c.binary_search_by_key.ensures.position (λ (k : Kept). k.number) (answers_always _ _ _ (λ f a r g called. search rules)))).1
