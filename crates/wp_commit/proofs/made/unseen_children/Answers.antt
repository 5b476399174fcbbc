use Rattle.std.proofs.Common.{◌≡◌, ◌++◌, ◌∷◌, List, map, sym, ap, ◌∙◌}
use Rattle.std.specs.Vec.Iter.{into_iter_items}
use Rattle.wp_count.specs.declared.brood.Child.{Child}
use Rattle.wp_plain.specs.Expansion.{unseen}
use Rattle.wp_plain.proofs.UnseenLemmas.{unseen-next}
use Rattle.wp_commit.specs.declared.made.Evaluated.{Evaluated}
use Rattle.wp_commit.specs.declared.unseen.Reached.{Reached}
use Rattle.wp_commit.specs.Expansions.{states_of}
use Rattle.wp_commit.specs.MadeChildren.{reached_as}
use Rattle.wp_commit.proofs.made.unseen_children.Goals as goal

pub loop-child-preserved : goal.loop-child-preserved
loop-child-preserved c =
    let kept = states_of c.args.nodes.now.kept in
    let before = c.loop-child.reached.keys in
    let left = into_iter_items c.next.new.self in
    let steps : into_iter_items c.loop-child.child-iterator ≡ c.in-Some.child ∷ left = c.in-Some.ensures.steps.0 in
    let seen = kept ++ map (λ (y : Reached Evaluated). y.state) before in
    unseen-next (λ (y : Reached Evaluated). y.state) kept before c.insert_unseen.new.reached.keys c.taken_apart.result (map reached_as left) c.in_ok-insert_unseen.ensures
    ∙ ((λ j. before ++ unseen (λ (y : Reached Evaluated). y.state) seen (c.taken_apart.ensures j ∷ map reached_as left))
    ∙ (ap (λ (l : List Child). before ++ unseen (λ (y : Reached Evaluated). y.state) seen (map reached_as l)) (sym steps)
    ∙ c.loop-child.invariant))
