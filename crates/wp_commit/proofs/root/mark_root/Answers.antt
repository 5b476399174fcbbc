use Rattle.std.proofs.Common.{◌≡◌, ◌++◌, ◌∷◌, [], List, refl, sym, ap, ◌∙◌, subst, arith, rules}
use Rattle.std.specs.List.{Contains}
use Rattle.wp_task.specs.Novelty.{novelty_of}
use Rattle.wp_novel.specs.Births.{BirthView, nodes_of}
use Rattle.wp_novel.specs.NoveltyTables.{placed}
use Rattle.wp_novel.specs.StandsFor.{StandsFor}
use Rattle.wp_commit.proofs.RootLemmas.{stands_empty}
use Rattle.wp_commit.proofs.root.mark_root.Goals as goal

pub returns-clause-stands : goal.returns-clause-stands
returns-clause-stands g c =
    let root = c.args.root in
    let births : c.of_vec.result ≡ root ∷ [] =
    c.of_vec.ensures ∙ (c.in_ok-push.ensures.items ∙ ap (λ items. items ++ root ∷ []) c.new-births.ensures.items) in
    subst (λ t. StandsFor (placed g.P.Places.places t) (root.node ∷ [])) (sym c.novelty.ensures.same)
    (subst (λ (l : List BirthView). StandsFor (placed g.P.Places.places c.mark_all.new.tables) (nodes_of l)) births
    (c.in_ok-births.ensures.stands [] (c.in_ok-open.ensures.stands []
    (stands_empty (placed g.P.Places.places c.args.tables.now) c.requires.empty c.requires.collected))))

pub returns-clause-novelty : goal.returns-clause-novelty
returns-clause-novelty g c =
    let root = c.args.root in
    let births : c.of_vec.result ≡ root ∷ [] =
    c.of_vec.ensures ∙ (c.in_ok-push.ensures.items ∙ ap (λ items. items ++ root ∷ []) c.new-births.ensures.items) in
    let slice : c.as_slice.result.now ≡ root ∷ [] = c.as_slice.ensures ∙ (c.in_ok-births.ensures.births ∙ births) in
    let b : BirthView = c.index-as_slice-0.result in
    let b_is : b ≡ root = search rules in
    let index = c.in_ok-births.ensures.index ∙ c.in_ok-open.ensures.index in
    let stands : StandsFor (placed g.P.Places.places c.mark_all.new.tables) (root.node ∷ []) =
    subst (λ (l : List BirthView). StandsFor (placed g.P.Places.places c.mark_all.new.tables) (nodes_of l)) births
    (c.in_ok-births.ensures.stands [] (c.in_ok-open.ensures.stands []
    (stands_empty (placed g.P.Places.places c.args.tables.now) c.requires.empty c.requires.collected))) in
    c.novelty.ensures.value (root.node ∷ []) stands (subst (λ (x : BirthView). Contains (root.node ∷ []) x.node) (sym b_is) (0, omega arith, refl))
    ∙ (λ j. novelty_of (index j).width (root.node ∷ []) (b_is j).node)
