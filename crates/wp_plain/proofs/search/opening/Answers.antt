use Rattle.std.proofs.Common.{◌≡◌, ◌++◌, ◌∷◌, [], Bool, List, None, ℕ, refl, ap, subst, ◌∙◌}
use Rattle.wp_task.specs.declared.track.Mark.{Mark}
use Rattle.wp_task.specs.Novelty.{novelty_of}
use Rattle.wp_relax.specs.RelaxedPlan.{relaxed_atoms_of}
use Rattle.wp_count.specs.Broods.{root_mark}
use Rattle.wp_count.specs.Laws.{IsMarked}
use Rattle.wp_plain.specs.Nodes.{generated_in}
use Rattle.wp_plain.specs.declared.explored.Way.{Way}
use Rattle.wp_plain.specs.Expansion.{path_counters, generated_at, root_node}
use Rattle.wp_plain.proofs.OpeningLemmas.{root-generated, root-node, opening-stands}
use Rattle.wp_plain.proofs.search.opening.Goals as goal

pub returns : goal.returns
returns c =
    let task = c.args.task.now in
    let settings = c.args.settings.now in
    let law = c.counters_are_carried.ensures in
    let root = c.in_ok-state.ensures.value in
    let marked : IsMarked task task.init [] (root_mark task) (relaxed_atoms_of task.acts task.goals task.init) =
    subst (λ (r : List Bool × Mark × List ℕ). IsMarked task r.0 [] r.1 r.2) root c.in_ok-state.ensures.marked in
    let x_is : c.of-generated.result ≡ generated_at (path_counters task) [] 0 task.init =
    c.of-generated.ensures
    ∙ root-generated task settings law.counters marked c.in_ok-state.state c.in_ok-state.mark (ap (λ parts. parts.0) root) (ap (λ parts. parts.1) root) in
    let w_is : c.in_ok-w.w ≡ novelty_of settings.width [] c.of-generated.result =
    c.in_ok-w.ensures.value
    ∙ ap (λ nodes. novelty_of settings.width (generated_in nodes) c.of-generated.result) (c.deref.ensures.value ∙ c.new-nodes.ensures.items) in
    let node : c.of.result ≡ root_node task settings =
    c.of.ensures ∙ root-node task settings law.counters marked c.of-generated.result c.in_ok-w.w x_is w_is in
    let mark = c.in_ok-state.mark in
    opening-stands task settings law.counters marked
    (record { nodes = c.push.new.self; ways = c.push-3.new.self; tracks = c.push-4.new.self; pairs = c.push-2.new.self; expanded = 0; repeats = 0 })
    mark c.in_ok-state.track (ap (λ parts. parts.1) root) (ap (λ parts. parts.2) root)
    (c.in_ok-push.ensures.items ∙ (λ j. c.new-nodes.ensures.items j ++ node j ∷ []))
    (c.in_ok-push-3.ensures.items ∙ ap (λ (ways : List Way). ways ++ record { back = None; mark = mark } ∷ []) c.new-ways.ensures.items)
    (c.in_ok-push-4.ensures.items ∙ ap (λ tracks. tracks ++ c.in_ok-state.track ∷ []) c.new-tracks.ensures.items)
    (c.in_ok-push-2.ensures.items ∙ ap (λ pairs. pairs ++ (mark.g, mark.r) ∷ []) c.new-pairs.ensures.items)
    refl refl
