use Rattle.std.proofs.Common.{◌≡◌, ◌≤◌, ◌-◌, length, sym, ap, ◌∙◌, subst, arith, rules}
use Rattle.wp_task.specs.Task.{PlanningTask}
use Rattle.wp_count.specs.Broods.{IsCountOn}
use Rattle.wp_plain.specs.Steps.{Asked}
use Rattle.wp_commit.specs.Expansions.{states_of, brood_of, AreNoRepeats}
use Rattle.wp_commit.proofs.EvaluationLemmas.{evaluated-now, successors-few, unseen-sized}
use Rattle.wp_commit.proofs.evaluation.children_now.Goals as goal

pub list-requires-clause-size : goal.list-requires-clause-size
list-requires-clause-size c = c.requires.size ∙ sym (ap (λ (a : Asked). a.task.atoms) c.run.view_is)

pub unseen-requires-clause-size : goal.unseen-requires-clause-size
unseen-requires-clause-size c = c.requires.size ∙ sym (ap (λ (a : Asked). a.task.atoms) c.run.view_is)

pub overflow_sub-repeats : goal.overflow_sub-repeats
overflow_sub-repeats c =
    let few : length c.in_ok-reached.reached.items ≤ length c.in_ok-acts.acts =
    successors-few c.run.inside.task.now.acts c.args.node.now.state c.in_ok-acts.acts (states_of c.args.nodes.now.kept)
    c.in_ok-reached.reached.items c.in_ok-reached.ensures in
    let all : length c.as_slice.result.now ≡ length c.in_ok-acts.acts = search rules in
    let rest : c.len.result ≡ length c.in_ok-reached.reached.items = search rules in
    omega arith

pub children_of-requires-clause-sizes : goal.children_of-requires-clause-sizes
children_of-requires-clause-sizes c =
    unseen-sized c.run.inside.task.now.acts c.args.node.now.state c.run.inside.task.now.atoms c.in_ok-acts.acts (states_of c.args.nodes.now.kept)
    c.in_ok-reached.reached.items (c.requires.size ∙ sym (ap (λ (a : Asked). a.task.atoms) c.run.view_is)) c.in_ok-reached.ensures

pub children_of-requires-clause-counts : goal.children_of-requires-clause-counts
children_of-requires-clause-counts c =
    let k = c.args.node.now in
    subst (λ (t : PlanningTask). IsCountOn t k.mark c.track-track.result.now) (sym (ap (λ (a : Asked). a.task) c.run.view_is))
    (subst (IsCountOn c.args.run.now.task k.mark) (sym c.track-track.ensures) c.requires.counts)

pub returns-clause-children : goal.returns-clause-children
returns-clause-children c =
    let nodes = c.args.nodes.now in
    let k = c.args.node.now in
    let children = c.in_ok-children.children.items in
    let all : length c.as_slice.result.now ≡ length c.in_ok-acts.acts = search rules in
    let rest : c.len.result ≡ length c.in_ok-reached.reached.items = search rules in
    let repeats = length c.as_slice.result.now - c.len.result in
    subst (λ (t : PlanningTask). AreNoRepeats (states_of nodes.kept) (brood_of t nodes k) children repeats) (ap (λ (a : Asked). a.task) c.run.view_is)
    (evaluated-now c.run.inside.task.now nodes k c.in_ok-acts.acts c.track-track.result.now c.in_ok-reached.reached.items children repeats
    c.in_ok-acts.ensures.value c.track-track.ensures c.in_ok-reached.ensures c.in_ok-children.ensures.value (λ j. all j - rest j))
