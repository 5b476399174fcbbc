use Rattle.std.proofs.Common.{ℕ}
use Rattle.std.specs.Global.{Vec}
use Rattle.std.proofs.lemmas.Result.{IfOk-weaker}
use Rattle.wp_count.specs.declared.brood.Child.{Child}
use Rattle.wp_commit.specs.Expansions.{states_of, brood_of, AreNoRepeats, AreChildrenAt}
use Rattle.wp_commit.proofs.EvaluationLemmas.{brood-few, made-of}
use Rattle.wp_commit.proofs.evaluation.children_at.Goals as goal

pub without_repeats-requires-clause-size : goal.without_repeats-requires-clause-size
without_repeats-requires-clause-size c =
    (c.requires.taken.2.2.holds.nodes.on_paths c.node_at-node.result.now c.node_at-node.ensures.there).marked.size

pub without_repeats-requires-clause-counts : goal.without_repeats-requires-clause-counts
without_repeats-requires-clause-counts c =
    let fits = (c.requires.taken.2.2.holds.nodes.on_paths c.node_at-node.result.now c.node_at-node.ensures.there).marked.fits in
    record { size = fits.size; tracked = fits.tracked; count = fits.count }

pub without_repeats-requires-clause-made : goal.without_repeats-requires-clause-made
without_repeats-requires-clause-made c =
    let task = c.args.run.now.task in
    let nodes = c.args.searched.now.nodes in
    made-of task nodes c.args.number c.node_at-node.result.now c.take-made.result c.node_at-node.ensures.node
    (c.take-made.ensures.brood task nodes c.requires.fit)

pub returns-clause-children : goal.returns-clause-children
returns-clause-children c =
    let task = c.args.run.now.task in
    let s = c.args.searched.now in
    let at = c.node_at-node.ensures in
    IfOk-weaker c.without_repeats.result
    (λ (parts : Vec Child × ℕ). AreNoRepeats (states_of s.nodes.kept) (brood_of task s.nodes c.node_at-node.result.now) parts.0.items parts.1)
    (λ (parts : Vec Child × ℕ). AreChildrenAt task s c.args.number parts.0.items parts.1)
    (λ parts none. record {
      node = c.node_at-node.result.now;
      found = at.node;
      there = at.there;
      named = at.named;
      tracked = at.track;
      linked = at.linked;
      unseen_are = none.unseen_are;
      repeats_are = none.repeats_are;
      few = brood-few task s.nodes c.node_at-node.result.now;
    })
    c.without_repeats.ensures.children
